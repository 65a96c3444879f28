-- Load's questions of a path, 13 to 16: the number by the code's tests is that of the first no.
use Rattle.std.specs.Prelude.{◌≡◌, refl, Bool, true, not, ◌&&◌, ◌↔◌, ℕ, zero, suc, eqb, nat_abs}
use Rattle.std.proofs.Common.{ap, arith, le-leb, ne_eqb}
use Rattle.question.specs.declared.Question.{Question}
use Rattle.whole.specs.laws.Test.{joined}
use Rattle.plane.specs.declared.point.Point.{Point}
use Rattle.plane.specs.Travel.{visits_inside}
use Rattle.circle.specs.declared.plane.Offset.{Offset}
use Rattle.circle.specs.Circle.{on_circle}
use Rattle.circle.proofs.laws.Circle.{on_circle_to, on_circle_of}
use Rattle.line.specs.Line.{differ}
use Rattle.arc.specs.Centre.{seen_from, back_from}
use Rattle.arc.specs.computed.Arc.{arc_after, arc_cycles}
use Rattle.block.specs.declared.Block.{Block}
use Rattle.block.specs.declared.Path.{Path}
use Rattle.block.specs.Block.{square_of, arc_of}
use Rattle.block.specs.Questions.{offset_right}
use Rattle.block.specs.computed.Questions.{path_no}
use Rattle.block.proofs.laws.Begin.{offset_right_lem, square_some, square_most, start_on}
use Rattle.work.specs.declared.Work.{Work}
use Rattle.work.specs.Work.{is_nothing}
use Rattle.settings.specs.declared.Settings.{Settings}
use Rattle.work.specs.laws.Left.{nothing_is}
use Rattle.demands.specs.Block.{CentreRight, EndOnCircle, path_questions}
use Rattle.demands.proofs.laws.Asked.{Verdict, questioned, none_asked}
use Rattle.demands.proofs.laws.Bench.{line_differs, visits_is}

pub nothing_iff : (w : Work) → (is_nothing w ≡ true) ↔ (w ≡ Work.Nothing)
nothing_iff w = (nothing_is w, λ e. ap is_nothing e)

pub centre_is : (centre : Offset) → (offset_right centre ≡ true) ↔ CentreRight centre
centre_is o = (
  λ e. let r = offset_right_lem o e in record { x = r.x; y = r.y; some = λ z. omega (arith, r.some) },
  λ c. joined (joined (le-leb _ _ c.x) (le-leb _ _ c.y)) (by (nat_abs o.x) (nat_abs o.y) c.some),
)
  where
    by : (a b : ℕ) → ¬ ((a ≡ 0) × (b ≡ 0)) → not (eqb a 0 && eqb b 0) ≡ true
    by zero zero f = absurd (f (refl, refl))
    by zero (suc b) f = rw (ne_eqb (suc b) 0 (λ e. omega arith))
    by (suc a) b f = rw (ne_eqb (suc a) 0 (λ e. omega arith))

module _ (s : Settings) (start : Point) (b : Block) where
  -- question 14 bounds N, so question 15 is the circle's alone
  end_is : (centre : Offset) → CentreRight centre
      → (on_circle (square_of centre) (seen_from (back_from start centre) b.end) ≡ true) ↔ EndOnCircle start b centre
  end_is o c =
      let r = offset_right_lem o ((centre_is o).1 c) in (
        λ e. (on_circle_to _ _ e).circle,
        λ p. on_circle_of _ _ (record { some = square_some o r; bound = square_most o r; circle = p }),
      )

  pub path_verdict : (p : Path) → Verdict (path_questions s start b p) (path_no s.travel start b p)
  unfolding arc_of
  path_verdict Path.Line = questioned (differ start b.end) Question.Moves _ (line_differs start b.end) (λ _. none_asked)
  path_verdict (Path.Arc turn centre) =
      let a = arc_of start b turn centre in
      questioned (offset_right centre) Question.Centre _ (centre_is centre) (λ right.
      questioned (on_circle (square_of centre) (seen_from (back_from start centre) b.end)) Question.EndOnCircle _
      (end_is centre right) (λ there.
      let here = (on_circle_to _ _ (start_on start centre (offset_right_lem centre ((centre_is centre).1 right)))).circle in
      questioned (visits_inside s.travel (arc_after a start) (arc_cycles a start)) Question.VisitsInTravel _
      (visits_is s.travel a start here there)
      (λ _. none_asked)))
