-- What the questions 10 to 16 settle where none was answered by no.
use Rattle.std.specs.Prelude.{◌≡◌, refl, Bool, true, false, ℕ, ◌≤◌}
use Rattle.std.proofs.Common.{arith}
use Rattle.whole.specs.laws.Order.{abs_add}
use Rattle.plane.specs.declared.point.Point.{Point}
use Rattle.plane.specs.declared.travel.Travel.{Travel}
use Rattle.plane.specs.Travel.{inside_of}
use Rattle.plane.specs.Point.{Near}
use Rattle.plane.specs.computed.Travel.{Wide}
use Rattle.plane.specs.laws.Travel.{Bounded, inside, travel_near}
use Rattle.arc.specs.laws.Work.{centre_inside}
use Rattle.circle.specs.declared.plane.Offset.{Offset}
use Rattle.line.specs.laws.Cycles.{differ_apart}
use Rattle.arc.specs.Centre.{back_from}
use Rattle.arc.specs.computed.Arc.{centres}
use Rattle.block.specs.declared.Block.{Block}
use Rattle.block.specs.declared.Path.{Path}
use Rattle.block.specs.Block.{arc_of}
use Rattle.block.specs.Questions.{load_no, ask_load}
use Rattle.block.specs.computed.Questions.{path_no}
use Rattle.block.proofs.laws.Accepted.{yes}
use Rattle.question.specs.declared.Question.{Question}
use Rattle.question.specs.laws.Ask.{answered}
use Rattle.block.proofs.laws.Begin.{OffsetRight, offset_right_lem, start_on}
use Rattle.book.proofs.laws.Way.{PathRight}

centre_within : (o : Offset) → OffsetRight o → (start : Point) → Near 1000000 start → inside_of centres (back_from start o) ≡ true
centre_within o right start near =
    centre_inside (back_from start o) (record {
      x = omega (arith, near.x, right.x, abs_add start.x o.x);
      y = omega (arith, near.y, right.y, abs_add start.y o.y);
    })

-- ---- all together

pub record LoadRight (q0 : ℕ) (t : Travel) (start : Point) (b : Block) : Type 0 where
  pub some : 1 ≤ b.feed
  pub short : b.feed ≤ q0
  pub path : PathRight t start b b.path

-- question 10, and the others
pub room_asked : (q0 : ℕ) (t : Travel) (room : Bool) (start : Point) (b : Block) → load_no q0 t room start b ≡ 0
    → (room ≡ true) × (load_no q0 t true start b ≡ 0)
unfolding ask_load
room_asked q0 t true start b e = (refl, e)
room_asked q0 t false start b e = absurd (omega arith)

module _ (q0 : ℕ) (t : Travel) (wide : Wide t) where
  path_right : (start : Point) (b : Block) → Bounded t start → Bounded t b.end → (p : Path) → path_no t start b p ≡ 0
      → PathRight t start b p
  unfolding arc_of
  path_right start b here there Path.Line e = record {
    end_inside = there;
    apart = differ_apart start b.end
        (answered Question.Moves _ e).0;
  }
  path_right start b here there (Path.Arc turn centre) e =
      let offset = answered Question.Centre _ e in
      let end = answered Question.EndOnCircle _ offset.1 in
      let visits = answered Question.VisitsInTravel _ end.1 in
      record {
        offset = offset.0;
        at = record {
          centre = centre_within centre (offset_right_lem centre offset.0) start (travel_near wide here);
          on = start_on start centre (offset_right_lem centre offset.0);
          end_on = end.0;
          stays = visits.0;
        };
      }

  pub load_right : (start : Point) (b : Block) → Bounded t start → load_no q0 t true start b ≡ 0 → LoadRight q0 t start b
  load_right start b here e =
      let y = yes q0 t true start b e in
      record { some = y.some; short = y.most; path = path_right start b here (inside y.end_in_lem) b.path y.path }
