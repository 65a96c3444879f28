-- The block in work by its path, as a machine that keeps no start of an arc sees it: a line after its cycles done; an arc from its present
-- point on, with so many cycles less to do.
use Rattle.std.specs.Prelude.{◌≡◌, ℕ, zero, suc, ◌+◌, ◌<◌}
use Rattle.std.proofs.Common.{sym, ap, subst, arith}
use Rattle.plane.specs.declared.point.Point.{Point}
use Rattle.plane.specs.declared.travel.Travel.{Travel}
use Rattle.circle.specs.declared.plane.Offset.{Offset}
use Rattle.circle.specs.computed.Step.{step_of, after_of}
use Rattle.line.specs.Line.{line_cycles, line_point}
use Rattle.arc.specs.declared.arc.Arc.{Arc}
use Rattle.arc.specs.Centre.{seen_from, back_from}
use Rattle.arc.specs.computed.Arc.{arc_after, arc_cycles}
use Rattle.arc.specs.laws.Centre.{seen_back}
use Rattle.arc.specs.laws.Step.{Circles, after_none, last_cycle, more_cycles}
use Rattle.arc.specs.laws.Work.{ArcAt, keeps}
use Rattle.block.specs.declared.Path.{Path}
use Rattle.block.specs.Block.{arc_of, cycles_along, point_along, block_cycles, block_point}
use Rattle.book.specs.Bench.{BlockInWork}
use Rattle.book.proofs.laws.Way.{LineRight, PathRight}
use Rattle.book.proofs.laws.Sound.{JobSound}

-- c cycles, and then one more
pub after_one : (a : Arc) (start : Point) (c : ℕ) → arc_after a (arc_after a start c) 1 ≡ arc_after a start (suc c)
unfolding arc_after after_of
after_one a start c =
    ap (λ (o : Offset). back_from a.centre (step_of a.square a.turn o))
    (seen_back a.centre (after_of a.square a.turn (seen_from a.centre start) c))

pub record ArcHere (t : Travel) (a : Arc) (start : Point) (c : ℕ) (here : Point) : Type 0 where
  pub at : ArcAt t a here
  pub left : arc_cycles a here + c ≡ arc_cycles a start

pub arc_here : {t : Travel} {a : Arc} {start : Point} → ArcAt t a start → (c : ℕ) → c < arc_cycles a start
    → ArcHere t a start c (arc_after a start c)
arc_here {t} {a} {start} i zero due = subst (ArcHere t a start 0) (sym (after_none a start)) (record { at = i; left = omega arith })
arc_here {t} {a} {start} i (suc c) due = by (arc_after a start c) (after_one a start c) (arc_here i c (omega arith))
  where
    by : (here : Point) → arc_after a here 1 ≡ arc_after a start (suc c) → ArcHere t a start c here
        → ArcHere t a start (suc c) (arc_after a start (suc c))
    by here next h =
        let on : Circles a here = record { on = h.at.on; end_on = h.at.end_on } in
        let more : arc_after a here 1 ≡ a.end → ⊥ = λ e. omega (arith, (last_cycle a here on).1 e, h.left) in
        subst (ArcHere t a start (suc c)) next (record {
          at = keeps h.at more;
          left =
              omega (arith, more_cycles a here on more, h.left);
        })

pub record LineHere (t : Travel) (start end : Point) (c : ℕ) (here : Point) : Type 0 where
  pub right : LineRight t start end
  pub due : c < line_cycles start end
  pub point : here ≡ line_point start end c

abbrev pub Here : Travel → BlockInWork → Point → Path → Type 0
Here t j at Path.Line = LineHere t j.start j.block.end j.done at
Here t j at (Path.Arc turn centre) = ArcHere t (arc_of j.start j.block turn centre) j.start j.done at

pub job_here : {q0 : ℕ} {t : Travel} {at : Point} {j : BlockInWork} → JobSound q0 t at j → Here t j at j.block.path
unfolding block_cycles block_point
job_here {t = t} {at = at} {j = j} s = by j.block.path s.path s.more s.point
  where
    by : (p : Path) → PathRight t j.start j.block p → j.done < cycles_along j.start j.block p
        → at ≡ point_along j.start j.block p j.done → Here t j at p
    by Path.Line right due point = record { right = right; due = due; point = point }
    by (Path.Arc turn centre) right due point = rw point (arc_here right.at j.done due)
