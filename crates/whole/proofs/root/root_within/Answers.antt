-- `root_within` is right because the square of `below` stays below s while that of `below + gap` does not, until the gap is 1.
use Rattle.std.proofs.Common.{ℕ, ◌+◌, ◌-◌, ◌/◌, ◌^◌, ◌≡◌, ◌∙◌, arith, add-one}
use native.Mathlib.Nat.{le_trans}
use Rattle.whole.specs.laws.Squares.{square_le}
use Rattle.whole.specs.laws.Root.{least_root_between}
use Rattle.whole.proofs.root.root_within.Goals as goal
use Rattle.whole.proofs.root.root_within.Goals.{then-middle-s, else-middle-s}

pub overflow_mul-middle : goal.overflow_mul-middle
overflow_mul-middle c =
    omega (arith, square_le {m = c.loop-gap.below + c.loop-gap.gap / 2} {n = 2 ^ 32 - 1} (omega arith))

-- half of the gap is taken off, from below where the middle's square is below s
whole_gap : (below gap : ℕ) → (below + gap / 2) + (gap - gap / 2) ≡ below + gap
whole_gap below gap = omega arith

pub loop-gap-preserved : goal.loop-gap-preserved
loop-gap-preserved c =
    let b = c.loop-gap.below in
    let g = c.loop-gap.gap in
    let i = c.loop-gap.invariant in
    elim c.if-middle-s.branch [
      | then-middle-s w ↦ rw w.below-is record {
        some = omega arith;
        room = omega arith;
        low = w.if-middle-s.true;
        high = rw (whole_gap b g) i.high;
      }
      | else-middle-s w ↦ rw w.below-is record {
        some = omega arith;
        room = omega arith;
        low = i.low;
        high = le_trans w.if-middle-s.false (square_le (omega arith));
      }
    ]

pub returns : goal.returns
returns c =
    let b = c.loop-gap.below in
    let i = c.loop-gap.invariant in
    let one : c.loop-gap.gap ≡ 1 = omega arith in
    add-one b ∙ least_root_between _ b i.low (rw (← add-one b) (rw one at i.high))
