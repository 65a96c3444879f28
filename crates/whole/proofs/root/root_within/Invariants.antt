use Rattle.std.proofs.Common.{◌+◌, ◌*◌, ◌^◌, ◌≤◌, ◌<◌}
use Rattle.whole.proofs.root.root_within.Given as goal

-- the square of below is under s, that of below + gap is not
abbrev pub invariant-loop-gap : goal.invariant-loop-gap
invariant-loop-gap l = record {
  some : 1 ≤ l.gap;
  room : l.below + l.gap ≤ 2 ^ 32;
  low : l.below * l.below < l.s;
  high : l.s ≤ (l.below + l.gap) * (l.below + l.gap);
}

abbrev pub decreases-loop-gap : goal.decreases-loop-gap
decreases-loop-gap l = l.gap
