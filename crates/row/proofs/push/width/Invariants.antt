-- A division by ten takes one digit off.
use Rattle.std.proofs.Common.{◌≡◌, ◌+◌, length}
use Rattle.row.specs.Decimal.{decimal}
use Rattle.row.proofs.push.width.Given as goal

abbrev pub invariant-loop-m : goal.invariant-loop-m
invariant-loop-m l = l.w + length (decimal l.m) ≡ length (decimal l.fn.n) + 1

abbrev pub decreases-loop-m : goal.decreases-loop-m
decreases-loop-m l = l.m
