-- At each turn the digits of n are those of m and then what is written already.
use Rattle.row.specs.laws.Behind.{Behind}
use Rattle.row.proofs.push.digits.Given as goal

abbrev pub invariant-loop-m : goal.invariant-loop-m
invariant-loop-m l = Behind l.n l.fn.out l.at l.end l.out l.m l.i

abbrev pub decreases-loop-m : goal.decreases-loop-m
decreases-loop-m l = l.m
