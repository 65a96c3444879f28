-- `search` is right because it ends where `high` is one more than what is paid.
use Rattle.std.proofs.Common.{◌-◌}
use Rattle.charges.specs.laws.Paid.{Searching}
use Rattle.charges.proofs.search.search.Given as goal

abbrev pub invariant-loop-low : goal.invariant-loop-low
invariant-loop-low l = Searching l.s l.most l.sum l.low l.high l.next l.step

abbrev pub decreases-loop-low : goal.decreases-loop-low
decreases-loop-low l = l.high - l.low.cycles
