-- The digits are some of what is left of n and then those that are written already; what is left has no more than there are places.
use Rattle.std.proofs.Common.{◌+◌, ◌-◌, ◌^◌, ◌≤◌, ◌<◌}
use Rattle.row.specs.laws.Long.{LastBehind}
use Rattle.row.proofs.push.last_digits.Given as goal

abbrev pub invariant-loop-i : goal.invariant-loop-i
invariant-loop-i l =
    LastBehind l.count l.n l.fn.out l.at l.end l.out l.rest l.i × (l.at + 1 ≤ l.i) × (l.rest < 10 ^ (l.i - l.at))
