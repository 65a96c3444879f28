-- Invariant of `read`: the digits so far, and those that are left, are all; and they are as small as their number.
use Rattle.std.proofs.Common.{◌≡◌}
use Rattle.words.specs.laws.Run.{Counted}
use Rattle.words.proofs.digits.read.Given as goal

abbrev pub invariant-loop-b : goal.invariant-loop-b
invariant-loop-b l = record { counted : Counted l.rest l.most l.value l.d; index : l.d.count ≡ l.b-index }
