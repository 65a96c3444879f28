-- The bytes read so far are digits, at most 19, and what the others ask after them is what the text asks.
use Rattle.jobwhere.specs.laws.Asked.{Asking}
use Rattle.jobwhere.proofs.ask.Given as goal

abbrev pub invariant-loop-at : goal.invariant-loop-at
invariant-loop-at l = Asking l.text l.n l.at
