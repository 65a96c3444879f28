-- `start_of` is right because it asks the queue for its tail, behind the end of what is in work.
use borrow.Author.Rules.{rules}
use Rattle.machine.proofs.waiting.start_of.Statement.{statement}
use Rattle.machine.proofs.waiting.start_of.Tie as tie

end_of-requires : tie.Need-end_of-requires
end_of-requires c κs = search rules

tail-requires : tie.Need-tail-requires
tail-requires c κs = c.requires

returns : tie.Need-returns
returns c = rw c.before.end_of.ensures at c.tail.ensures

pub start_of_spec : {M : Type 1} → statement M
start_of_spec = tie.close (tie.spec end_of-requires tail-requires returns)
