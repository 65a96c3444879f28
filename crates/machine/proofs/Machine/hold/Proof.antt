-- `hold` is right because it is the record with that mark.
use borrow.Author.Rules.{rules}
use Rattle.machine.specs.computed.Calls.{hold_of}
use Rattle.machine.proofs.Machine.hold.Statement.{statement}
use Rattle.machine.proofs.Machine.hold.Tie as tie

marked-requires : tie.Need-marked-requires
marked-requires c κs = search rules

returns : tie.Need-returns
unfolding hold_of
returns c = c.marked.ensures

pub hold_spec : {M : Type 1} → statement M
hold_spec = tie.close (tie.spec marked-requires returns)
