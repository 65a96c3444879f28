-- `release` is right because it is the record with that mark.
use borrow.Author.Rules.{rules}
use Rattle.machine.specs.computed.Calls.{release_of}
use Rattle.machine.proofs.Machine.release.Statement.{statement}
use Rattle.machine.proofs.Machine.release.Tie as tie

marked-requires : tie.Need-marked-requires
marked-requires c κs = search rules

returns : tie.Need-returns
unfolding release_of
returns c = c.marked.ensures

pub release_spec : {M : Type 1} → statement M
release_spec = tie.close (tie.spec marked-requires returns)
