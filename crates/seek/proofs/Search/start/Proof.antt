-- `start` writes the definition's record.
use borrow.Author.Rules.{rules}
use Rattle.seek.specs.computed.Search.{search_from}
use Rattle.seek.proofs.Search.start.Statement.{statement}
use Rattle.seek.proofs.Search.start.Tie as tie

make-made-requires : tie.Need-make-made-requires
make-made-requires c κs = search rules

start-reader-requires : tie.Need-start-reader-requires
start-reader-requires c κs = search rules

returns : tie.Need-returns
unfolding search_from
returns c = rw (c.start-reader.ensures, c.make-made.ensures)

pub start_spec : {M : Type 1} → statement M
start_spec = tie.close (tie.spec make-made-requires start-reader-requires returns)
