-- `long_of` is right because it reads each word as its number.
use borrow.Author.Rules.{rules}
use Rattle.progress.proofs.long.long_of.Statement.{statement}
use Rattle.progress.proofs.long.long_of.Tie as tie

count-requires : tie.Need-count-requires
count-requires c κs = search rules

high_of-requires : tie.Need-high_of-requires
high_of-requires c κs = search rules

returns : tie.Need-returns
returns c = search (rules, c.count.ensures, c.high_of.ensures)

pub long_of_spec : {M : Type 1} → statement M
long_of_spec = tie.close (tie.spec count-requires high_of-requires returns)
