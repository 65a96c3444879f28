-- `tally_of` is right because it reads the words in the definition's order.
use borrow.Author.Rules.{rules}
use Rattle.progress.proofs.progress.tally_of.Statement.{statement}
use Rattle.progress.proofs.progress.tally_of.Tie as tie

reader_of-reader-requires : tie.Need-reader_of-reader-requires
reader_of-reader-requires c κs = search rules

long_of-ticks-requires : tie.Need-long_of-ticks-requires
long_of-ticks-requires c κs = search rules

count-requires : tie.Need-count-requires
count-requires c κs = search rules

count-requires-2 : tie.Need-count-requires-2
count-requires-2 c κs = search rules

count-requires-3 : tie.Need-count-requires-3
count-requires-3 c κs = search rules

returns : tie.Need-returns
returns c = search (
  rules,
  c.reader_of-reader.ensures,
  c.before.before.before.before.before.before.long_of-ticks.ensures,
  c.count.ensures,
  c.count-2.ensures,
  c.count-3.ensures,
)

pub tally_of_spec : {M : Type 1} → statement M
tally_of_spec = tie.close (tie.spec reader_of-reader-requires long_of-ticks-requires count-requires count-requires-2 count-requires-3
    returns)
