-- `check_of` is right because it reads each word as its number.
use borrow.Author.Rules.{rules}
use Rattle.progress.proofs.progress.check_of.Statement.{statement}
use Rattle.progress.proofs.progress.check_of.Tie as tie

tally_of-tally-requires : tie.Need-tally_of-tally-requires
tally_of-tally-requires c κs = search rules

count-requires : tie.Need-count-requires
count-requires c κs = search rules

stage_of-requires : tie.Need-stage_of-requires
stage_of-requires c κs = search rules

count-requires-2 : tie.Need-count-requires-2
count-requires-2 c κs = search rules

returns : tie.Need-returns
returns c = search (
  rules,
  c.tally_of-tally.ensures,
  c.count.ensures,
  c.stage_of.ensures,
  c.count-2.ensures,
)

pub check_of_spec : {M : Type 1} → statement M
check_of_spec = tie.close (tie.spec tally_of-tally-requires count-requires stage_of-requires count-requires-2 returns)
