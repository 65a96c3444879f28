-- `block` is right because it reads the feed number as a count.
use borrow.Author.Rules.{rules}
use mir.Facts.{to_z-of_z}
use Rattle.cmachine.proofs.given.block.Statement.{statement}
use Rattle.cmachine.proofs.given.block.Tie as tie

count-requires : tie.Need-count-requires
count-requires c κs = search rules

returns : tie.Need-returns
returns c =
    let s = c.before in
    let x = s.ranges.x in
    let y = s.ranges.y in
    let feed = s.ranges.feed in
    simp (to_z-of_z, c.count.ensures)

pub block_spec : {M : Type 1} → statement M
block_spec = tie.close (tie.spec count-requires returns)
