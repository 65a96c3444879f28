-- `high_of` is right because a count of more than 32 bits tells no high part.
use Prim.Native.Nat.{◌^◌}
use borrow.Author.Tests.{lt-ltb, le-ltb}
use mir.Facts.{to_z-of_z}
use borrow.Author.Rules.{rules}
use Rattle.progress.proofs.long.high_of.Statement.{statement}
use Rattle.progress.proofs.long.high_of.Tie as tie

count-n-requires : tie.Need-count-n-requires
count-n-requires c κs = search rules

overflow_cast-result : tie.Need-overflow_cast-result
overflow_cast-result c = search rules

returns-then-n-lt4294967296 : tie.Need-returns-then-n-lt4294967296
returns-then-n-lt4294967296 c =
    let f = c.ranges.word in
    let e = simp to_z-of_z at c.count-n.ensures in
    rw (← e, lt-ltb c.count-n.result (2 ^ 32) (search rules))

returns : tie.Need-returns
returns c =
    let f = c.ranges.word in
    let e = simp to_z-of_z at c.count-n.ensures in
    rw (← e, le-ltb c.count-n.result (2 ^ 32) (search rules))

pub high_of_spec : {M : Type 1} → statement M
high_of_spec = tie.close (tie.spec count-n-requires overflow_cast-result returns-then-n-lt4294967296 returns)
