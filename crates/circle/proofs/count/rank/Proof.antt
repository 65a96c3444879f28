-- `rank` is right because its test is that of the definition, and a quarter is at least what is taken off it.
use native.Mathlib.Nat.{le_of_lt, mul-le-mul}
use native.Mathlib.Omega.{arith}
use Rattle.circle.specs.computed.Count.{rank_of}
use Rattle.circle.proofs.laws.Rank.{rank_low, rank_high}
use Rattle.circle.proofs.count.rank.Statement.{statement}
use Rattle.circle.proofs.count.rank.Tie as tie

overflow_mul-before : tie.Need-overflow_mul-before
overflow_mul-before c = omega (arith, mul-le-mul (le_of_lt c.requires.four) c.requires.quarter, c.requires.across)

overflow_add-result : tie.Need-overflow_add-result
overflow_add-result c =
    let h = c.requires in
    omega (arith, mul-le-mul (le_of_lt h.four) h.quarter, h.across)

returns-then-q : tie.Need-returns-then-q
unfolding rank_of
returns-then-q c =
    let s = c.args in
    rw (rank_low s.quarter s.q.along s.q.across (omega arith))

overflow_sub-result : tie.Need-overflow_sub-result
overflow_sub-result c = c.requires.least c.if-q.false

overflow_add-result-2 : tie.Need-overflow_add-result-2
overflow_add-result-2 c =
    let h = c.requires in
    omega (arith, mul-le-mul (le_of_lt h.four) h.quarter, h.across)

returns : tie.Need-returns
unfolding rank_of
returns c =
    let s = c.args in
    rw (rank_high s.quarter s.q.along s.q.across (omega arith))

pub rank_spec : {M : Type 1} → statement M
rank_spec = tie.close (tie.spec overflow_mul-before overflow_add-result returns-then-q overflow_sub-result overflow_add-result-2 returns)
