-- `ending` is right because the sum has reached the dues on that tick; its numbers fit.
use borrow.Author.Rules.{rules}
use Prim.Native.Nat.{◌+◌, ◌*◌, ◌≤◌}
use native.Mathlib.Omega.{arith}
use Rattle.divider.specs.laws.Last.{last_tick_lem, last_most}
use Rattle.divider.proofs.ending.Statement.{statement}
use Rattle.divider.proofs.ending.Tie as tie

most : (c : tie.After-last_tick-tick) → (let s = c.args in
    s.remainder + c.last_tick-tick.result * s.added ≤ s.due + s.added + s.remainder)
most c =
    let s = c.args in
    rw c.last_tick-tick.ensures (last_most s.due s.added s.remainder s.cycles c.requires.0 c.requires.1)

last_tick-tick-requires : tie.Need-last_tick-tick-requires
last_tick-tick-requires c κs = search rules

overflow_mul-result : tie.Need-overflow_mul-result
overflow_mul-result c = omega (arith, most c, c.requires.2)

overflow_add-result : tie.Need-overflow_add-result
overflow_add-result c = omega (arith, most c, c.requires.2)

overflow_sub-result : tie.Need-overflow_sub-result
overflow_sub-result c =
    let s = c.args in
    rw c.last_tick-tick.ensures (last_tick_lem s.due s.added s.remainder s.cycles c.requires.0).reached

returns : tie.Need-returns
returns c = rw c.last_tick-tick.ensures

pub ending_spec : {M : Type 1} → statement M
ending_spec = tie.close (tie.spec last_tick-tick-requires overflow_mul-result overflow_add-result overflow_sub-result returns)
