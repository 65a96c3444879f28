-- `place_in` is right because its test is that of the definition, and no square passes n.
use borrow.Author.Rules.{rules}
use Prim.Native.Nat.{◌-◌, ◌*◌, ◌≤◌}
use native.Mathlib.Nat.{mul-le-mul, le_of_lt}
use native.Mathlib.Omega.{arith}
use borrow.Author.Tests.{le-leb, lt-leb}
use Rattle.charges.specs.computed.Jump.{place_in}
use Rattle.charges.proofs.jump.place_in.Statement.{statement}
use Rattle.charges.proofs.jump.place_in.Tie as tie

overflow_mul-i : tie.Need-overflow_mul-i
overflow_mul-i c = search rules

overflow_mul-i-then-i-quarter : tie.Need-overflow_mul-i-then-i-quarter
overflow_mul-i-then-i-quarter c =
    let p = c.requires in
    let l = le_of_lt p.rank in
    omega (arith, mul-le-mul l l, mul-le-mul p.quarter p.quarter)

overflow_sub-n : tie.Need-overflow_sub-n
overflow_sub-n c = c.requires.low c.if-i-quarter.true

nearest_root-requires : tie.Need-nearest_root-requires
nearest_root-requires c κs = search rules

returns-then-i-quarter : tie.Need-returns-then-i-quarter
unfolding place_in
returns-then-i-quarter c =
    let s = c.args in
    rw (le-leb (2 * s.i) s.quarter c.if-i-quarter.true, c.nearest_root.ensures)

overflow_sub-along : tie.Need-overflow_sub-along
overflow_sub-along c = search rules

overflow_mul-along : tie.Need-overflow_mul-along
overflow_mul-along c =
    let p = c.requires in
    let s = c.args in
    let l : s.quarter - s.i ≤ 2000000 = omega arith in
    omega (arith, mul-le-mul l l)

overflow_sub-n-2 : tie.Need-overflow_sub-n-2
overflow_sub-n-2 c = c.requires.high c.if-i-quarter.false

nearest_root-requires-2 : tie.Need-nearest_root-requires-2
nearest_root-requires-2 c κs = search rules

returns : tie.Need-returns
unfolding place_in
returns c =
    let s = c.args in
    rw (lt-leb (2 * s.i) s.quarter c.if-i-quarter.false, c.nearest_root-2.ensures)

pub place_in_spec : {M : Type 1} → statement M
place_in_spec = tie.close (tie.spec overflow_mul-i overflow_mul-i-then-i-quarter overflow_sub-n nearest_root-requires returns-then-i-quarter
    overflow_sub-along overflow_mul-along overflow_sub-n-2 nearest_root-requires-2 returns)
