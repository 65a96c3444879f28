-- `near_root` is right because the pattern that it makes of s is no NaN's.
use borrow.Author.Rules.{rules}
use Prim.Native.Nat.{◌+◌}
use native.Mathlib.Omega.{arith}
use Rattle.whole.specs.laws.Float.{pattern_no_nan}
use Rattle.whole.proofs.root.near_root.Statement.{statement}
use Rattle.whole.proofs.root.near_root.Tie as tie

overflow_add-x : tie.Need-overflow_add-x
overflow_add-x c = search rules

float_from_bits-x : tie.Need-float_from_bits-x
float_from_bits-x c = pattern_no_nan (0x4330_0000_0000_0000 + c.args.s) (omega (arith, c.requires))

half_pattern-requires : tie.Need-half_pattern-requires
half_pattern-requires c κs = search rules

nearer-requires : tie.Need-nearer-requires
nearer-requires c κs = search rules

returns : tie.Need-returns
returns c = search rules

pub near_root_spec : {M : Type 1} → statement M
near_root_spec = tie.close (tie.spec overflow_add-x float_from_bits-x half_pattern-requires nearer-requires returns)
