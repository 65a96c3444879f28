-- `half_pattern` is right because neither x nor the pattern that it makes is a NaN's, and the pattern has 64 bits.
use borrow.Author.Rules.{rules}
use mathlib.Core.Path.{sym, subst}
use native.Mathlib.Omega.{arith}
use lib.Dec.{T}
use lib.Ieee.{binary64, fits}
use lib.Ieee.Bits.{to_bits-lt}
use Rattle.whole.specs.laws.Float.{itself_no_nan, pattern_no_nan}
use Rattle.whole.proofs.root.half_pattern.Statement.{statement}
use Rattle.whole.proofs.root.half_pattern.Tie as tie

float_to_bits-pattern : tie.Need-float_to_bits-pattern
float_to_bits-pattern c = itself_no_nan _ c.if-x.true

overflow_add-pattern : tie.Need-overflow_add-pattern
overflow_add-pattern c =
    let x = c.args.x in
    let held : T (fits binary64 x) = subst T (sym c.before.well_formed.0.1) tt in
    omega (arith, to_bits-lt binary64 x held)

float_from_bits-result : tie.Need-float_from_bits-result
float_from_bits-result c = pattern_no_nan _ c.if-pattern-lt9218868437227405312.true

returns-then-pattern-lt9218868437227405312 : tie.Need-returns-then-pattern-lt9218868437227405312
returns-then-pattern-lt9218868437227405312 c = search rules

returns-else-pattern-lt9218868437227405312 : tie.Need-returns-else-pattern-lt9218868437227405312
returns-else-pattern-lt9218868437227405312 c = search rules

returns-else-x : tie.Need-returns-else-x
returns-else-x c = search rules

pub half_pattern_spec : {M : Type 1} → statement M
half_pattern_spec = tie.close (tie.spec float_to_bits-pattern overflow_add-pattern float_from_bits-result
    returns-then-pattern-lt9218868437227405312 returns-else-pattern-lt9218868437227405312 returns-else-x)
