-- `width` is right because a number's width and its leading zeros make up the word.
use native.Mathlib.Omega.{arith}
use lib.Count.{leading_le}
use Rattle.whole.specs.laws.Width.{width_by_zeros}
use Rattle.whole.proofs.width.width.Statement.{statement}
use Rattle.whole.proofs.width.width.Tie as tie

overflow_cast-result : tie.Need-overflow_cast-result
overflow_cast-result c = omega (arith, leading_le 64 c.args.n)

overflow_sub-result : tie.Need-overflow_sub-result
overflow_sub-result c = omega (arith, leading_le 64 c.args.n)

returns : tie.Need-returns
returns c = width_by_zeros 64 c.args.n c.ranges.n.fits

pub width_spec : {M : Type 1} → statement M
width_spec = tie.close (tie.spec overflow_cast-result overflow_sub-result returns)
