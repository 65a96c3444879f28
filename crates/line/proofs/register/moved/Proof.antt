-- `moved` is right because it is the definition; the product fits.
use borrow.Author.Rules.{rules}
use mathlib.Core.Path.{refl}
use native.Mathlib.Omega.{arith}
use Rattle.line.specs.Line.{axis_steps}
use Rattle.line.specs.laws.Axis.{fits_product}
use Rattle.line.proofs.register.moved.Statement.{statement}
use Rattle.line.proofs.register.moved.Tie as tie

overflow_mul-result : tie.Need-overflow_mul-result
overflow_mul-result c = omega (arith, fits_product _ _ _ c.requires)

overflow_add-result : tie.Need-overflow_add-result
overflow_add-result c = omega (arith, fits_product _ _ _ c.requires)

nonzero_div-result-2 : tie.Need-nonzero_div-result-2
nonzero_div-result-2 c = search rules

returns : tie.Need-returns
unfolding axis_steps
returns c = refl

pub moved_spec : {M : Type 1} → statement M
moved_spec = tie.close (tie.spec overflow_mul-result overflow_add-result nonzero_div-result-2 returns)
