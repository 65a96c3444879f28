-- `capacity` is right because a clock that passes question 2 is at most 20,000.
use mathlib.Core.Path.{refl}
use native.Mathlib.Omega.{arith}
use Rattle.settings.specs.laws.Right.{settings_right}
use Rattle.settings.proofs.capacity.Statement.{statement}
use Rattle.settings.proofs.capacity.Tie as tie

overflow_mul-result : tie.Need-overflow_mul-result
overflow_mul-result c = let r = settings_right _ c.requires in omega (arith, r.clock_most)

returns : tie.Need-returns
returns c = refl

pub capacity_spec : {M : Type 1} → statement M
capacity_spec = tie.close (tie.spec overflow_mul-result returns)
