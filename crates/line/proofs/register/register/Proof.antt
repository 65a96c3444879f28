-- `register` is right because q times what has moved is the whole part of h + a × c, and the register holds the rest.
use mathlib.Core.Path.{◌≡◌}
use Prim.Native.Nat.{◌+◌, ◌*◌, ◌/◌}
use native.Mathlib.Omega.{arith}
use Rattle.line.specs.laws.Axis.{filled, sum, fits_product}
use Rattle.line.specs.laws.Register.{register_is}
use Rattle.line.proofs.register.register.Statement.{statement}
use Rattle.line.proofs.register.register.Tie as tie

-- the sum with the move that was handed over
parted : (c : tie.Start)
    → c.args.moved * c.args.capacity + filled c.args.capacity c.args.increment c.args.done
    ≡ c.args.capacity / 2 + c.args.increment * c.args.done
parted c = rw c.requires.1 (sum c.args.capacity c.args.increment c.args.done c.requires.0.some)

overflow_mul-result : tie.Need-overflow_mul-result
overflow_mul-result c = omega (arith, fits_product _ _ _ c.requires.0)

overflow_add-result : tie.Need-overflow_add-result
overflow_add-result c = omega (arith, fits_product _ _ _ c.requires.0)

overflow_mul-result-2 : tie.Need-overflow_mul-result-2
overflow_mul-result-2 c = omega (arith, fits_product _ _ _ c.requires.0, parted c)

overflow_sub-result : tie.Need-overflow_sub-result
overflow_sub-result c = omega (arith, parted c)

returns : tie.Need-returns
returns c =
    let rest = register_is c.args.capacity c.args.increment c.requires.0.some c.requires.0.short c.args.done in
    omega (arith, parted c)

pub register_spec : {M : Type 1} → statement M
register_spec = tie.close (tie.spec overflow_mul-result overflow_add-result overflow_mul-result-2 overflow_sub-result returns)
