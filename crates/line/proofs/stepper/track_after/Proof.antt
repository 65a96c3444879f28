-- `track_after` is right because the register is below the capacity.
use borrow.Author.Rules.{rules}
use Rattle.line.proofs.stepper.track_after.Statement.{statement}
use Rattle.line.proofs.stepper.track_after.Tie as tie
use Prim.Native.Nat.{◌-◌}
use native.Mathlib.Omega.{arith}
use Rattle.line.specs.laws.Register.{register_below}

overflow_sub-result : tie.Need-overflow_sub-result
overflow_sub-result c = search rules

register-requires : tie.Need-register-requires
register-requires c κs = search rules

overflow_sub-result-2 : tie.Need-overflow_sub-result-2
overflow_sub-result-2 c = let x = c.requires.0 in omega (arith, c.register.ensures, register_below _ _ _ x)

code-requires : tie.Need-code-requires
code-requires c κs = search rules

returns : tie.Need-returns
returns c =
    let s = c.before.before in
    let room = c.register.ensures in
    let code = c.code.ensures in
    λ i. record { increment = s.args.way.magnitude; room = s.args.q - 1 - room i; code = code i }

pub track_after_spec : {M : Type 1} → statement M
track_after_spec = tie.close (tie.spec overflow_sub-result register-requires overflow_sub-result-2 code-requires returns)
