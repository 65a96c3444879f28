-- Koren's register and the formula of "Lines" are the same: the register holds what is left of h + a × c, and its pulses are the axis's
-- moves.
use Rattle.std.specs.Prelude.{◌≡◌, refl, Bool, leb}
use Rattle.std.proofs.Math.Path.{sym, ap}
use Rattle.std.proofs.Common.{◌∙◌, add-one, leb-true, leb-false}
use Rattle.std.proofs.Math.Bool.{true, false, cond}
use Prim.Native.Nat.{ℕ, zero, suc, ◌+◌, ◌-◌, ◌≤◌, ◌<◌}
use native.Mathlib.Omega.{arith}
use Rattle.line.specs.declared.register.Clocked.{Clocked}
use Rattle.line.specs.computed.Register.{AxisFits, sent_of}
use Rattle.line.specs.Register.{clock_of, register_of, pulses_of}
use Rattle.line.specs.Line.{axis_steps}
use Rattle.line.specs.laws.Axis.{filled, filled_below, stays, steps, begins}
use Rattle.plane.specs.laws.Pulse.{bit}

-- a clock of the register that holds what is left
pub record Clock (q a c : ℕ) (k : Clocked) : Type 0 where
  pub register : k.register ≡ filled q a (c + 1)
  pub moves : axis_steps q a (c + 1) ≡ axis_steps q a c + bit k.pulse

module _ (q a : ℕ) (some : 0 < q) (short : a ≤ q) where
  pub clocked : (c : ℕ) → Clock q a c (clock_of q a (filled q a c))
  clocked c = by (leb q (filled q a c + a)) refl
    where
      by : (t : Bool) → leb q (filled q a c + a) ≡ t
          → Clock q a c (cond t (record { register = filled q a c + a - q; pulse = true })
          (record { register = filled q a c + a; pulse = false }))
      by true e = omega (arith, steps q a c some short (leb-true q (filled q a c + a) e))
      by false e = omega (arith, stays q a c some (leb-false q (filled q a c + a) e))

  pub register_is : (c : ℕ) → register_of q a c ≡ filled q a c
  unfolding register_of
  register_is zero = sym (begins q a some).1
  register_is (suc c) = ap (λ (r : ℕ). (clock_of q a r).register) (register_is c) ∙ (clocked c).register ∙ ap (filled q a) (add-one c)

  -- the pulses are the formula's, cycle by cycle
  pub pulse_is : (c : ℕ) → axis_steps q a (c + 1) ≡ axis_steps q a c + bit (pulses_of q a c)
  unfolding pulses_of
  pulse_is c = (clocked c).moves ∙ ap (λ (r : ℕ). axis_steps q a c + bit (clock_of q a r).pulse) (sym (register_is c))

  -- and so in all
  pub sent_is : (c : ℕ) → sent_of q a c ≡ axis_steps q a c
  unfolding sent_of
  sent_is zero = sym (begins q a some).0
  sent_is (suc c) = by (pulses_of q a c) (pulse_is c) (sent_is c) ∙ ap (axis_steps q a) (add-one c)
    where
      by : (t : Bool) → axis_steps q a (c + 1) ≡ axis_steps q a c + bit t → sent_of q a c ≡ axis_steps q a c
          → cond t (suc (sent_of q a c)) (sent_of q a c) ≡ axis_steps q a (c + 1)
      by true e h = omega arith
      by false e h = omega arith

pub register_below : (q a c : ℕ) → AxisFits q a c → register_of q a c < q
register_below q a c x = rw (register_is q a x.some x.short c) (filled_below q a c x.some)
