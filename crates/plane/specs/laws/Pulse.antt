-- A pulse is at most one, and its code tells it.
use Rattle.std.specs.Prelude.{◌≡◌, refl, Bool, true, false, cond, ℕ, zero, suc, ◌≤◌, ℤ, pos, negsuc, ◌+ℤ◌}
use Rattle.std.specs.Int.Signed.{lt_z}
use Rattle.std.proofs.Math.IntN.{+ℤ_idr}
use Rattle.std.proofs.Common.{arith}
use Rattle.whole.specs.laws.Difference.{parts, natural, negated, added}
use Rattle.whole.specs.laws.Order.{≺_lt_z, ≼_lt_z}
use Rattle.whole.specs.Sign.{signed}
use Rattle.plane.specs.Pulse.{code_of, pulse_of, change_of}

abbrev pub bit : Bool → ℕ
bit true = 1
bit false = 0

pub pulse_code : (pulse negative : Bool) → pulse_of (code_of pulse negative) ≡ signed negative (bit pulse)
pulse_code false true = refl
pulse_code false false = refl
pulse_code true true = refl
pulse_code true false = refl

pub pulse_none : (code : ℕ) → (code ≡ 1 → ⊥) → (code ≡ 2 → ⊥) → pulse_of code ≡ pos 0
pulse_none zero f g = refl
pulse_none (suc zero) f g = absurd (f refl)
pulse_none (suc (suc zero)) f g = absurd (g refl)
pulse_none (suc (suc (suc n))) f g = refl

-- a change by a pulse has the pulse's code
pub change_pulse : (before : ℤ) (pulse negative : Bool)
    → change_of before (before +ℤ pulse_of (code_of pulse negative)) ≡ code_of pulse negative
unfolding change_of
change_pulse z false negative = simp (+ℤ_idr, ≼_lt_z z z (omega arith))
change_pulse z true false = simp (≺_lt_z z (z +ℤ pos 1) (omega (arith, added (parts z) (natural 1))))
change_pulse z true true =
    let d = added (parts z) (negated (natural 1)) in
    simp (≼_lt_z z (z +ℤ negsuc 0) (omega (arith, d)), ≺_lt_z (z +ℤ negsuc 0) z (omega (arith, d)))

-- a code is at most 2
pub change_small : (before after : ℤ) → change_of before after ≤ 2
unfolding change_of
change_small b a = by (lt_z b a) (lt_z a b)
  where
    by : (t s : Bool) → cond t 1 (cond s 2 0) ≤ 2
    by true true = omega arith
    by true false = omega arith
    by false true = omega arith
    by false false = omega arith
