-- What signed code computes: changes of sign, and quarter turns.
use Rattle.std.specs.Prelude.{◌≡◌, ℕ, zero, suc, ◌^◌, ◌≤◌, ◌<◌, ℤ, pos, neg_ℤ, nat_abs, ◌-ℤ◌}
use Rattle.std.proofs.Math.IntN.{neg_ℤ-neg_ℤ, +ℤ_idl}
use Rattle.std.specs.Int.{w64}
use Rattle.std.proofs.Common.{SFits}
use Rattle.whole.specs.laws.Order.{abs_fits, abs_neg}
use Rattle.circle.specs.declared.plane.Offset.{Offset}
use Rattle.circle.specs.Circle.{offset}
use Rattle.circle.specs.computed.Step.{turned}

-- 0 - z
pub minus_fits : (z : ℤ) → nat_abs z < 2 ^ 63 → SFits w64 (pos 0 -ℤ z)
minus_fits z h = rw (+ℤ_idl (neg_ℤ z)) (abs_fits (neg_ℤ z) (rw (abs_neg z) h))

-- the quarter turns of a point
module _ (k : ℕ) (p : Offset) where
  pub turned_1 : k ≡ 1 → offset (neg_ℤ p.y) p.x ≡ turned k p
  turned_1 e = rw e

  pub turned_2 : k ≡ 2 → offset (neg_ℤ p.x) (neg_ℤ p.y) ≡ turned k p
  turned_2 e = rw e

  pub turned_3 : k ≡ 3 → offset p.y (neg_ℤ p.x) ≡ turned k p
  turned_3 e = rw (e, neg_ℤ-neg_ℤ p.y)

-- and their size
pub turned_small : (k m : ℕ) (p : Offset) → nat_abs p.x ≤ m → nat_abs p.y ≤ m
    → (nat_abs (turned k p).x ≤ m) × (nat_abs (turned k p).y ≤ m)
turned_small zero m p h g = (h, g)
turned_small (suc k) m p h g = let s = turned_small k m p h g in (rw (abs_neg (turned k p).y) s.1, s.0)
