-- What the code of the test relies on: its places are small, and the axis test by sign and magnitude.
use Rattle.std.specs.Prelude.{◌≡◌, true, false, ℕ, ◌+◌, ◌*◌, ◌≤◌, leb, ℤ, pos, negsuc, nat_abs}
use Rattle.std.proofs.Math.Path.{refl}
use Rattle.std.proofs.Common.{sym, true≢false, mul-le-mul, arith, le-leb}
use Rattle.whole.specs.Sign.{is_negative}
use Rattle.circle.specs.declared.plane.Offset.{Offset}
use Rattle.circle.specs.declared.plane.Turn.{Turn}
use Rattle.circle.specs.Circle.{largest_n, on_circle}
use Rattle.circle.specs.computed.Step.{seen_place}
use Rattle.circle.proofs.laws.Count.{ranked}
use Rattle.clearance.specs.computed.Travel.{reaches}
use Rattle.clearance.specs.computed.Asked.{Crossing}

pub crossing : (n : ℕ) (t : Turn) (p e : Offset) → on_circle n p ≡ true → on_circle n e ≡ true → Crossing (seen_place t p) (seen_place t e)
crossing n t p e op oe =
    let a = ranked n t p op in
    let b = ranked n t e oe in
    record { from = a.four; to = b.four; along_p = a.along; across_p = a.across; along_e = b.along; across_e = b.across }

-- ---- the axis test by sign and magnitude

module _ (n : ℕ) where
  pub reaches_negative : (z : ℤ) → is_negative z ≡ true → reaches n z ≡ false
  unfolding reaches
  reaches_negative (pos e) h = absurd (true≢false (sym h))
  reaches_negative (negsuc e) h = refl

  pub reaches_positive : (z : ℤ) → is_negative z ≡ false → reaches n z ≡ leb n (nat_abs z * nat_abs z + nat_abs z)
  unfolding reaches
  reaches_positive (pos e) h = refl
  reaches_positive (negsuc e) h = absurd (true≢false h)

  pub reaches_wide : (z : ℤ) → n ≤ largest_n → is_negative z ≡ false → 2000000 ≤ nat_abs z → reaches n z ≡ true
  reaches_wide z l h w = rw (reaches_positive z h) (le-leb n (nat_abs z * nat_abs z + nat_abs z) (omega (arith, mul-le-mul w w)))

pub ruleset reaching = (reaches_negative, reaches_positive, reaches_wide)
