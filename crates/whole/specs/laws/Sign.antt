-- Parting and joining are inverse, and what the code's steps give: offset binary and its differences.
use Rattle.std.specs.Prelude.{◌≡◌, refl, Bool, true, false, ℕ, zero, suc, ◌+◌, ◌-◌, ◌^◌, ◌≤◌, ◌<◌, ℤ, pos, negsuc, neg_ℤ, nat_abs, ◌-ℤ◌}
use Rattle.std.specs.Prelude.{eqb}
use Rattle.std.proofs.Common.{sym, ap, ◌∙◌, arith, eq-eqb, SFits}
use Rattle.std.specs.Bool.{beq}
use Rattle.std.proofs.lemmas.Bool.{eqb-false}
use Rattle.std.specs.Int.{w64}
use Rattle.whole.specs.Sign.{signed}
use Rattle.whole.specs.computed.Sign.{part_of, join_of, difference_of, offset_of}
use Rattle.whole.specs.laws.Difference.{up, down, Difference, parts, natural, negated, added, size_up}
use Rattle.whole.specs.Equal.{equal_z}
use Rattle.whole.specs.laws.Test.{refuted, equal_true}
use Rattle.whole.specs.laws.Order.{◌≼◌, ◌≺◌, fits, range}

-- exact for every whole number, 0 among them
pub join_part : (x : ℤ) → join_of (part_of x) ≡ x
join_part (pos n) = refl
join_part (negsuc n) = refl

pub signed_size : (negative : Bool) (m : ℕ) → nat_abs (signed negative m) ≡ m
signed_size true zero = refl
signed_size true (suc m) = refl
signed_size false m = refl

-- a number that an i64 holds has a magnitude of 2^63 at most
pub signed_fits : (negative : Bool) (m : ℕ) → SFits w64 (signed negative m) → m ≤ 2 ^ 63
signed_fits true m f = omega (arith, negated (natural m), range (neg_ℤ (pos m)) f)
signed_fits false m f = omega arith

-- equal where the magnitudes are and, but for 0, the signs
pub signed_differ : (n n' : Bool) (m k : ℕ) → eqb m k ≡ false → equal_z (signed n m) (signed n' k) ≡ false
signed_differ n n' m k e =
    refuted _ (λ t. eqb-false m k e (sym (signed_size n m) ∙ ap nat_abs (equal_true (signed n m) (signed n' k) t) ∙ signed_size n' k))

pub signed_none : (n n' : Bool) → equal_z (signed n 0) (signed n' 0) ≡ true
signed_none true true = refl
signed_none true false = refl
signed_none false true = refl
signed_none false false = refl

pub signed_same : (n n' : Bool) (m : ℕ) → 0 < m → equal_z (signed n m) (signed n' m) ≡ beq n n'
signed_same n n' zero h = absurd (omega arith)
signed_same true true (suc m) h = eq-eqb m m refl
signed_same true false (suc m) h = refl
signed_same false true (suc m) h = refl
signed_same false false (suc m) h = eq-eqb (suc m) (suc m) refl

-- ---- a difference of naturals, by its sign

pub part_negative : {z : ℤ} {p n : ℕ} → Difference z p n → p < n → (m : ℕ) → m + p ≡ n
    → record { negative = true; magnitude = m } ≡ part_of z
part_negative {z = pos a} h l m e = absurd (omega arith)
part_negative {z = negsuc a} h l m e = ap (λ (t : ℕ). record { negative = true; magnitude = t }) (omega arith)

pub part_positive : {z : ℤ} {p n : ℕ} → Difference z p n → n ≤ p → (m : ℕ) → m + n ≡ p
    → record { negative = false; magnitude = m } ≡ part_of z
part_positive {z = pos a} h l m e = ap (λ (t : ℕ). record { negative = false; magnitude = t }) (omega arith)
part_positive {z = negsuc a} h l m e = absurd (omega arith)

-- ---- a number by its own sign: below 0, -1 - x is not negative, fits where x does, and is one short of the magnitude

module _ (x : ℤ) (below : x ≺ pos 0) where
  way : Difference (negsuc 0 -ℤ x) (0 + down x) (1 + up x)
  way = added (parts (negsuc 0)) (negated (parts x))

  pub short : nat_abs (negsuc 0 -ℤ x) + 1 + up x ≡ down x
  short = omega (arith, size_up way (omega arith))

  pub short_up : pos 0 ≼ negsuc 0 -ℤ x
  short_up = omega (arith, way)

  pub short_fits : SFits w64 x → SFits w64 (negsuc 0 -ℤ x)
  short_fits f = fits way (omega (arith, range x f)) (omega arith)

  pub part_below : record { negative = true; magnitude = nat_abs (negsuc 0 -ℤ x) + 1 } ≡ part_of x
  part_below = part_negative (parts x) (omega arith) _ short

pub part_above : (x : ℤ) → pos 0 ≼ x → record { negative = false; magnitude = nat_abs x } ≡ part_of x
part_above (pos a) above = refl
part_above (negsuc a) above = absurd (omega arith)

-- ---- offset binary

pub offset_sum : (x : ℤ) → SFits w64 x → offset_of x + down x ≡ up x + 2 ^ 63
unfolding offset_of
offset_sum x f = omega (arith, size_up (added (parts x) (natural (2 ^ 63))) (omega (arith, range x f)))

module _ (from to : ℤ) (from_fits : SFits w64 from) (to_fits : SFits w64 to) where
  pub difference_down : offset_of to < offset_of from
      → record { negative = true; magnitude = offset_of from - offset_of to } ≡ difference_of from to
  difference_down l =
      part_negative (added (parts to) (negated (parts from))) (omega (arith, offset_sum from from_fits, offset_sum to to_fits)) _
      (omega (arith, offset_sum from from_fits, offset_sum to to_fits))

  pub difference_up : offset_of from ≤ offset_of to
      → record { negative = false; magnitude = offset_of to - offset_of from } ≡ difference_of from to
  difference_up l =
      part_positive (added (parts to) (negated (parts from))) (omega (arith, offset_sum from from_fits, offset_sum to to_fits)) _
      (omega (arith, offset_sum from from_fits, offset_sum to to_fits))
