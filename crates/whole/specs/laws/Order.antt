-- The order of whole numbers as one of naturals, which `omega` reads; the tests of signed code; sizes and the range of an i64.
use Rattle.std.specs.Prelude.{◌≡◌, refl, true, false, ℕ, zero, suc, ◌+◌, ◌-◌, ◌*◌, ◌≤◌, ◌<◌, ◌^◌, T, ℤ, pos, negsuc, neg_ℤ, nat_abs, ◌+ℤ◌}
use Rattle.std.specs.Prelude.{◌-ℤ◌, ◌*ℤ◌, ◌≤ℤ◌}
use Rattle.std.proofs.Common.{sym, ap, subst, ◌∙◌, arith, leb→le, le→leb, SFits, Fits, to_z, of_z, to_z-of_z, ltb-true, ltb-false, leb-true}
use Rattle.std.proofs.Common.{leb-false, lt-ltb, le-ltb, le-leb}
use Rattle.std.specs.Int.Signed.{lt_z, le_z, non_neg}
use Rattle.std.specs.Int.{w64}
use Rattle.whole.specs.laws.Difference.{up, down, Difference, parts, negated, added, equal, size}

-- x is at most y, and x is below y, for `omega`
infix 5 ◌≼◌ ◌≺◌
abbrev pub ◌≼◌ : ℤ → ℤ → Type 0
x ≼ y = up x + down y ≤ up y + down x

abbrev pub ◌≺◌ : ℤ → ℤ → Type 0
x ≺ y = up x + down y < up y + down x

-- the library's order
pub from_≤ℤ : {x y : ℤ} → x ≤ℤ y → x ≼ y
from_≤ℤ {x = pos a} {y = pos b} h = omega (arith, leb→le a b h.le)
from_≤ℤ {x = pos a} {y = negsuc b} h = absurd h.le
from_≤ℤ {x = negsuc a} {y = pos b} h = omega arith
from_≤ℤ {x = negsuc a} {y = negsuc b} h = omega (arith, leb→le b a h.le)

pub to_≤ℤ : (x y : ℤ) → x ≼ y → x ≤ℤ y
to_≤ℤ (pos a) (pos b) h = record { le = le→leb a b (omega arith) }
to_≤ℤ (pos a) (negsuc b) h = absurd (omega arith)
to_≤ℤ (negsuc a) (pos b) h = record { le = tt }
to_≤ℤ (negsuc a) (negsuc b) h = record { le = le→leb b a (omega arith) }

-- ---- the tests of signed code: rules for `omega`'s list

pub lt_z_true : (x y : ℤ) → lt_z x y ≡ true → x ≺ y
lt_z_true (pos a) (pos b) e = omega (arith, ltb-true a b e)
lt_z_true (pos a) (negsuc b) e = absurd (subst T (sym e) tt)
lt_z_true (negsuc a) (pos b) e = omega arith
lt_z_true (negsuc a) (negsuc b) e = omega (arith, ltb-true b a e)

pub lt_z_false : (x y : ℤ) → lt_z x y ≡ false → y ≼ x
lt_z_false (pos a) (pos b) e = omega (arith, ltb-false a b e)
lt_z_false (pos a) (negsuc b) e = omega arith
lt_z_false (negsuc a) (pos b) e = absurd (subst T e tt)
lt_z_false (negsuc a) (negsuc b) e = omega (arith, ltb-false b a e)

pub le_z_true : (x y : ℤ) → le_z x y ≡ true → x ≼ y
le_z_true (pos a) (pos b) e = omega (arith, leb-true a b e)
le_z_true (pos a) (negsuc b) e = absurd (subst T (sym e) tt)
le_z_true (negsuc a) (pos b) e = omega arith
le_z_true (negsuc a) (negsuc b) e = omega (arith, leb-true b a e)

pub le_z_false : (x y : ℤ) → le_z x y ≡ false → y ≺ x
le_z_false (pos a) (pos b) e = omega (arith, leb-false a b e)
le_z_false (pos a) (negsuc b) e = omega arith
le_z_false (negsuc a) (pos b) e = absurd (subst T e tt)
le_z_false (negsuc a) (negsuc b) e = omega (arith, leb-false b a e)

-- and the tests from the facts
pub ≼_le_z : (x y : ℤ) → x ≼ y → le_z x y ≡ true
≼_le_z (pos a) (pos b) h = le-leb a b (omega arith)
≼_le_z (pos a) (negsuc b) h = absurd (omega arith)
≼_le_z (negsuc a) (pos b) h = refl
≼_le_z (negsuc a) (negsuc b) h = le-leb b a (omega arith)

pub ≺_lt_z : (x y : ℤ) → x ≺ y → lt_z x y ≡ true
≺_lt_z (pos a) (pos b) h = lt-ltb a b (omega arith)
≺_lt_z (pos a) (negsuc b) h = absurd (omega arith)
≺_lt_z (negsuc a) (pos b) h = refl
≺_lt_z (negsuc a) (negsuc b) h = lt-ltb b a (omega arith)

pub ≼_lt_z : (x y : ℤ) → y ≼ x → lt_z x y ≡ false
≼_lt_z (pos a) (pos b) h = le-ltb a b (omega arith)
≼_lt_z (pos a) (negsuc b) h = refl
≼_lt_z (negsuc a) (pos b) h = absurd (omega arith)
≼_lt_z (negsuc a) (negsuc b) h = le-ltb b a (omega arith)

-- the same of two values that the code reads back from their bits
module _ (x y : ℤ) (fx : SFits w64 x) (fy : SFits w64 y) where
  pub test_lt : lt_z (to_z w64 (of_z w64 x)) (to_z w64 (of_z w64 y)) ≡ true → x ≺ y
  test_lt t = lt_z_true x y (simp to_z-of_z at t)

  pub test_not_lt : lt_z (to_z w64 (of_z w64 x)) (to_z w64 (of_z w64 y)) ≡ false → y ≼ x
  test_not_lt t = lt_z_false x y (simp to_z-of_z at t)

  pub test_le : le_z (to_z w64 (of_z w64 x)) (to_z w64 (of_z w64 y)) ≡ true → x ≼ y
  test_le t = le_z_true x y (simp to_z-of_z at t)

  pub test_not_le : le_z (to_z w64 (of_z w64 x)) (to_z w64 (of_z w64 y)) ≡ false → y ≺ x
  test_not_le t = le_z_false x y (simp to_z-of_z at t)

-- `==` on signed numbers is one of their bits
pub bits_equal : {x y : ℤ} → SFits w64 x → SFits w64 y → of_z w64 x ≡ of_z w64 y → x ≡ y
bits_equal fx fy e = sym (to_z-of_z fx) ∙ ap (to_z w64) e ∙ to_z-of_z fy

-- ---- sizes

pub abs_is : (z : ℤ) → nat_abs z ≡ up z + down z
abs_is (pos a) = omega arith
abs_is (negsuc a) = omega arith

pub abs_neg : (z : ℤ) → nat_abs (neg_ℤ z) ≡ nat_abs z
abs_neg (pos zero) = refl
abs_neg (pos (suc n)) = refl
abs_neg (negsuc n) = refl

pub abs_add : (x y : ℤ) → nat_abs (x +ℤ y) ≤ nat_abs x + nat_abs y
abs_add x y = omega (arith, abs_is x, abs_is y, size (added (parts x) (parts y)))

pub abs_sub : (x y : ℤ) → nat_abs (x -ℤ y) ≤ nat_abs x + nat_abs y
abs_sub x y = omega (arith, abs_add x (neg_ℤ y), abs_neg y)

pub abs_mul : (x y : ℤ) → nat_abs (x *ℤ y) ≡ nat_abs x * nat_abs y
abs_mul (pos a) (pos b) = refl
abs_mul (pos a) (negsuc b) = abs_neg (pos (a * suc b))
abs_mul (negsuc a) (pos b) = abs_neg (pos (suc a * b))
abs_mul (negsuc a) (negsuc b) = refl

-- no way between two numbers: they are the same
pub no_way : (x y : ℤ) → nat_abs (y -ℤ x) ≡ 0 → x ≡ y
no_way x y h = equal (parts x) (parts y) (omega (arith, abs_is (y -ℤ x), added (parts y) (negated (parts x))))

-- ---- the range of an i64

pub fits : {z : ℤ} {p n : ℕ} → Difference z p n → p < n + 2 ^ 63 → n ≤ p + 2 ^ 63 → SFits w64 z
fits {z = pos a} h k l = omega arith
fits {z = negsuc a} h k l = omega arith

pub abs_fits : (z : ℤ) → nat_abs z < 2 ^ 63 → SFits w64 z
abs_fits (pos a) h = omega arith
abs_fits (negsuc a) h = omega arith

pub range : (z : ℤ) → SFits w64 z → (up z < 2 ^ 63) × (down z ≤ 2 ^ 63)
range (pos a) h = omega arith
range (negsuc a) h = omega arith

-- a cast to u64 of a number that is not negative
pub to_unsigned : (z : ℤ) → pos 0 ≼ z → SFits w64 z → T (non_neg z) × Fits w64 (nat_abs z)
to_unsigned (pos a) h f = (tt, omega arith)
to_unsigned (negsuc a) h f = absurd (omega arith)

-- between the least and the greatest i64
pub fits_between : (z : ℤ) → negsuc (2 ^ 63 - 1) ≼ z → z ≼ pos (2 ^ 63 - 1) → SFits w64 z
fits_between (pos a) l h = omega arith
fits_between (negsuc a) l h = omega arith

pub between_fits : (z : ℤ) → SFits w64 z → (negsuc (2 ^ 63 - 1) ≼ z) × (z ≼ pos (2 ^ 63 - 1))
between_fits (pos a) f = omega arith
between_fits (negsuc a) f = omega arith
