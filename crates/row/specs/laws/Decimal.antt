-- Decimal numbers: digit by digit, how long they are, and a sign before them as the code puts it.
use Rattle.std.specs.Prelude.{ℕ, zero, suc, ◌*◌, ◌/◌, ◌%◌, ◌+◌, ◌^◌, ◌≤◌, ◌<◌, ◌≡◌, Bool, [], ◌∷◌, ◌++◌, length, ltb, ℤ, pos, negsuc}
use Rattle.std.proofs.Math.Path.{refl}
use Rattle.std.proofs.Common.{sym, ◌∙◌, arith, pow-suc, div-one, length-append, Fits, SFits, lt-ltb, le-ltb, ltb-true, ltb-false}
use Rattle.std.proofs.Math.Bool.{true, false}
use Rattle.std.proofs.Math.Nat.{pow-succ', one-le-pow, div-div-eq-div-mul}
use Rattle.std.specs.Int.{w64}
use Rattle.whole.specs.declared.sign.SignMagnitude.{SignMagnitude}
use Rattle.whole.specs.computed.Sign.{part_of}
use Rattle.row.specs.Decimal.{digit, digits_in, decimal, signed_decimal}

-- Induction on the digits: what holds of one digit, and of n where it holds of n / 10, holds of every number.
module _ (P : ℕ → Type 0) (one : (n : ℕ) → n < 10 → P n) (more : (n : ℕ) → 10 ≤ n → P (n / 10) → P n) where
  within : (tries n : ℕ) → n < tries → P n
  within zero n h = absurd (omega arith)
  within (suc k) n h = by (ltb n 10) refl (within k (n / 10))
    where
      by : (t : Bool) → ltb n 10 ≡ t → (n / 10 < k → P (n / 10)) → P n
      by true e rest = one n (ltb-true n 10 e)
      by false e rest = let l : 10 ≤ n = ltb-false n 10 e in more n l (rest (omega arith))

  pub by_digits : (n : ℕ) → P n
  by_digits n = within (suc n) n (omega arith)

one_digit : (k n : ℕ) → n < 10 → digits_in (suc k) n ≡ digit n ∷ []
one_digit k n h = rw (lt-ltb n 10 h)

more_digits_lem : (k n : ℕ) → 10 ≤ n → digits_in (suc k) n ≡ digits_in k (n / 10) ++ (digit (n % 10) ∷ [])
more_digits_lem k n h = rw (le-ltb n 10 h)

-- any number of tries that is enough gives the same digits
enough : (n j k : ℕ) → n < j → n < k → digits_in j n ≡ digits_in k n
enough = by_digits (λ n. (j k : ℕ) → n < j → n < k → digits_in j n ≡ digits_in k n) small large
  where
    small : (n : ℕ) → n < 10 → (j k : ℕ) → n < j → n < k → digits_in j n ≡ digits_in k n
    small n h zero k p q = absurd (omega arith)
    small n h (suc j) zero p q = absurd (omega arith)
    small n h (suc j) (suc k) p q = one_digit j n h ∙ sym (one_digit k n h)

    large : (n : ℕ) → 10 ≤ n → ((j k : ℕ) → n / 10 < j → n / 10 < k → digits_in j (n / 10) ≡ digits_in k (n / 10))
        → (j k : ℕ) → n < j → n < k → digits_in j n ≡ digits_in k n
    large n h rest zero k p q = absurd (omega arith)
    large n h rest (suc j) zero p q = absurd (omega arith)
    large n h rest (suc j) (suc k) p q =
        more_digits_lem j n h ∙ rw (rest j k (omega arith) (omega arith)) (sym (more_digits_lem k n h))

-- below 10, one digit
pub decimal_small : (n : ℕ) → n < 10 → decimal n ≡ digit n ∷ []
unfolding decimal
decimal_small n h = one_digit n n h

-- from 10 on, the digits of n / 10 and one more
pub decimal_large : (n : ℕ) → 10 ≤ n → decimal n ≡ decimal (n / 10) ++ (digit (n % 10) ∷ [])
unfolding decimal
decimal_large n h = more_digits_lem n n h ∙ rw (enough (n / 10) n (suc (n / 10)) (omega arith) (omega arith))

-- ---- how long

pub length_small : (n : ℕ) → n < 10 → length (decimal n) ≡ 1
length_small n h = rw (decimal_small n h)

pub length_large : (n : ℕ) → 10 ≤ n → length (decimal n) ≡ length (decimal (n / 10)) + 1
length_large n h = rw (decimal_large n h, length-append)

pub digits_least : (n : ℕ) → 1 ≤ length (decimal n)
digits_least =
    by_digits (λ n. 1 ≤ length (decimal n)) (λ n h. omega (arith, length_small n h)) (λ n h rest. omega (arith, length_large n h))

-- a number below 10 ^ (k + 1) has k + 1 digits at most
pub digits_below : (n k : ℕ) → n < 10 ^ suc k → length (decimal n) ≤ suc k
digits_below =
    by_digits (λ n. (k : ℕ) → n < 10 ^ suc k → length (decimal n) ≤ suc k) (λ n h k l. omega (arith, length_small n h)) large
  where
    large : (n : ℕ) → 10 ≤ n → ((k : ℕ) → n / 10 < 10 ^ suc k → length (decimal (n / 10)) ≤ suc k)
        → (k : ℕ) → n < 10 ^ suc k → length (decimal n) ≤ suc k
    large n h rest zero l = absurd (omega arith)
    large n h rest (suc k) l =
        let below : n < 10 ^ suc k * 10 = rw (pow-suc 10 (suc k)) at l in
        omega (arith, length_large n h, rest k (omega arith))

-- from 10 ^ k on, k more than without the last k
pub digits_after : (k n : ℕ) → 10 ^ k ≤ n → length (decimal n) ≡ k + length (decimal (n / 10 ^ k))
digits_after zero n h = rw div-one (omega arith)
digits_after (suc k) n h =
    let far : 10 * 10 ^ k ≤ n = rw pow-succ' at h in
    let ten : 10 ≤ n = omega (arith, one-le-pow k 10 (omega arith)) in
    let rest = digits_after k (n / 10) (omega arith) in
    rw (pow-succ', ← div-div-eq-div-mul) (omega (arith, length_large n ten))

-- from 10 ^ k on and below 10 ^ (k + 1), k + 1
pub digits_between : (k n : ℕ) → 10 ^ k ≤ n → n < 10 ^ suc k → length (decimal n) ≡ suc k
digits_between k n h l = omega (arith, digits_below n k l, digits_after k n h, digits_least (n / 10 ^ k))

-- a u64 has 20
pub digits_most : (n : ℕ) → Fits w64 n → length (decimal n) ≤ 20
digits_most n h = digits_below n 19 (omega arith)

-- and so has an i64, with its sign
pub signed_most : (v : ℤ) → SFits w64 v → length (signed_decimal v) ≤ 20
unfolding signed_decimal
signed_most (pos n) h = omega (arith, digits_below n 18 (omega arith))
signed_most (negsuc n) h = omega (arith, digits_below (suc n) 18 (omega arith))

-- ---- a sign where the number is negative, and then the magnitude

true_not_false : true ≡ false → ⊥
true_not_false e = let z : ◌≡◌ {A = ℕ} 0 1 = cc in omega arith

module _ (v : ℤ) (p : SignMagnitude) (parted : p ≡ part_of v) where
  pub with_sign_lem : p.negative ≡ true → signed_decimal v ≡ 45 ∷ decimal p.magnitude
  unfolding signed_decimal
  with_sign_lem e = rw parted (by v (rw parted at e))
    where
      by : (v : ℤ) → (part_of v).negative ≡ true → signed_decimal v ≡ 45 ∷ decimal (part_of v).magnitude
      by (pos n) e = absurd (true_not_false (sym e))
      by (negsuc n) e = refl

  pub without_sign : p.negative ≡ false → signed_decimal v ≡ decimal p.magnitude
  unfolding signed_decimal
  without_sign e = rw parted (by v (rw parted at e))
    where
      by : (v : ℤ) → (part_of v).negative ≡ false → signed_decimal v ≡ decimal (part_of v).magnitude
      by (pos n) e = refl
      by (negsuc n) e = absurd (true_not_false e)
