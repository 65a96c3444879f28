-- A count in two parts: what one more adds, and its decimal.
use Prim.Native.Nat.{ℕ, zero, suc, ◌+◌, ◌*◌, ◌/◌, ◌%◌, ◌^◌, ◌≤◌, ◌<◌}
use Rattle.std.specs.Prelude.{◌≡◌, refl, Bool, true, false, ltb, set}
use Rattle.std.proofs.Common.{sym, ◌∙◌, pow-suc, length-append, ltb-true, ltb-false}
use Rattle.std.proofs.Math.Path.{ap, subst}
use mathlib.Core.List.{List, [], ◌∷◌, ◌++◌, append_assoc, append-nil}
use native.Mathlib.Omega.{arith}
use Rattle.std.proofs.Math.ListN.{length}
use Rattle.std.proofs.Math.Seq.{append_snoc}
use Rattle.row.specs.declared.long.LongCount.{LongCount}
use Rattle.row.specs.Decimal.{digit, decimal}
use Rattle.row.specs.computed.Long.{low_limit, long_of, long, plus_of, last_digits}
use Rattle.row.specs.computed.Puts.{Puts}
use Rattle.row.specs.laws.Puts.{at_most, puts_none, puts_before}
use Rattle.row.specs.laws.Decimal.{by_digits, decimal_small, decimal_large, length_small, length_large, digits_most}

-- ---- so many more

-- it counts so many more, carries at most one, and leaves the low part low
pub record Adds (c : LongCount) (n : ℕ) (r : LongCount) : Type 0 where
  pub sum : long_of r ≡ long_of c + n
  pub carried : r.high ≤ c.high + 1
  pub low : r.low < low_limit

pub plus_adds : (c : LongCount) (n : ℕ) → c.low < low_limit → n < low_limit → Adds c n (plus_of c n)
plus_adds c n low few = by (ltb (c.low + n) low_limit) refl
  where
    by : (fits : Bool) → ltb (c.low + n) low_limit ≡ fits → Adds c n (plus_of c n)
    by true e = rw e (record { sum = omega arith; carried = omega arith; low = ltb-true (c.low + n) low_limit e })
    by false e =
        let over = ltb-false (c.low + n) low_limit e in
        rw e (record { sum = omega arith; carried = omega arith; low = omega arith })

-- whatever the low part, the high one and what it carries go before eighteen digits
pub long_parts : (low high : ℕ) → long_of (long low high) ≡ (high + low / low_limit) * low_limit + low % low_limit
long_parts low high = omega arith

-- ---- the last digits

pub last_length : (k n : ℕ) → length (last_digits k n) ≡ k
unfolding last_digits
last_length zero n = refl
last_length (suc k) n = length-append (last_digits k (n / 10)) (digit (n % 10) ∷ []) ∙ omega (arith, last_length k (n / 10))

-- What the loop of `push::last_digits` keeps: the digits are so many of m and then a text, which stands in the buffer up to the end.
pub record LastBehind (count n : ℕ) (old : List ℕ) (at end : ℕ) (new : List ℕ) (m from : ℕ) : Type 0 where
  pub left : ℕ
  pub room : from ≡ at + left
  pub text : List ℕ
  pub all : last_digits count n ≡ last_digits left m ++ text
  pub puts : Puts text (length text) old from new end

pub last_none : (count n : ℕ) (old : List ℕ) (at : ℕ) → at + count ≤ length old → LastBehind count n old at (at + count) old n (at + count)
last_none count n old at h =
    record { left = count; room = refl; text = []; all = sym (append-nil (last_digits count n)); puts = puts_none old (at + count) h }

module _ {count n : ℕ} {old : List ℕ} {at end : ℕ} {new : List ℕ} {m : ℕ} where
  pub last_more : {from : ℕ} (i : ℕ) → LastBehind count n old at end new m from → from ≡ i + 1 → at ≤ i
      → LastBehind count n old at end (set new i (digit (m % 10))) (m / 10) i
  unfolding last_digits
  last_more {from} i b next h = by b.left b.room b.all
    where
      by : (left : ℕ) → from ≡ at + left → last_digits count n ≡ last_digits left m ++ b.text
          → LastBehind count n old at end (set new i (digit (m % 10))) (m / 10) i
      by zero room all = absurd (omega arith)
      by (suc k) room all =
          record {
            left = k;
            room = omega arith;
            text = digit (m % 10) ∷ b.text;
            all = all ∙ append_snoc (last_digits k (m / 10)) (digit (m % 10)) b.text;
            puts = puts_before i (digit (m % 10)) next b.puts;
          }

  pub last_all : {from : ℕ} → LastBehind count n old at end new m from → from ≤ at → Puts (last_digits count n) count old at new end
  unfolding last_digits
  last_all {from} b h = by b.left b.room b.all
    where
      by : (left : ℕ) → from ≡ at + left → last_digits count n ≡ last_digits left m ++ b.text
          → Puts (last_digits count n) count old at new end
      by zero room all =
          let here : from ≡ at = omega arith in
          let long : length b.text ≤ count = omega (arith, ap (λ (s : List ℕ). length s) all, last_length count n) in
          subst (λ (s : List ℕ). Puts s count old at new end) (sym all)
          (subst (λ (i : ℕ). Puts b.text count old i new end) here (at_most b.puts long))
      by (suc k) room all = absurd (omega arith)

-- ---- all digits

pub all_digits : (n : ℕ) → last_digits (length (decimal n)) n ≡ decimal n
unfolding last_digits
all_digits = by_digits (λ n. last_digits (length (decimal n)) n ≡ decimal n) small large
  where
    small : (n : ℕ) → n < 10 → last_digits (length (decimal n)) n ≡ decimal n
    small n h =
        let same : n % 10 ≡ n = omega arith in
        rw (length_small n h, decimal_small n h) (ap (λ (d : ℕ). digit d ∷ []) same)

    large : (n : ℕ) → 10 ≤ n → last_digits (length (decimal (n / 10))) (n / 10) ≡ decimal (n / 10)
        → last_digits (length (decimal n)) n ≡ decimal n
    large n h rest =
        let more : length (decimal n) ≡ suc (length (decimal (n / 10))) = omega (arith, length_large n h) in
        rw more (ap (λ (s : List ℕ). s ++ (digit (n % 10) ∷ [])) rest ∙ sym (decimal_large n h))

pub below_digits : (n : ℕ) → n < 10 ^ length (decimal n)
below_digits = by_digits (λ n. n < 10 ^ length (decimal n)) small large
  where
    small : (n : ℕ) → n < 10 → n < 10 ^ length (decimal n)
    small n h = rw (length_small n h) (omega arith)

    large : (n : ℕ) → 10 ≤ n → n / 10 < 10 ^ length (decimal (n / 10)) → n < 10 ^ length (decimal n)
    large n h rest =
        let more : length (decimal n) ≡ suc (length (decimal (n / 10))) = omega (arith, length_large n h) in
        rw (more, pow-suc 10 (length (decimal (n / 10)))) (omega (arith, rest))

pub tenth_below : (k m : ℕ) → m < 10 ^ suc k → m / 10 < 10 ^ k
tenth_below k m h = let below : m < 10 ^ k * 10 = rw (pow-suc 10 k) at h in omega arith

-- ---- high digits before low ones

some_power : (k : ℕ) → 0 < 10 ^ k
some_power zero = omega arith
some_power (suc k) = rw (pow-suc 10 k) (omega (arith, some_power k))

digits_joined : (k h l : ℕ) → 1 ≤ h → l < 10 ^ k → decimal (h * 10 ^ k + l) ≡ decimal h ++ last_digits k l
unfolding last_digits
digits_joined zero h l some low = let none : h * 1 + l ≡ h = omega arith in ap decimal none ∙ sym (append-nil (decimal h))
digits_joined (suc k) h l some low =
    let below : l < 10 ^ k * 10 = rw (pow-suc 10 k) at low in
    let n = h * 10 ^ suc k + l in
    let tens : n ≡ (h * 10 ^ k) * 10 + l = rw (pow-suc 10 k) (omega arith) in
    let some_tens : 1 ≤ h * 10 ^ k = positive h (10 ^ k) some (some_power k) in
    let large : 10 ≤ n = omega arith in
    let front : n / 10 ≡ h * 10 ^ k + l / 10 = omega arith in
    let last : n % 10 ≡ l % 10 = omega arith in
    decimal_large n large
    ∙ ap (λ (m : ℕ). decimal m ++ (digit (n % 10) ∷ [])) front
    ∙ ap (λ (s : List ℕ). s ++ (digit (n % 10) ∷ [])) (digits_joined k h (l / 10) some (omega arith))
    ∙ ap (λ (d : ℕ). (decimal h ++ last_digits k (l / 10)) ++ (digit d ∷ [])) last
    ∙ append_assoc (decimal h) (last_digits k (l / 10)) (digit (l % 10) ∷ [])
  where
    positive : (a b : ℕ) → 1 ≤ a → 0 < b → 1 ≤ a * b
    positive zero b p q = absurd (omega arith)
    positive (suc a) zero p q = absurd (omega arith)
    positive (suc a) (suc b) p q = omega arith

-- a high part of 32 bits and what the low one carries have 20 digits at most, by far
pub high_digits : (low high : ℕ) → low < 2 ^ 64 → high < 2 ^ 32 → length (decimal (high + low / low_limit)) ≤ 20
high_digits low high l h = digits_most (high + low / low_limit) (omega arith)

module _ (low high : ℕ) where
  pub long_none : high + low / low_limit ≡ 0 → decimal (long_of (long low high)) ≡ decimal (low % low_limit)
  long_none e = ap decimal (omega arith)

  pub long_some : 1 ≤ high + low / low_limit
      → decimal (long_of (long low high)) ≡ decimal (high + low / low_limit) ++ last_digits 18 (low % low_limit)
  long_some some =
      ap decimal (long_parts low high) ∙ digits_joined 18 (high + low / low_limit) (low % low_limit) some (omega arith)
