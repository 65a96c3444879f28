-- Digits that are read are the number that they write, and how large it is.
use Rattle.std.specs.Prelude.{ℕ, ◌+◌, ◌-◌, ◌*◌, ◌^◌, ◌≤◌, ◌<◌, ◌≡◌, refl, List, [], ◌∷◌, ◌++◌, Bool, true, false, cond, ltb, leb, length}
use Rattle.std.specs.Prelude.{drop}
use Rattle.std.proofs.Common.{sym, ap, ◌∙◌, arith, pow-suc, lt_of_lt_of_le, mul_assoc, mul-le-mul_right, mul-lt-mul_of_pos_right, pow-add}
use Rattle.std.proofs.Common.{ltb-true, ltb-false, leb-true, lt-ltb, le-ltb, le-leb}
use Rattle.std.proofs.Math.Bool.{and-false}
use Rattle.std.proofs.lemmas.Bool.{false≢true}
use Rattle.std.proofs.Math.Nat.{one-le-pow, pow-le-pow_right, add-sub_cancel_left}
use Rattle.letters.specs.declared.letter.Letter.{Letter}
use Rattle.letters.specs.Letter.{takes_point, unit_of}
use Rattle.words.specs.declared.digits.Digits.{Digits}
use Rattle.words.specs.Grammar.{digits_text, AllDigits, PointRight}
use Rattle.words.specs.Meaning.{number, magnitude_of}
use Rattle.words.specs.computed.Scan.{first_byte, is_digit, digits, push_of, more_digits, digits_of}

-- ---- a byte that is a digit

digit_if : (low : Bool) (b : ℕ) → ltb b 48 ≡ low → cond low false (leb b 57) ≡ true → (48 ≤ b) × (b ≤ 57)
digit_if true b e h = absurd (false≢true h)
digit_if false b e h = (ltb-false b 48 e, leb-true b 57 h)

pub digit_byte : (b : ℕ) → is_digit b ≡ true → (48 ≤ b) × (b ≤ 57)
digit_byte b h = digit_if (ltb b 48) b refl h

pub digit_is : (d : ℕ) → d < 10 → is_digit (48 + d) ≡ true
digit_is d h = rw (le-ltb (48 + d) 48 (omega arith), le-leb (48 + d) 57 (omega arith))

-- ---- one more, and the last

module _ (most : ℕ) (d : Digits) where
  pub digits_stop : (s : List ℕ) → is_digit (first_byte s) ≡ false → more_digits most d s ≡ d
  digits_stop [] h = refl
  digits_stop (b ∷ s) h = rw h

  pub digits_full : (s : List ℕ) → most ≤ d.count → more_digits most d s ≡ d
  digits_full [] h = refl
  digits_full (b ∷ s) h = rw (le-ltb d.count most h, and-false)

  pub digits_more : (s : List ℕ) → is_digit (first_byte s) ≡ true → d.count < most
      → more_digits most (push_of d (first_byte s)) (drop 1 s) ≡ more_digits most d s
  digits_more [] e h = absurd (false≢true e)
  digits_more (b ∷ s) e h = rw (e, lt-ltb d.count most h)

-- ---- the digits of a text are read

digits_same : {v v' k k' : ℕ} → v ≡ v' → k ≡ k' → digits v k ≡ digits v' k'
digits_same p q = cc

read_more : (most : ℕ) (d : Digits) (ds s : List ℕ) → AllDigits ds → d.count + length ds ≤ most → is_digit (first_byte s) ≡ false
    → more_digits most d (digits_text ds ++ s) ≡ digits (d.value * 10 ^ length ds + number ds) (d.count + length ds)
read_more most d [] s a few end = digits_stop most d s end ∙ digits_same (omega arith) (omega arith)
read_more most d (n ∷ ds) s a few end =
    rw (digit_is n a.0, lt-ltb d.count most (omega arith))
    (read_more most (push_of d (48 + n)) ds s a.1 (omega arith) end
    ∙ digits_same (rw (pow-suc, add-sub_cancel_left 48 n) (omega arith)) (omega arith))

pub digits_read : (most v : ℕ) (ds s : List ℕ) → AllDigits ds → length ds ≤ most → is_digit (first_byte s) ≡ false
    → digits_of most v (digits_text ds ++ s) ≡ digits (v * 10 ^ length ds + number ds) (length ds)
digits_read most v ds s a few end = read_more most (digits v 0) ds s a (omega arith) end ∙ digits_same refl (omega arith)

-- ---- what is read are digits of the text

pub record DigitsIn (most : ℕ) (d : Digits) (s : List ℕ) : Type 0 where
  pub list : List ℕ
  pub digits : AllDigits list
  pub count : (more_digits most d s).count ≡ d.count + length list
  pub few : d.count + length list ≤ most
  pub text : digits_text list ++ drop (length list) s ≡ s

no_digits : (most : ℕ) (d : Digits) (s : List ℕ) → d.count ≤ most → more_digits most d s ≡ d → DigitsIn most d s
no_digits most d s h e = record { list = []; digits = tt; count = rw e (omega arith); few = omega arith; text = refl }

more_digits_lem : (most : ℕ) (d : Digits) (b : ℕ) (s : List ℕ) → is_digit b ≡ true → d.count < most → DigitsIn most (push_of d b) s
    → DigitsIn most d (b ∷ s)
more_digits_lem most d b s e h r =
    let x = digit_byte b e in
    let y : 48 + (b - 48) ≡ b = omega arith in
    record {
      list = (b - 48) ∷ r.list;
      digits = (omega arith, r.digits);
      count = ap (λ (c : Digits). c.count) (sym (digits_more most d (b ∷ s) e h)) ∙ r.count ∙ omega arith;
      few = omega (arith, r.few);
      text = rw y (ap (λ (t : List ℕ). b ∷ t) r.text);
    }

pub digits_in_lem : (most : ℕ) (d : Digits) (s : List ℕ) → d.count ≤ most → DigitsIn most d s
digits_in_lem most d [] h = no_digits most d [] h refl
digits_in_lem most d (b ∷ s) h = by (is_digit b) refl (ltb d.count most) refl (λ k. digits_in_lem most (push_of d b) s (omega arith))
  where
    by : (x : Bool) → is_digit b ≡ x → (y : Bool) → ltb d.count most ≡ y → (d.count < most → DigitsIn most (push_of d b) s)
        → DigitsIn most d (b ∷ s)
    by false e y g more = no_digits most d (b ∷ s) h (digits_stop most d (b ∷ s) e)
    by true e false g more = no_digits most d (b ∷ s) h (digits_full most d (b ∷ s) (ltb-false _ _ g))
    by true e true g more = let k : d.count < most = ltb-true _ _ g in more_digits_lem most d b s e k (more k)

-- ---- in units of its letter

thousand : (k : ℕ) → k ≤ 3 → 10 ^ k * 10 ^ (3 - k) ≡ 1000
thousand k h = let e : k + (3 - k) ≡ 3 = omega arith in sym (pow-add 10 k (3 - k)) ∙ rw e

-- all digits in units of the last are the whole in thousandths, and the decimals in theirs
pub in_thousandths : (n : ℕ) (f : List ℕ) → length f ≤ 3
    → (n * 10 ^ length f + number f) * 10 ^ (3 - length f) ≡ n * 1000 + number f * 10 ^ (3 - length f)
in_thousandths n f h =
    let k = length f in
    let m : n * 10 ^ k * 10 ^ (3 - k) ≡ n * 1000 = mul_assoc n (10 ^ k) (10 ^ (3 - k)) ∙ rw (thousand k h) in
    omega arith

-- ---- how large it is

number_below : (ds : List ℕ) → AllDigits ds → number ds < 10 ^ length ds
number_below [] a = omega arith
number_below (d ∷ ds) a =
    let n = number_below ds a.1 in
    let m : d * 10 ^ length ds ≤ 9 * 10 ^ length ds = mul-le-mul_right (10 ^ length ds) (omega (arith, a.0)) in
    rw pow-suc (omega arith)

below_7 : (ds : List ℕ) → AllDigits ds → length ds ≤ 7 → number ds < 10 ^ 7
below_7 ds a h = lt_of_lt_of_le (number_below ds a) (pow-le-pow_right (omega arith) h)

-- decimals, as thousandths, are less than one whole
thousandths : (f : List ℕ) → AllDigits f → length f ≤ 3 → number f * 10 ^ (3 - length f) < 1000
thousandths f a h = rw (thousand (length f) h) at (mul-lt-mul_of_pos_right (number_below f a) (one-le-pow (3 - length f) 10 (omega arith)))

below_unit : (takes : Bool) (n : ℕ) (f : List ℕ) → n < 10 ^ 7 → number f * 10 ^ (3 - length f) < 1000 → PointRight takes f
    → n * cond takes 1000 1 + number f * 10 ^ (3 - length f) < 10 ^ 7 * cond takes 1000 1
below_unit true n f h g p = omega arith
below_unit false n f h g p = rw p (omega arith)

-- 10,000,000 of its units, so 10 ^ 10 thousandths, or 10 ^ 7 for a letter without a point
pub magnitude_below : (l : Letter) (w f : List ℕ) → AllDigits w → length w ≤ 7 → AllDigits f → length f ≤ 3 → PointRight (takes_point l) f
    → magnitude_of l w f < 10 ^ 7 * unit_of l
magnitude_below l w f a h b g p = below_unit (takes_point l) (number w) f (below_7 w a h) (thousandths f b g) p
