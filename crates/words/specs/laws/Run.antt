-- How far the loops of `digits::read` and `line::read_first` have come, and what the ways out of a number are.
use Rattle.std.specs.Prelude.{ℕ, ◌+◌, ◌-◌, ◌*◌, ◌^◌, ◌≤◌, ◌<◌, ◌≡◌, refl, List, [], ◌∷◌, Bool, true, false, cond, eqb, length, drop, get_or}
use Rattle.std.specs.Prelude.{Option, Some, None, min, take, ltb}
use Rattle.std.proofs.Common.{ltb-true, ltb-false}
use Rattle.std.proofs.lemmas.List.{get_or-take}
use Rattle.std.proofs.Common.{sym, ap, ◌∙◌, arith, add-one, pow-suc, mul-le-mul, lt-ltb, le-ltb, eqb-true, eq-eqb, ne_eqb}
use Rattle.std.proofs.Common.{drop_of_length-le, drop-cons, drop-drop}
use Rattle.std.proofs.Math.Nat.{pow-le-pow_right}
use Rattle.letters.specs.declared.letter.Letter.{Letter}
use Rattle.letters.specs.declared.word.Words.{Words}
use Rattle.letters.specs.computed.Scan.{letter_of, no_words}
use Rattle.letters.specs.laws.Scan.{put_of}
use Rattle.letters.specs.Letter.{takes_sign, takes_point}
use Rattle.letters.specs.Word.{one_word}
use Rattle.words.specs.declared.digits.Digits.{Digits}
use Rattle.words.specs.declared.number.Amount.{Amount}
use Rattle.words.specs.declared.number.Number.{Number}
use Rattle.words.specs.declared.number.Sign.{Sign}
use Rattle.words.specs.Meaning.{answer_of, not_words}
use Rattle.words.specs.computed.Scan.{first_byte, is_digit, digits, push_of, more_digits, digits_of, Sized}
use Rattle.words.specs.computed.Scan.{sign, sign_of, amount, pointed_of, amount_after, amount_of, with_sign, number_of}
use Rattle.words.specs.computed.Scan.{number_next, letter_next, next_item, scan_of, scan_line}
use Rattle.words.specs.laws.Digits.{digit_byte, digits_stop, digits_full, digits_more}
use Rattle.words.specs.laws.Line.{go_on, scan_skip}

-- ---- digits

-- the digits d are read, and those that are left make them all
pub record Counted (s : List ℕ) (most value : ℕ) (d : Digits) : Type 0 where
  pub read : more_digits most d (drop d.count s) ≡ digits_of most value s
  pub sized : Sized s most value d

pub counted_start : (s : List ℕ) (most value : ℕ) → Counted s most value (digits value 0)
counted_start s most value =
    record { read = refl; sized = record { within = omega arith; few = omega arith; low = omega arith } }

module _ {s : List ℕ} {most value : ℕ} {d : Digits} (r : Counted s most value d) where
  module _ (h : d.count < length s) where
    here : drop d.count s ≡ get_or s d.count 0 ∷ drop (d.count + 1) s
    here = rw add-one (drop-cons s d.count 0 h)

    next_digit : is_digit (get_or s d.count 0) ≡ true → d.count < most → Counted s most value (push_of d (get_or s d.count 0))
    next_digit g few =
        record {
          read = digits_more most d (get_or s d.count 0 ∷ drop (d.count + 1) s) g few ∙ (rw here at r.read);
          sized = record {
            within = omega arith;
            few = omega arith;
            low = rw (add-one d.count, pow-suc) (omega (arith, r.sized.low, digit_byte (get_or s d.count 0) g));
          };
        }

    pub counted_stop : is_digit (get_or s d.count 0) ≡ false → d ≡ digits_of most value s
    counted_stop g = sym (digits_stop most d (get_or s d.count 0 ∷ drop (d.count + 1) s) g) ∙ (rw here at r.read)

    -- b, read from as many bytes as may be digits
    pub counted_next : (m b : ℕ) → b ≡ get_or (take m s) d.count 0 → d.count < m → m ≤ most → is_digit b ≡ true
        → Counted s most value (push_of d b)
    counted_next m b e less few g =
        let same = e ∙ get_or-take m s d.count 0 less in
        rw same (next_digit (rw same at g) (omega arith))

  pub counted_full : most ≤ d.count → d ≡ digits_of most value s
  counted_full h = sym (digits_full most d (drop d.count s) h) ∙ r.read

  pub counted_over : min most (length s) ≤ d.count → d ≡ digits_of most value s
  counted_over h = by (ltb d.count most) refl
    where
      by : (b : Bool) → ltb d.count most ≡ b → d ≡ digits_of most value s
      by true e = let all : length s ≤ d.count = omega (arith, ltb-true d.count most e) in rw (drop_of_length-le s all) at r.read
      by false e = counted_full (ltb-false d.count most e)

-- at most seven digits are below 10 ^ 7, and after a value of at most seven below 10 ^ 14
module _ {s : List ℕ} {most value : ℕ} {d : Digits} (z : Sized s most value d) (few : most ≤ 7) (low : value < 10_000_000) where
  pub sized_below : d.value < 10 ^ 14
  sized_below =
      let k : d.count ≤ 7 = omega (arith, z.few) in
      let p : 10 ^ d.count ≤ 10 ^ 7 = pow-le-pow_right (omega arith) k in
      let v : value + 1 ≤ 10 ^ 7 = omega arith in
      omega (arith, z.low, mul-le-mul v p)

  pub scaled_below : d.value * 10 ^ (3 - d.count) ≤ 10 ^ 17
  scaled_below =
      let v : d.value ≤ 10 ^ 14 = omega (arith, sized_below) in
      let k : 3 - d.count ≤ 3 = omega arith in
      let p : 10 ^ (3 - d.count) ≤ 10 ^ 3 = pow-le-pow_right (omega arith) k in
      omega (arith, mul-le-mul v p)

pub whole_below : {s : List ℕ} {d : Digits} → Sized s 7 0 d → d.value < 10_000_000
whole_below {s} {d} z = let p : 10 ^ d.count ≤ 10 ^ 7 = pow-le-pow_right (omega arith) z.few in omega (arith, z.low)

-- ---- a number

-- a byte that is no blank is not past the end
pub byte_left : (s : List ℕ) → (first_byte s ≡ 32 → ⊥) → 1 ≤ length s
byte_left [] h = absurd (h refl)
byte_left (b ∷ s) h = omega arith

module _ (s : List ℕ) (w : Digits) (e : w ≡ digits_of 7 0 s) where
  pub amount_none : (fine : Bool) → w.count < 1 → None ≡ amount_of fine s
  amount_none fine h = rw (← e, lt-ltb w.count 1 h)

  module _ (some : 1 ≤ w.count) where
    after : (fine : Bool) → amount_after fine w (drop w.count s) ≡ amount_of fine s
    after fine = rw (← e, le-ltb w.count 1 some)

    pub amount_plain : amount w.value w.count ≡ amount_of false s
    amount_plain = after false

    pub amount_whole : (first_byte (drop w.count s) ≡ 46 → ⊥) → amount (w.value * 1000) w.count ≡ amount_of true s
    amount_whole h = rw (← after true, ne_eqb (first_byte (drop w.count s)) 46 h)

    pub amount_pointed : first_byte (drop w.count s) ≡ 46 → pointed_of w (digits_of 3 w.value (drop 1 (drop w.count s))) ≡ amount_of true s
    amount_pointed h = rw (← after true, eq-eqb (first_byte (drop w.count s)) 46 h)

-- a sign without a branch
pub one_most : (b : Bool) → cond b 1 0 ≤ 1
one_most true = omega arith
one_most false = omega arith

pub sign_read : (b : ℕ) → sign (eqb b 45) (cond (eqb b 45) 1 0 + cond (eqb b 43) 1 0) ≡ sign_of true b
sign_read b = by (eqb b 45) refl (eqb b 43) refl
  where
    by : (minus : Bool) → eqb b 45 ≡ minus → (plus : Bool) → eqb b 43 ≡ plus
        → sign minus (cond minus 1 0 + cond plus 1 0) ≡ cond minus (sign true 1) (cond plus (sign false 1) (sign false 0))
    by true e true g = absurd (omega (arith, eqb-true b 45 e, eqb-true b 43 g))
    by true e false g = refl
    by false e true g = refl
    by false e false g = refl

pub number_is : (s : List ℕ) (l : Letter) (g : Sign) (m : Option Amount) → g ≡ sign_of (takes_sign l) (first_byte s)
    → m ≡ amount_of (takes_point l) (drop g.bytes s) → with_sign g m ≡ number_of l s
number_is s l g m h q = rw (← h, ← q)

-- ---- a line

-- the words so far, and what the scan finds from the byte i on, are its answer
pub record Scanned (s : List ℕ) (ws : Words) (i : ℕ) : Type 0 where
  pub within : i ≤ length s
  pub line : scan_of 0 ws (drop i s) ≡ scan_line s

pub scanned_start : (s : List ℕ) → Scanned s no_words 0
unfolding scan_line
scanned_start s = record { within = omega arith; line = refl }

pub scanned_end : {s : List ℕ} {ws : Words} {i : ℕ} → Scanned s ws i → length s ≤ i → answer_of true ws ≡ scan_line s
scanned_end {s} r h = rw (drop_of_length-le s h) at r.line

-- one byte more
module _ {s : List ℕ} {ws : Words} {i : ℕ} (r : Scanned s ws i) (h : i < length s) where
  next : go_on (drop (i + 1) s) (next_item ws (get_or s i 0) (drop (i + 1) s)) ≡ scan_line s
  next =
      let e : drop i s ≡ get_or s i 0 ∷ drop (i + 1) s = rw add-one (drop-cons s i 0 h) in
      rw e at r.line

  pub scanned_blank : get_or s i 0 ≡ 32 → Scanned s ws (i + 1)
  scanned_blank e = record { within = omega arith; line = rw (eq-eqb (get_or s i 0) 32 e) at next }

  module _ (g : get_or s i 0 ≡ 32 → ⊥) where
    named : (n : Option Letter) → letter_of (get_or s i 0) ≡ n → go_on (drop (i + 1) s) (letter_next ws n (drop (i + 1) s)) ≡ scan_line s
    named n e = rw (ne_eqb (get_or s i 0) 32 g, e) at next

    pub scanned_other : letter_of (get_or s i 0) ≡ None → not_words ≡ scan_line s
    scanned_other e = named None e

    -- a letter, and its number
    module _ (l : Letter) (e : letter_of (get_or s i 0) ≡ Some l) where
      numbered : (n : Option Number) → number_of l (drop (i + 1) s) ≡ n → go_on (drop (i + 1) s) (number_next ws l n) ≡ scan_line s
      numbered n q = ap (λ (x : Option Number). go_on (drop (i + 1) s) (number_next ws l x)) (sym q) ∙ named (Some l) e

      pub scanned_wrong : number_of l (drop (i + 1) s) ≡ None → not_words ≡ scan_line s
      scanned_wrong q = numbered None q

      pub scanned_word : (n : Number) → number_of l (drop (i + 1) s) ≡ Some n → i + 1 + n.bytes ≤ length s
          → Scanned s (put_of ws l (one_word n.negative n.magnitude)) (i + 1 + n.bytes)
      scanned_word n q k =
          record {
            within = k;
            line = rw (← drop-drop n.bytes (i + 1) s) (sym (scan_skip n.bytes _ (drop (i + 1) s)) ∙ numbered (Some n) q);
          }
