-- The first line of a text, byte by byte; and a number, which no more than its line can have a part in.
use Rattle.std.specs.Prelude.{◌≡◌, refl, Bool, true, false, cond, not, ◌&&◌, List, [], ◌∷◌, ℕ, zero, suc, ◌+◌}
use Rattle.std.specs.Prelude.{◌-◌, ◌*◌, ◌^◌, ◌≤◌, ◌<◌, eqb, ltb}
use Rattle.std.specs.Prelude.{length, drop, get_or, Option, Some, None, IfSome, unwrap_or}
use Rattle.std.specs.List.{position_or_len}
use Rattle.std.proofs.Common.{sym, ap, ◌∙◌, arith, add-one, length-drop, drop_of_length-le}
use Rattle.std.proofs.Math.Seq.{drop-cons}
use borrow.Author.Tests.{eqb-true, eqb-false, eq-eqb, ne_eqb, ltb-true, ltb-false, lt-ltb}
use Rattle.letters.specs.declared.letter.Letter.{Letter}
use Rattle.letters.specs.Letter.{takes_sign, takes_point}
use Rattle.words.specs.declared.digits.Digits.{Digits}
use Rattle.words.specs.declared.number.Sign.{Sign}
use Rattle.words.specs.declared.number.Amount.{Amount}
use Rattle.words.specs.computed.Scan.{until_lf, first_line}
use Rattle.words.specs.computed.Scan.{first_byte, is_digit, digits, push_of, more_digits, digits_of}
use Rattle.words.specs.computed.Scan.{sign, sign_of, amount, amount_after, amount_with, amount_of, with_sign, number_after}
use Rattle.words.specs.computed.Scan.{number_of}

-- ---- its bytes

pub first_short : (s : List ℕ) → length (first_line s) ≤ length s
unfolding first_line
first_short [] = omega arith
first_short (b ∷ s) = by (eqb b 10) (first_short s)
  where
    by : (lf : Bool) → length (first_line s) ≤ length s → length (until_lf lf b (first_line s)) ≤ suc (length s)
    by true h = omega arith
    by false h = omega arith

-- from a place in it on, it is the first line of what is left
pub first_drop : (k : ℕ) (s : List ℕ) → k ≤ length (first_line s) → drop k (first_line s) ≡ first_line (drop k s)
unfolding first_line
first_drop zero s h = refl
first_drop (suc k) [] h = refl
first_drop (suc k) (b ∷ s) h = by (eqb b 10) h (first_drop k s)
  where
    by : (lf : Bool) → suc k ≤ length (until_lf lf b (first_line s))
        → (k ≤ length (first_line s) → drop k (first_line s) ≡ first_line (drop k s))
        → drop (suc k) (until_lf lf b (first_line s)) ≡ first_line (drop k s)
    by true less same = absurd (omega arith)
    by false less same = same (omega arith)

module _ (s : List ℕ) (i : ℕ) (h : i < length s) where
  pub end_here : get_or s i 0 ≡ 10 → length (first_line (drop i s)) ≡ 0
  unfolding first_line
  end_here e = rw (drop-cons s i 0 h, eq-eqb (get_or s i 0) 10 e)

  pub first_more : (get_or s i 0 ≡ 10 → ⊥) → first_line (drop i s) ≡ get_or s i 0 ∷ first_line (drop (i + 1) s)
  unfolding first_line
  first_more ne = rw (add-one, drop-cons s i 0 h, ne_eqb (get_or s i 0) 10 ne)

  pub end_later : (get_or s i 0 ≡ 10 → ⊥) → length (first_line (drop i s)) ≡ suc (length (first_line (drop (i + 1) s)))
  end_later ne = ap (λ (l : List ℕ). length l) (first_more ne)

pub end_after_lem : (s : List ℕ) (i : ℕ) → length s ≤ i → length (first_line (drop i s)) ≡ 0
unfolding first_line
end_after_lem s i h = rw (drop_of_length-le s h)

-- whether a byte of the line stands at a place of the text
pub byte_of_line : (s : List ℕ) (i : ℕ) → i < length s → not (eqb (get_or s i 0) 10) ≡ ltb 0 (length (first_line (drop i s)))
byte_of_line s i h = by (eqb (get_or s i 0) 10) refl
  where
    by : (lf : Bool) → eqb (get_or s i 0) 10 ≡ lf → not lf ≡ ltb 0 (length (first_line (drop i s)))
    by true e = rw (end_here s i h (eqb-true (get_or s i 0) 10 e))
    by false e = sym (lt-ltb 0 (length (first_line (drop i s))) (omega (arith, end_later s i h (eqb-false (get_or s i 0) 10 e))))

-- a byte of the line is in the text and no LF
pub in_text : (s : List ℕ) (i : ℕ) → ltb 0 (length (first_line (drop i s))) ≡ true → (i < length s) × (get_or s i 0 ≡ 10 → ⊥)
in_text s i e = by (ltb i (length s)) refl (ltb-true 0 (length (first_line (drop i s))) e)
  where
    by : (b : Bool) → ltb i (length s) ≡ b → 0 < length (first_line (drop i s)) → (i < length s) × (get_or s i 0 ≡ 10 → ⊥)
    by true less some = let h = ltb-true i (length s) less in (h, λ lf. absurd (omega (arith, some, end_here s i h lf)))
    by false past some = absurd (omega (arith, some, end_after_lem s i (ltb-false i (length s) past)))

pub at_end_lem : (s : List ℕ) (i : ℕ) → ltb 0 (length (first_line (drop i s))) ≡ false → length (first_line (drop i s)) ≡ 0
at_end_lem s i e = omega (arith, ltb-false 0 (length (first_line (drop i s))) e)

-- the place of the first LF, or the text's end
pub first_lf : (s : List ℕ) → position_or_len (λ b. eqb b 10) s ≡ length (first_line s)
unfolding first_line
first_lf [] = refl
first_lf (b ∷ s) = by (eqb b 10) (first_lf s)
  where
    by : (lf : Bool) → position_or_len (λ b. eqb b 10) s ≡ length (first_line s)
        → cond (not lf) (1 + position_or_len (λ b. eqb b 10) s) 0 ≡ length (until_lf lf b (first_line s))
    by true e = refl
    by false e = omega (arith, e)

-- as `position` tells it
pub place_or_end : (place end : ℕ) → place ≤ end → unwrap_or (cond (ltb place end) (Some place) None) end ≡ place
place_or_end place end h = by (ltb place end) refl
  where
    by : (b : Bool) → ltb place end ≡ b → unwrap_or (cond b (Some place) None) end ≡ place
    by true e = refl
    by false e = omega (arith, ltb-false place end e)

-- ---- a number ends with its line

digits_first : (most : ℕ) (d : Digits) (s : List ℕ) → more_digits most d s ≡ more_digits most d (first_line s)
unfolding first_line
digits_first most d [] = refl
digits_first most d (b ∷ s) = by (eqb b 10) refl (digits_first most (push_of d b) s)
  where
    by : (lf : Bool) → eqb b 10 ≡ lf → more_digits most (push_of d b) s ≡ more_digits most (push_of d b) (first_line s)
        → more_digits most d (b ∷ s) ≡ more_digits most d (until_lf lf b (first_line s))
    by true e same = rw (eqb-true b 10 e)
    by false e same = rw same

after_first : (fine : Bool) (w : Digits) (s : List ℕ) → amount_after fine w s ≡ amount_after fine w (first_line s)
unfolding first_line
after_first false w s = refl
after_first true w [] = refl
after_first true w (b ∷ s) = by (eqb b 10) refl
  where
    by : (lf : Bool) → eqb b 10 ≡ lf → amount_after true w (b ∷ s) ≡ amount_after true w (until_lf lf b (first_line s))
    by true e = rw (eqb-true b 10 e)
    by false e = rw (digits_first 3 _ s)

digits_short : (most : ℕ) (d : Digits) (s : List ℕ) → (more_digits most d s).count ≤ d.count + length s
digits_short most d [] = omega arith
digits_short most d (b ∷ s) = by (is_digit b && ltb d.count most) (digits_short most (push_of d b) s)
  where
    by : (more : Bool) → (more_digits most (push_of d b) s).count ≤ d.count + 1 + length s
        → (cond more (more_digits most (push_of d b) s) d).count ≤ d.count + suc (length s)
    by true h = omega (arith, h)
    by false h = omega arith

amount_first : (fine : Bool) (s : List ℕ) → amount_of fine s ≡ amount_of fine (first_line s)
amount_first fine s =
    let w = digits_of 7 0 (first_line s) in
    let few : w.count ≤ length (first_line s) = omega (arith, digits_short 7 (digits 0 0) (first_line s)) in
    let rest : amount_after fine w (drop w.count s) ≡ amount_after fine w (drop w.count (first_line s)) =
    after_first fine w (drop w.count s) ∙ ap (amount_after fine w) (sym (first_drop w.count s few)) in
    ap (λ (d : Digits). amount_with fine d s) (digits_first 7 (digits 0 0) s)
    ∙ ap (λ (a : Option Amount). cond (ltb w.count 1) None a) rest

sign_first : (takes : Bool) (s : List ℕ) → sign_of takes (first_byte s) ≡ sign_of takes (first_byte (first_line s))
unfolding first_line
sign_first takes [] = refl
sign_first takes (b ∷ s) = by (eqb b 10) refl takes
  where
    by : (lf : Bool) → eqb b 10 ≡ lf → (takes : Bool) → sign_of takes b ≡ sign_of takes (first_byte (until_lf lf b (first_line s)))
    by true e true = rw (eqb-true b 10 e)
    by true e false = refl
    by false e takes = refl

-- ---- nor is it longer

-- what was read of so many bytes or fewer
abbrev Within : ℕ → Option Amount → Type 0
Within k None = Unit
Within k (Some m) = m.bytes ≤ k

after_short : (fine : Bool) (w : Digits) (s : List ℕ) → Within (w.count + length s) (amount_after fine w s)
after_short false w s = omega arith
after_short true w [] = omega arith
after_short true w (b ∷ s) = by (eqb b 46) (ltb (digits_of 3 w.value s).count 1) (digits_short 3 (digits w.value 0) s)
  where
    by : (point none : Bool) → (digits_of 3 w.value s).count ≤ 0 + length s
        → Within (w.count + suc (length s))
        (cond point (cond none None (amount ((digits_of 3 w.value s).value * 10 ^ (3 - (digits_of 3 w.value s).count))
        (w.count + 1 + (digits_of 3 w.value s).count))) (amount (w.value * 1000) w.count))
    by true true h = tt
    by true false h = omega (arith, h)
    by false none h = omega arith

amount_short : (fine : Bool) (s : List ℕ) → Within (length s) (amount_of fine s)
amount_short fine s = by (ltb w.count 1) (digits_short 7 (digits 0 0) s) (amount_after fine w (drop w.count s)) (after_short fine w
    (drop w.count s))
  where
    w : Digits
    w = digits_of 7 0 s

    by : (none : Bool) → w.count ≤ 0 + length s → (m : Option Amount) → Within (w.count + length (drop w.count s)) m
        → Within (length s) (cond none None m)
    by true few m h = tt
    by false few None h = tt
    by false few (Some m) h = omega (arith, h, few, length-drop w.count s)

pub sign_short : (takes : Bool) (s : List ℕ) → (sign_of takes (first_byte s)).bytes ≤ length s
sign_short false s = omega arith
sign_short true [] = omega arith
sign_short true (b ∷ s) = by (eqb b 45) (eqb b 43)
  where
    by : (minus plus : Bool) → (cond minus (sign true 1) (cond plus (sign false 1) (sign false 0))).bytes ≤ suc (length s)
    by true plus = omega arith
    by false true = omega arith
    by false false = omega arith

pub number_short : (l : Letter) (s : List ℕ) → IfSome (number_of l s) (λ n. n.bytes ≤ length s)
number_short l s =
    by (amount_of (takes_point l) (drop g.bytes s)) (amount_short (takes_point l) (drop g.bytes s))
  where
    g : Sign
    g = sign_of (takes_sign l) (first_byte s)

    by : (m : Option Amount) → Within (length (drop g.bytes s)) m → IfSome (with_sign g m) (λ n. n.bytes ≤ length s)
    by None h = tt
    by (Some m) h = omega (arith, sign_short (takes_sign l) s, h, length-drop g.bytes s)

pub number_first : (l : Letter) (s : List ℕ) → number_of l s ≡ number_of l (first_line s)
number_first l s =
    let g = sign_of (takes_sign l) (first_byte (first_line s)) in
    let from : drop g.bytes (first_line s) ≡ first_line (drop g.bytes s) =
    first_drop g.bytes s (sign_short (takes_sign l) (first_line s)) in
    let rest : amount_of (takes_point l) (drop g.bytes s) ≡ amount_of (takes_point l) (drop g.bytes (first_line s)) =
    amount_first (takes_point l) (drop g.bytes s) ∙ ap (amount_of (takes_point l)) (sym from) in
    ap (λ (x : Sign). number_after (takes_point l) x s) (sign_first (takes_sign l) s) ∙ ap (with_sign g) rest
