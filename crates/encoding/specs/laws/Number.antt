-- Counts and words: what the code's tests give.
use Rattle.std.specs.Prelude.{◌≡◌, refl, Bool, true, false, cond, ℕ, zero, suc, ◌^◌, ◌≤◌, ◌<◌, ltb, nat_abs, ℤ, pos, negsuc, neg_ℤ, ◌-ℤ◌}
use Rattle.std.proofs.Common.{Result, Ok, Err, sym, ◌∙◌, FitsSigned, arith, lt-ltb, le-ltb, ltb-true, SFits, to_z, of_z, to_z-of_z}
use Rattle.whole.specs.laws.Order.{◌≼◌, ◌≺◌}
use Rattle.whole.specs.laws.Difference.{ring, var, num, neg, ◌⊖◌}
use Rattle.std.specs.Int.{w64}
use Rattle.std.proofs.Math.Facts.{sfits_lit}
use Rattle.std.proofs.Math.Nat.{lt_of_not-le}
use Rattle.std.specs.Result.{OkIff, result_unwrap_or}
use Rattle.circle.specs.declared.plane.Turn.{Turn}
use Rattle.circle.specs.computed.Kind.{kind_of}
use Rattle.encoding.specs.Words.{count_of, word_of, refusal_of, mark_word, turn_word}

pub count_none : (z : ℤ) → z ≺ pos 0 → 0 ≡ count_of z
count_none (pos n) h = absurd (omega arith)
count_none (negsuc n) h = refl

pub count_some : (z : ℤ) → pos 0 ≼ z → nat_abs z ≡ count_of z
count_some (pos n) h = refl
count_some (negsuc n) h = absurd (omega arith)

pub word_small : {n : ℕ} → n < 2 ^ 63 → word_of n ≡ pos n
unfolding word_of
word_small {n} h = rw (lt-ltb n (2 ^ 63) h)

pub word_large : {n : ℕ} → 2 ^ 63 ≤ n → word_of n ≡ negsuc 0
unfolding word_of
word_large {n} h = rw (le-ltb n (2 ^ 63) h)

-- the count itself where an i64 holds it, else -1
pub word_or_less : (n : ℕ) {E : Type 0} (tried : Result ℤ E) {word : ℤ} → OkIff tried (FitsSigned w64 (pos n)) (pos n)
    → word ≡ result_unwrap_or tried (negsuc 0) → word ≡ word_of n
word_or_less n (Ok z) iff e = e ∙ iff.1 ∙ sym (word_small iff.0.sfits)
word_or_less n (Err x) iff e = let h : 2 ^ 63 < suc n = lt_of_not-le (λ h. iff (record { sfits = h }))
    in e ∙ sym (word_large (omega (arith, h)))

-- a way round is told by its kind
pub turn_told : (turn : Turn) → word_of (kind_of turn) ≡ turn_word turn
unfolding word_of
turn_told Turn.Clockwise = refl
turn_told Turn.Counterclockwise = refl

-- ---- every word of a record is one of 64 bits

pub word_fits : (n : ℕ) → SFits w64 (word_of n)
unfolding word_of
word_fits n = by (ltb n (2 ^ 63)) refl
  where
    by : (small : Bool) → ltb n (2 ^ 63) ≡ small → SFits w64 (cond small (pos n) (negsuc 0))
    by true e = record { sfits = ltb-true n (2 ^ 63) e }
    by false e = sfits_lit tt

-- no word is so small that minus it is none
pub refusal_fits : (n : ℕ) → SFits w64 (refusal_of n)
unfolding word_of refusal_of
refusal_fits n = by (ltb n (2 ^ 63)) refl
  where
    least : (n : ℕ) → n < 2 ^ 63 → SFits w64 (neg_ℤ (pos n))
    least zero h = sfits_lit tt
    least (suc n) h = record { sfits = omega arith }

    by : (small : Bool) → ltb n (2 ^ 63) ≡ small → SFits w64 (neg_ℤ (cond small (pos n) (negsuc 0)))
    by true e = least n (ltb-true n (2 ^ 63) e)
    by false e = sfits_lit tt

-- minus a number is 0 less the number
pub minus : (z : ℤ) → pos 0 -ℤ z ≡ neg_ℤ z
minus z = ring (num 0 ⊖ var z) (neg (var z)) (omega arith)

pub turn_fits : (t : Turn) → SFits w64 (turn_word t)
turn_fits Turn.Clockwise = sfits_lit tt
turn_fits Turn.Counterclockwise = sfits_lit tt

pub mark_fits : (held : Bool) → SFits w64 (mark_word held)
mark_fits true = sfits_lit tt
mark_fits false = sfits_lit tt

-- a number that the code reads back from its bits
pub through : {x z : ℤ} → SFits w64 z → x ≡ z → to_z w64 (of_z w64 x) ≡ z
through f e = rw e (to_z-of_z f)
