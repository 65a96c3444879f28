-- One word more among those that were found is what `put_of` says of it.
use Rattle.std.specs.Prelude.{ℕ, ◌/◌, ◌%◌, ◌^◌, ◌<◌, ◌≡◌, refl, List, Bool, true, false, cond, not, ◌||◌, ◌&&◌, eqb, get_or, set, replicate}
use Rattle.std.proofs.Common.{sym, ap, ◌∙◌, arith, length-set, get_or-set_same, get_or-set_other, eqb-true}
use Rattle.std.proofs.lemmas.Bool.{false≢true, eqb-false}
use Rattle.std.specs.Int.Bits.{bit_or, or_zero_r}
use Rattle.letters.specs.declared.letter.Letter.{Letter}
use Rattle.letters.specs.declared.letter.Letter.TheVariants.{N, G, F, X, Y, I, J}
use Rattle.letters.specs.declared.word.Word.{Word}
use Rattle.letters.specs.declared.found.Found.{Found}
use Rattle.letters.specs.Letter.{same}
use Rattle.letters.specs.Word.{one_word, word_at, words_by, once_of}
use Rattle.letters.specs.laws.Scan.{more_of, put_of}
use Rattle.letters.specs.computed.Found.{index_of, has_of, nothing_found, add_of, magnitude_after, word_in, words_in}
use Rattle.letters.specs.laws.Sets.{index_below, index_same, has_put, has_taken, put_small, taken_small, set_empty}
use Rattle.letters.specs.computed.Put.{Gathered}

-- ---- words by their letters

pub at_by : (w : Letter → Word) (l : Letter) → word_at (words_by w) l ≡ w l
at_by w N = refl
at_by w G = refl
at_by w F = refl
at_by w X = refl
at_by w Y = refl
at_by w I = refl
at_by w J = refl

pub words_same : (v w : Letter → Word) → ((l : Letter) → v l ≡ w l) → words_by v ≡ words_by w
words_same v w h = rw (h N, h G, h F, h X, h Y, h I, h J)

-- ---- what the words found keep

pub gathered_none : Gathered nothing_found (replicate 7 0)
gathered_none =
    record {
      stands = omega arith;
      twice = omega arith;
      negative = omega arith;
      places = refl;
      not_twice = λ l e. e;
      not_negative = λ l e. e;
    }

-- ---- one word more, letter by letter

module _ {f : Found} {ms : List ℕ} (r : Gathered f ms) (l : Letter) (n : Bool) (m : ℕ) where
  abbrev more : Found
  more = add_of f l n

  abbrev magnitudes : List ℕ
  magnitudes = set ms (index_of l) (magnitude_after f l m)

  module _ (k : Letter) where
    abbrev After : (is : Bool) → Type 0
    After is = word_in more magnitudes k ≡ cond is (more_of (word_in f ms k) (one_word n m)) (word_in f ms k)

    module _ (is : same k l ≡ true) where
      place : index_of k ≡ index_of l
      place = eqb-true (index_of k) (index_of l) (index_same k l ∙ is)

      has : (set : ℕ) → has_of set k ≡ has_of set l
      has set = ap (λ (i : ℕ). eqb (set / 2 ^ i % 2) 1) place

      magnitude : get_or magnitudes (index_of k) 0 ≡ magnitude_after f l m
      magnitude = rw place (get_or-set_same ms (index_of l) (magnitude_after f l m) 0 (omega (arith, index_below l, r.places)))

      minus : (b : Bool) → has_of f.stands l ≡ false → has_of (bit_or f.negative (cond b (2 ^ index_of l) 0)) k ≡ b
      minus true e = rw (has_put f.negative r.negative l k, is)
      minus false e = rw or_zero_r (has f.negative ∙ r.not_negative l e)

      here : (b : Bool) → has_of f.stands l ≡ b → After true
      here true e =
          rw (magnitude, e, has f.stands, has_put f.twice r.twice l k, has_taken f.negative r.negative l k, is, e)
      here false e =
          rw (magnitude, e, has_put f.stands r.stands l k, is, minus n e, has f.stands, e, has f.twice, r.not_twice l e)

    module _ (is : same k l ≡ false) where
      magnitude_stays : get_or magnitudes (index_of k) 0 ≡ get_or ms (index_of k) 0
      magnitude_stays =
          get_or-set_other ms (index_of l) (index_of k) (magnitude_after f l m) 0
          (eqb-false (index_of k) (index_of l) (index_same k l ∙ is))

      sign_stays : (b : Bool) → has_of (bit_or f.negative (cond b (2 ^ index_of l) 0)) k ≡ has_of f.negative k
      sign_stays true = rw (has_put f.negative r.negative l k, is)
      sign_stays false = rw or_zero_r

      elsewhere : (b : Bool) → has_of f.stands l ≡ b → After false
      elsewhere true e = rw (magnitude_stays, e, has_put f.twice r.twice l k, has_taken f.negative r.negative l k, is)
      elsewhere false e = rw (magnitude_stays, e, has_put f.stands r.stands l k, is, sign_stays n)

    after : (is : Bool) → same k l ≡ is → After is
    after true e = here e (has_of f.stands l) refl
    after false e = elsewhere e (has_of f.stands l) refl

  pub words_more : words_in more magnitudes ≡ put_of (words_in f ms) l (one_word n m)
  words_more =
      words_same (word_in more magnitudes)
      (λ k. cond (same k l) (more_of (word_at (words_in f ms) k) (one_word n m)) (word_at (words_in f ms) k))
      (λ k. rw (at_by (word_in f ms) k) (after k (same k l) refl))

  -- ---- what is kept

  -- where the letter stood
  module _ (stood : has_of f.stands l ≡ true) (k : Letter) (h : has_of f.stands k ≡ false) where
    twice_kept : (is : Bool) → same k l ≡ is → (is || has_of f.twice k) ≡ false
    twice_kept true e = absurd (false≢true (sym h ∙ has k e f.stands ∙ stood))
    twice_kept false e = r.not_twice k h

    negative_kept : (is : Bool) → (not is && has_of f.negative k) ≡ false
    negative_kept true = refl
    negative_kept false = r.not_negative k h

  -- where it did not
  module _ (k : Letter) (h : (same k l || has_of f.stands k) ≡ false) where
    apart : (is b : Bool) → (is || b) ≡ false → (is ≡ false) × (b ≡ false)
    apart true b e = absurd (false≢true (sym e))
    apart false b e = (refl, e)

    absent : (same k l ≡ false) × (has_of f.stands k ≡ false)
    absent = apart (same k l) (has_of f.stands k) h

  sign_small : (b : Bool) → bit_or f.negative (cond b (2 ^ index_of l) 0) < 128
  sign_small true = put_small f.negative r.negative l
  sign_small false = rw or_zero_r r.negative

  pub gathered_more : Gathered more magnitudes
  gathered_more = by (has_of f.stands l) refl
    where
      by : (b : Bool) → has_of f.stands l ≡ b → Gathered more magnitudes
      by true e =
          rw e
          (record {
            stands = r.stands;
            twice = put_small f.twice r.twice l;
            negative = taken_small f.negative r.negative l;
            places = length-set ms (index_of l) 0 ∙ r.places;
            not_twice = λ k h. has_put f.twice r.twice l k ∙ twice_kept e k h (same k l) refl;
            not_negative = λ k h. has_taken f.negative r.negative l k ∙ negative_kept e k h (same k l);
          })
      by false e =
          rw e
          (record {
            stands = put_small f.stands r.stands l;
            twice = r.twice;
            negative = sign_small n;
            places = length-set ms (index_of l) m ∙ r.places;
            not_twice = λ k h. r.not_twice k (absent k (sym (has_put f.stands r.stands l k) ∙ h)).1;
            not_negative = λ k h.
                let a = absent k (sym (has_put f.stands r.stands l k) ∙ h) in
                sign_stays k a.0 n ∙ r.not_negative k a.1;
          })

-- question 33, by the set
pub once_found : {f : Found} {ms : List ℕ} → Gathered f ms → eqb f.twice 0 ≡ once_of (words_in f ms)
once_found {f} {ms} r = set_empty f.twice r.twice
