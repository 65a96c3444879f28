-- `meaning_of` is the answer that `Means` allows, the scan gives it, and how large its numbers are.
use Rattle.std.specs.Prelude.{ℕ, ◌*◌, ◌^◌, ◌<◌, ◌≡◌, refl, List, [], ◌∷◌, Bool, true, false, Some, cond, length}
use Rattle.std.proofs.Common.{sym, ap, ◌∙◌, true≢false, arith, eqb-true}
use Rattle.std.proofs.lemmas.Bool.{false≢true}
use Rattle.letters.specs.declared.letter.Letter.{Letter}
use Rattle.letters.specs.Letter.{letter_byte, takes_point, unit_of, same}
use Rattle.letters.specs.Word.{missing_word, word_at}
use Rattle.letters.specs.computed.Scan.{letter_of}
use Rattle.letters.specs.laws.Letter.{letter_of_lem}
use Rattle.letters.specs.laws.Put.{at_by}
use Rattle.words.specs.declared.line.Line.{Line}
use Rattle.words.specs.Grammar.{Item, blank, word, RightLine, LineOfWords}
use Rattle.words.specs.Meaning.{magnitude_of, is_minus, Value, missing, one, twice, with_rest, says, word_saying, not_words, Means}
use Rattle.words.specs.computed.Scan.{scan_line, first_line}
use Rattle.words.specs.computed.Meaning.{meaning_by, meaning_of}
use Rattle.words.specs.laws.Digits.{magnitude_below}
use Rattle.words.specs.laws.Reading.{line_means, means_unique, line_or_not}
use Rattle.words.specs.laws.Scanning.{line_broken}

-- ---- it is the answer, and the scan's

pub meaning_means : (s : List ℕ) → Means s (meaning_of s)
unfolding meaning_of
meaning_means s = by (line_or_not s)
  where
    by : (d : Dec (LineOfWords s)) → Means s (meaning_by d)
    by (yes line) =
        record {
          formed = λ _. line;
          said = λ w. sym ((line_means s).said line) ∙ (line_means s).said w;
          refused = λ e. absurd (true≢false e);
        }
    by (no none) = record { formed = λ e. absurd (false≢true e); said = λ w. absurd (none w); refused = λ _. refl }

pub scan_means : (s : List ℕ) → scan_line s ≡ meaning_of s
scan_means s = means_unique s (scan_line s) (meaning_of s) (line_means s) (meaning_means s)

-- ---- how large the numbers are

same_letter : (k l : Letter) → same k l ≡ true → k ≡ l
same_letter k l h =
    let e : Some k ≡ Some l = sym (letter_of_lem k) ∙ ap letter_of (eqb-true (letter_byte k) (letter_byte l) h) ∙ letter_of_lem l in
    cc

abbrev Below : ℕ → Value → Type 0
Below b missing = Unit
Below b (one n m) = m < b
Below b twice = Unit

then_below : (b : ℕ) (n : Bool) (m : ℕ) (v : Value) → m < b → Below b (with_rest n m v)
then_below b n m missing h = h
then_below b n m (one k j) h = tt
then_below b n m twice h = tt

word_below : (found : Bool) (b : ℕ) (n : Bool) (m : ℕ) (v : Value) → (found ≡ true → m < b) → Below b v
    → Below b (cond found (with_rest n m v) v)
word_below true b n m v h g = then_below b n m v (h refl)
word_below false b n m v h g = g

says_below : (l : Letter) (is : List Item) → RightLine is → Below (10 ^ 7 * unit_of l) (says l is)
says_below l [] r = tt
says_below l (blank ∷ is) r = says_below l is r.1
says_below l (word k s w f ∷ is) r =
    let o = r.0 in
    word_below (same l k) (10 ^ 7 * unit_of l) (is_minus s) (magnitude_of k w f) (says l is)
    (λ e. rw (same_letter l k e) (magnitude_below k w f o.digits o.most o.decimals o.places o.point))
    (says_below l is r.1)

some_unit : (takes : Bool) → 0 < 10 ^ 7 * cond takes 1000 1
some_unit true = omega arith
some_unit false = omega arith

value_below : (l : Letter) (v : Value) → Below (10 ^ 7 * unit_of l) v → (word_saying v).magnitude < 10 ^ 7 * unit_of l
value_below l missing h = some_unit (takes_point l)
value_below l (one n m) h = h
value_below l twice h = some_unit (takes_point l)

means_below : (s : List ℕ) (r : Line) → Means s r → (formed : Bool) → r.formed ≡ formed → (l : Letter)
    → (word_at r.words l).magnitude < 10 ^ 7 * unit_of l
means_below s r m true e l =
    let w = m.formed e in
    rw (m.said w, at_by (λ k. word_saying (says k w.items)) l) (value_below l (says l w.items) (says_below l w.items w.right))
means_below s r m false e l = rw (m.refused e, at_by (λ k. missing_word) l) (some_unit (takes_point l))

-- thousandths are below 10 ^ 10, and the number of a letter without a point below 10 ^ 7
pub meaning_below : (s : List ℕ) (l : Letter) → (word_at (meaning_of s).words l).magnitude < 10 ^ 7 * unit_of l
meaning_below s l = means_below s (meaning_of s) (meaning_means s) (meaning_of s).formed refl l

-- ---- bytes with an LF among them are no line of words

pub meaning_broken : (s : List ℕ) → length (first_line s) < length s → not_words ≡ meaning_of s
meaning_broken s more = line_broken s more ∙ scan_means s
