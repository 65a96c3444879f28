-- How far the loop of `line::read_first` has come: in the text it is where the scan of the text's first line is.
use Rattle.std.specs.Prelude.{ℕ, zero, suc, ◌+◌, ◌≤◌, ◌<◌, ◌≡◌, refl, List, [], ◌∷◌, Bool, true, false, cond, eqb, length, drop, get_or}
use Rattle.std.specs.Prelude.{Option, Some, None, IfSome}
use Rattle.std.proofs.Common.{sym, ap, ◌∙◌, arith, length-drop, get_or-drop, eqb-true}
use Rattle.letters.specs.declared.letter.Letter.{Letter}
use Rattle.letters.specs.declared.word.Words.{Words}
use Rattle.letters.specs.declared.found.Found.{Found}
use Rattle.letters.specs.computed.Scan.{letter_of, no_words}
use Rattle.letters.specs.laws.Scan.{put_of}
use Rattle.letters.specs.computed.Found.{words_in}
use Rattle.letters.specs.computed.Put.{Gathered}
use Rattle.letters.specs.Word.{one_word}
use Rattle.words.specs.declared.number.Number.{Number}
use Rattle.words.specs.Meaning.{answer_of, not_words}
use Rattle.words.specs.computed.Scan.{number_of, on, number_next, letter_next, next_item, scan_of, scan_line, until_lf, first_line}
use Rattle.words.specs.laws.Line.{go_on}
use Rattle.words.specs.laws.Run.{Scanned, scanned_end, scanned_blank, scanned_other, scanned_wrong, scanned_word}
use Rattle.words.specs.laws.FirstLine.{first_drop, first_more, end_later, number_first, number_short}

-- the words found so far, and what the scan finds from the byte i of the line on, are its answer
pub record Scanning (s : List ℕ) (f : Found) (ms : List ℕ) (i : ℕ) : Type 0 where
  pub gathered : Gathered f ms
  pub scanned : Scanned (first_line s) (words_in f ms) i

-- the line's end, from a place in it on
pub line_left : (s : List ℕ) (i : ℕ) → i ≤ length (first_line s) → i + length (first_line (drop i s)) ≡ length (first_line s)
line_left s i h =
    let same : length (drop i (first_line s)) ≡ length (first_line (drop i s)) = ap (λ (l : List ℕ). length l) (first_drop i s h) in
    omega (arith, same, length-drop i (first_line s))

module _ (s : List ℕ) {ws : Words} {i : ℕ} (r : Scanned (first_line s) ws i) where
  -- at an LF, or at the text's end
  pub line_over : length (first_line (drop i s)) ≡ 0 → (answer_of true ws ≡ scan_line (first_line s)) × (i ≡ length (first_line s))
  line_over e =
      let whole : i ≡ length (first_line s) = omega (arith, e, line_left s i r.within) in
      (scanned_end r (omega (arith, whole)), whole)

  -- at a byte of the line
  module _ (h : i < length s) (on : get_or s i 0 ≡ 10 → ⊥) where
    pub inside : i < length (first_line s)
    inside = omega (arith, end_later s i h on, line_left s i r.within)

    byte : get_or (first_line s) i 0 ≡ get_or s i 0
    byte =
        let here : i + 0 ≡ i = omega arith in
        sym (rw here at (get_or-drop i (first_line s) 0 0))
        ∙ ap (λ (l : List ℕ). get_or l 0 0) (first_drop i s r.within ∙ first_more s i h on)

    pub line_blank : get_or s i 0 ≡ 32 → Scanned (first_line s) ws (i + 1)
    line_blank e = scanned_blank r inside (byte ∙ e)

    module _ (g : get_or s i 0 ≡ 32 → ⊥) where
      letter : get_or (first_line s) i 0 ≡ 32 → ⊥
      letter e = g (sym byte ∙ e)

      pub line_other : letter_of (get_or s i 0) ≡ None → not_words ≡ scan_line (first_line s)
      line_other e = scanned_other r inside letter (ap letter_of byte ∙ e)

      module _ (l : Letter) (e : letter_of (get_or s i 0) ≡ Some l) where
        number : number_of l (drop (i + 1) (first_line s)) ≡ number_of l (drop (i + 1) s)
        number = ap (number_of l) (first_drop (i + 1) s (omega (arith, inside))) ∙ sym (number_first l (drop (i + 1) s))

        pub line_wrong : number_of l (drop (i + 1) s) ≡ None → not_words ≡ scan_line (first_line s)
        line_wrong q = scanned_wrong r inside letter l (ap letter_of byte ∙ e) (number ∙ q)

        module _ (n : Number) (q : number_of l (drop (i + 1) s) ≡ Some n) where
          within : i + 1 + n.bytes ≤ length (first_line s)
          within =
              let few : n.bytes ≤ length (drop (i + 1) (first_line s)) = rw (number
              ∙ q) at (number_short l (drop (i + 1) (first_line s))) in
              omega (arith, few, inside, length-drop (i + 1) (first_line s))

          pub line_word : Scanned (first_line s) (put_of ws l (one_word n.negative n.magnitude)) (i + 1 + n.bytes)
          line_word = scanned_word r inside letter l (ap letter_of byte ∙ e) n (number ∙ q) within

-- ---- a line alone

pub first_whole : (s : List ℕ) → length s ≤ length (first_line s) → first_line s ≡ s
unfolding first_line
first_whole [] h = refl
first_whole (b ∷ s) h = by (eqb b 10) h (first_whole s)
  where
    by : (lf : Bool) → suc (length s) ≤ length (until_lf lf b (first_line s)) → (length s ≤ length (first_line s) → first_line s ≡ s)
        → until_lf lf b (first_line s) ≡ b ∷ s
    by true less same = absurd (omega arith)
    by false less same = ap (λ (l : List ℕ). b ∷ l) (same (omega arith))

module _ (ws : Words) (b : ℕ) (s : List ℕ) (further : (k : ℕ) (v : Words) → k ≤ length (first_line s) → scan_of k v s ≡ not_words) where
  word_broken : (l : Letter) (n : Option Number) → IfSome n (λ m. m.bytes ≤ length (first_line s))
      → go_on s (number_next ws l n) ≡ not_words
  word_broken l None few = refl
  word_broken l (Some n) few = further _ _ few

  named_broken : (n : Option Letter) → go_on s (letter_next ws n s) ≡ not_words
  named_broken None = refl
  named_broken (Some l) = word_broken l (number_of l s) (rw (number_first l s) (number_short l (first_line s)))

  blank_broken : (x : Bool) → go_on s (cond x (on 0 ws) (letter_next ws (letter_of b) s)) ≡ not_words
  blank_broken true = further 0 ws (omega arith)
  blank_broken false = named_broken (letter_of b)

  next_broken : go_on s (next_item ws b s) ≡ not_words
  next_broken = blank_broken (eqb b 32)

-- a scan that comes to an LF: no word begins with it, and none goes on over it
broken : (k : ℕ) (ws : Words) (s : List ℕ) → k ≤ length (first_line s) → length (first_line s) < length s → scan_of k ws s ≡ not_words
unfolding first_line
broken k ws [] few more = absurd (omega arith)
broken zero ws (b ∷ s) few more = by (eqb b 10) refl more (λ k v. broken k v s)
  where
    by : (lf : Bool) → eqb b 10 ≡ lf → length (until_lf lf b (first_line s)) < suc (length s)
        → ((k : ℕ) (v : Words) → k ≤ length (first_line s) → length (first_line s) < length s → scan_of k v s ≡ not_words)
        → go_on s (next_item ws b s) ≡ not_words
    by true e less further = rw (eqb-true b 10 e)
    by false e less further = next_broken ws b s (λ k v few. further k v few (omega arith))
broken (suc k) ws (b ∷ s) few more = by (eqb b 10) few more (broken k ws s)
  where
    by : (lf : Bool) → suc k ≤ length (until_lf lf b (first_line s)) → length (until_lf lf b (first_line s)) < suc (length s)
        → (k ≤ length (first_line s) → length (first_line s) < length s → scan_of k ws s ≡ not_words) → scan_of k ws s ≡ not_words
    by true few less further = absurd (omega arith)
    by false few less further = further (omega arith) (omega arith)

pub line_broken : (s : List ℕ) → length (first_line s) < length s → not_words ≡ scan_line s
unfolding scan_line
line_broken s more = sym (broken 0 no_words s (omega arith) more)
