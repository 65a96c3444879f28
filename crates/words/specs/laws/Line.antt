-- The scan of a line: the text of right items is read and their words are found; bytes that it accepts are the text of right items.
use Rattle.std.specs.Prelude.{ℕ, zero, suc, ◌≡◌, refl, ◌⊎◌, List, [], ◌∷◌, ◌++◌, Bool, true, false, Option, Some, None, eqb, length, drop}
use Rattle.std.proofs.Common.{ap, ◌∙◌, inl, inr, eqb-true}
use Rattle.std.proofs.Math.Seq.{drop-append_seam}
use Rattle.letters.specs.declared.letter.Letter.{Letter}
use Rattle.letters.specs.declared.letter.Letter.TheVariants.{N, G, F, X, Y, I, J}
use Rattle.letters.specs.declared.word.Words.{Words}
use Rattle.letters.specs.Letter.{letter_byte}
use Rattle.letters.specs.Word.{one_word}
use Rattle.letters.specs.computed.Scan.{letter_of}
use Rattle.letters.specs.laws.Scan.{put_of}
use Rattle.letters.specs.laws.Letter.{letter_of_lem, letter_byte_lem}
use Rattle.words.specs.declared.line.Line.{Line}
use Rattle.words.specs.declared.number.Number.{Number}
use Rattle.words.specs.Grammar.{Item, blank, word, line_text, RightLine, LineOfWords}
use Rattle.words.specs.Meaning.{is_minus, magnitude_of, answer_of, not_words}
use Rattle.words.specs.computed.Scan.{number_of, NextItem, on, next_item, number_next, follow, scan_of}
use Rattle.words.specs.laws.Number.{NumberEnds, number_text, number_read, number_in}
use Rattle.words.specs.laws.Words.{gather}

-- the answer where the bytes s are left
abbrev pub go_on : List ℕ → NextItem → Line
go_on s x = follow x (λ k ws. scan_of k ws s)

pub scan_skip : (k : ℕ) (ws : Words) (s : List ℕ) → scan_of k ws s ≡ scan_of 0 ws (drop k s)
scan_skip zero ws s = refl
scan_skip (suc k) ws [] = refl
scan_skip (suc k) ws (b ∷ s) = scan_skip k ws s

-- ---- right items are read

letter_ends : (l : Letter) (s : List ℕ) → NumberEnds (letter_byte l ∷ s)
letter_ends N s = record { digit = refl; point = refl }
letter_ends G s = record { digit = refl; point = refl }
letter_ends F s = record { digit = refl; point = refl }
letter_ends X s = record { digit = refl; point = refl }
letter_ends Y s = record { digit = refl; point = refl }
letter_ends I s = record { digit = refl; point = refl }
letter_ends J s = record { digit = refl; point = refl }

end_of_lines : (is : List Item) → NumberEnds (line_text is)
end_of_lines [] = record { digit = refl; point = refl }
end_of_lines (blank ∷ is) = record { digit = refl; point = refl }
end_of_lines (word l sg w f ∷ is) = letter_ends l _

no_blank : (l : Letter) → eqb (letter_byte l) 32 ≡ false
no_blank N = refl
no_blank G = refl
no_blank F = refl
no_blank X = refl
no_blank Y = refl
no_blank I = refl
no_blank J = refl

pub items_read : (is : List Item) (ws : Words) → RightLine is → scan_of 0 ws (line_text is) ≡ answer_of true (gather ws is)
items_read [] ws r = refl
items_read (blank ∷ is) ws r = items_read is ws r.1
items_read (word l sg w f ∷ is) ws r =
    let t = number_text sg w f in
    let after = put_of ws l (one_word (is_minus sg) (magnitude_of l w f)) in
    let n = number_read l sg w f (line_text is) r.0 (end_of_lines is) in
    let e : next_item ws (letter_byte l) (t ++ line_text is) ≡ on (length t) after =
    rw (no_blank l, letter_of_lem l) (ap (number_next ws l) n) in
    ap (go_on (t ++ line_text is)) e
    ∙ scan_skip (length t) after (t ++ line_text is)
    ∙ rw (drop-append_seam t (line_text is)) (items_read is after r.1)

-- ---- what is accepted are right items

-- an answer about the bytes s: a line of words, or not
abbrev pub Answered : List ℕ → Line → Type 0
Answered s r = (LineOfWords s × (r.formed ≡ true)) ⊎ (r ≡ not_words)

with_more : {s t : List ℕ} {r : Line} → (LineOfWords s → LineOfWords t) → Answered s r → Answered t r
with_more f (inl a) = inl (f a.0, a.1)
with_more f (inr e) = inr e

empty : LineOfWords []
empty = record { items = []; right = tt; text = refl }

more_blank : (s : List ℕ) → LineOfWords s → LineOfWords (32 ∷ s)
more_blank s r = record { items = blank ∷ r.items; right = (tt, r.right); text = ap (λ (v : List ℕ). 32 ∷ v) r.text }

more_word : (l : Letter) (m : Number) (s : List ℕ) → number_of l s ≡ Some m → LineOfWords (drop m.bytes s)
    → LineOfWords (letter_byte l ∷ s)
more_word l m s h r =
    let n = number_in l m s h in
    record {
      items = word l n.sg n.w n.f ∷ r.items;
      right = (n.right, r.right);
      text = ap (λ (v : List ℕ). letter_byte l ∷ v) (rw r.text n.text);
    }

module _ (ws : Words) (b : ℕ) (s : List ℕ) (known : (k : ℕ) (v : Words) → Answered (drop k s) (scan_of k v s)) where
  word_answered : (l : Letter) (n : Option Number) → number_of l s ≡ n → Answered (letter_byte l ∷ s) (go_on s (number_next ws l n))
  word_answered l None e = inr refl
  word_answered l (Some n) e = with_more (more_word l n s e) (known _ _)

  named_answered : (n : Option Letter) → letter_of b ≡ n → eqb b 32 ≡ false → Answered (b ∷ s) (go_on s (next_item ws b s))
  named_answered None e g = inr (rw (g, e))
  named_answered (Some l) e g = rw (g, e) (rw (letter_byte_lem b l e) (word_answered l (number_of l s) refl))

  next_answered : (x : Bool) → eqb b 32 ≡ x → Answered (b ∷ s) (go_on s (next_item ws b s))
  next_answered true e = rw e (rw (eqb-true b 32 e) (with_more (more_blank s) (known 0 ws)))
  next_answered false e = named_answered (letter_of b) refl e

pub answered : (k : ℕ) (ws : Words) (s : List ℕ) → Answered (drop k s) (scan_of k ws s)
answered zero ws [] = inl (empty, refl)
answered (suc k) ws [] = inl (empty, refl)
answered zero ws (b ∷ s) = next_answered ws b s (λ k v. answered k v s) (eqb b 32) refl
answered (suc k) ws (b ∷ s) = answered k ws s
