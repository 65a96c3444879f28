-- The scan's answer is the one that `Meaning` asks for, there is no other, and so bytes are a line of words or none.
use Rattle.std.specs.Prelude.{ℕ, ◌≡◌, refl, List, Bool, true, false}
use Rattle.std.proofs.Common.{sym, ap, ◌∙◌, inl, inr, true≢false}
use Rattle.std.proofs.lemmas.Bool.{false≢true}
use Rattle.words.specs.declared.line.Line.{Line}
use Rattle.words.specs.Grammar.{Item, line_text, RightLine, LineOfWords}
use Rattle.words.specs.Meaning.{answer_of, said_by, not_words, Means}
use Rattle.letters.specs.computed.Scan.{no_words}
use Rattle.words.specs.computed.Scan.{scan_line}
use Rattle.words.specs.laws.Words.{gathered}
use Rattle.words.specs.laws.Line.{items_read, Answered, answered}

-- ---- the answer is right

items_said : (is : List Item) → RightLine is → scan_line (line_text is) ≡ said_by is
unfolding scan_line
items_said is r = items_read is no_words r ∙ ap (answer_of true) (gathered is)

is_formed : {s : List ℕ} {r : Line} → Answered s r → r.formed ≡ true → LineOfWords s
is_formed (inl a) h = a.0
is_formed (inr e) h = absurd (false≢true (rw e at h))

is_refused_lem : {s : List ℕ} {r : Line} → Answered s r → r.formed ≡ false → r ≡ not_words
is_refused_lem (inl a) h = absurd (true≢false (sym a.1 ∙ h))
is_refused_lem (inr e) h = e

pub line_means : (s : List ℕ) → Means s (scan_line s)
unfolding scan_line
line_means s =
    let a = answered 0 no_words s in
    record {
      formed = is_formed a;
      said = λ w. rw (← w.text) (items_said w.items w.right);
      refused = is_refused_lem a;
    }

-- ---- and there is no other

means_one : (s : List ℕ) (q r : Line) → Means s q → Means s r → (a b : Bool) → q.formed ≡ a → r.formed ≡ b → q ≡ r
means_one s q r m n true b e g = let w = m.formed e in m.said w ∙ sym (n.said w)
means_one s q r m n false true e g = let w = n.formed g in m.said w ∙ sym (n.said w)
means_one s q r m n false false e g = m.refused e ∙ sym (n.refused g)

-- so what a line means does not depend on the items that it is cut into
pub means_unique : (s : List ℕ) (q r : Line) → Means s q → Means s r → q ≡ r
means_unique s q r m n = means_one s q r m n q.formed r.formed refl refl

-- ---- so bytes are a line of words, or they are none

formed_said : {s : List ℕ} → (scan_line s).formed ≡ false → LineOfWords s → ⊥
formed_said {s} e line = true≢false (sym (ap (λ (l : Line). l.formed) ((line_means s).said line)) ∙ e)

pub line_or_not : (s : List ℕ) → Dec (LineOfWords s)
line_or_not s = by (scan_line s).formed refl
  where
    by : (formed : Bool) → (scan_line s).formed ≡ formed → Dec (LineOfWords s)
    by true e = yes ((line_means s).formed e)
    by false e = no (formed_said e)
