-- The test of equality on words.
use Rattle.std.specs.Prelude.{◌≡◌, refl, true, List, [], ◌∷◌, T, ℤ}
use Rattle.std.proofs.Common.{sym, ap, subst, ◌∙◌}
use Rattle.whole.specs.laws.Test.{both, joined, equal_true, equal_same}
use Rattle.encoding.specs.computed.Words.{same_words}

pub same_true : (a b : List ℤ) → same_words a b ≡ true → a ≡ b
unfolding same_words
same_true [] [] e = refl
same_true [] (w ∷ ws) e = absurd (subst T (sym e) tt)
same_true (v ∷ vs) [] e = absurd (subst T (sym e) tt)
same_true (v ∷ vs) (w ∷ ws) e =
    let t = both e in
    ap (λ (x : ℤ). x ∷ vs) (equal_true v w t.0) ∙ ap (λ (xs : List ℤ). w ∷ xs) (same_true vs ws t.1)

pub same_self : (a : List ℤ) → same_words a a ≡ true
unfolding same_words
same_self [] = refl
same_self (v ∷ vs) = joined (equal_same v) (same_self vs)

pub same_words_lem : {a b : List ℤ} → a ≡ b → true ≡ same_words a b
same_words_lem {a} {b} e = rw e (sym (same_self b))
