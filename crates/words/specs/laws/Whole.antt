-- A line whose F words have no point: its F is in whole thousands.
use Rattle.std.specs.Prelude.{◌≡◌, refl, List, [], ◌∷◌, Bool, true, false, ℕ, ◌%◌}
use Rattle.std.proofs.Common.{arith}
use Rattle.letters.specs.declared.letter.Letter.TheVariants.{N, G, F, X, Y, I, J}
use Rattle.words.specs.Grammar.{Item, blank, word}
use Rattle.words.specs.Meaning.{Value, missing, one, twice, with_rest, is_minus, magnitude_of, says, word_saying}
use Rattle.words.specs.Whole.{WholeFeeds, NoPoint}
use Rattle.words.specs.computed.Meaning.{meaning_of}
use Rattle.words.specs.laws.Meaning.{meaning_means}

abbrev Thousands : Value → Type 0
Thousands missing = Unit {0}
Thousands (one n m) = m % 1000 ≡ 0
Thousands twice = Unit {0}

in_front_lem : (n : Bool) (m : ℕ) (v : Value) → m % 1000 ≡ 0 → Thousands (with_rest n m v)
in_front_lem n m missing h = h
in_front_lem n m (one a b) h = tt
in_front_lem n m twice h = tt

whole_feed : (w f : List ℕ) → f ≡ [] → magnitude_of F w f % 1000 ≡ 0
whole_feed w f e = rw e (omega arith)

says_thousands : (is : List Item) → WholeFeeds is → Thousands (says F is)
says_thousands [] h = tt
says_thousands (blank ∷ is) h = says_thousands is h.1
says_thousands (word N s w f ∷ is) h = says_thousands is h.1
says_thousands (word G s w f ∷ is) h = says_thousands is h.1
says_thousands (word F s w f ∷ is) h = in_front_lem (is_minus s) (magnitude_of F w f) (says F is) (whole_feed w f (h.0 refl))
says_thousands (word X s w f ∷ is) h = says_thousands is h.1
says_thousands (word Y s w f ∷ is) h = says_thousands is h.1
says_thousands (word I s w f ∷ is) h = says_thousands is h.1
says_thousands (word J s w f ∷ is) h = says_thousands is h.1

value_thousands : (v : Value) → Thousands v → (word_saying v).magnitude % 1000 ≡ 0
value_thousands missing h = refl
value_thousands (one n m) h = h
value_thousands twice h = refl

pub line_thousands : (bytes : List ℕ) → NoPoint bytes → (meaning_of bytes).words.f.magnitude % 1000 ≡ 0
line_thousands bytes whole = by (meaning_of bytes).formed refl
  where
    by : (formed : Bool) → (meaning_of bytes).formed ≡ formed → (meaning_of bytes).words.f.magnitude % 1000 ≡ 0
    by true e =
        let line = (meaning_means bytes).formed e in
        rw ((meaning_means bytes).said line) (value_thousands (says F line.items) (says_thousands line.items (whole line)))
    by false e = rw ((meaning_means bytes).refused e) refl
