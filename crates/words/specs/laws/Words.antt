-- What is found of a letter is what the items say of it.
use Rattle.std.specs.Prelude.{ℕ, ◌≡◌, refl, List, [], ◌∷◌, Bool, true, false, cond}
use Rattle.std.proofs.Common.{ap, ◌∙◌}
use Rattle.letters.specs.declared.letter.Letter.{Letter}
use Rattle.letters.specs.declared.word.Word.{Word}
use Rattle.letters.specs.declared.word.Words.{Words}
use Rattle.words.specs.Grammar.{Item, blank, word}
use Rattle.letters.specs.Letter.{same}
use Rattle.letters.specs.Word.{missing_word, one_word, twice_word, word_at, words_by}
use Rattle.words.specs.Meaning.{is_minus, magnitude_of, Value, missing, one, twice, with_rest, says, word_saying}
use Rattle.letters.specs.computed.Scan.{no_words}
use Rattle.letters.specs.laws.Scan.{more_of, put_of}
use Rattle.letters.specs.laws.Put.{at_by, words_same}

-- ---- one word after another

-- the words found after the items, from the left
abbrev pub gather : Words → List Item → Words
gather ws [] = ws
gather ws (blank ∷ is) = gather ws is
gather ws (word l s w f ∷ is) = gather (put_of ws l (one_word (is_minus s) (magnitude_of l w f))) is

-- what a letter says that said w before, after items that say v of it
abbrev join : Word → Value → Word
join w missing = w
join w (one n m) = more_of w (one_word n m)
join w twice = twice_word

join_more : (stands n k : Bool) (m j : ℕ) → cond (cond stands twice_word (one_word n m)).stands twice_word (one_word k j) ≡ twice_word
join_more true n k m j = refl
join_more false n k m j = refl

join_then : (w : Word) (n : Bool) (m : ℕ) (v : Value) → join (more_of w (one_word n m)) v ≡ join w (with_rest n m v)
join_then w n m missing = refl
join_then w n m (one k j) = join_more w.stands n k m j
join_then w n m twice = refl

join_put : (found : Bool) (w : Word) (n : Bool) (m : ℕ) (v : Value)
    → join (cond found (more_of w (one_word n m)) w) v ≡ join w (cond found (with_rest n m v) v)
join_put true w n m v = join_then w n m v
join_put false w n m v = refl

gather_says : (is : List Item) (ws : Words) (l : Letter) → word_at (gather ws is) l ≡ join (word_at ws l) (says l is)
gather_says [] ws l = refl
gather_says (blank ∷ is) ws l = gather_says is ws l
gather_says (word k s w f ∷ is) ws l =
    gather_says is (put_of ws k (one_word (is_minus s) (magnitude_of k w f))) l
    ∙ ap (λ (x : Word). join x (says l is)) (at_by
    (λ i. cond (same i k) (more_of (word_at ws i) (one_word (is_minus s) (magnitude_of k w f))) (word_at ws i)) l)
    ∙ join_put (same l k) (word_at ws l) (is_minus s) (magnitude_of k w f) (says l is)

join_missing : (v : Value) → join missing_word v ≡ word_saying v
join_missing missing = refl
join_missing (one n m) = refl
join_missing twice = refl

pub gathered : (is : List Item) → gather no_words is ≡ words_by (λ l. word_saying (says l is))
gathered is =
    words_same (word_at (gather no_words is)) (λ l. word_saying (says l is))
    (λ l. gather_says is no_words l ∙ ap (λ (x : Word). join x (says l is)) (at_by (λ k. missing_word) l) ∙ join_missing (says l is))
