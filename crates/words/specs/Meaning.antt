-- What a line of words means: of each letter nothing, one value, or that it stands twice. At the end, `Means` says what an answer about a
-- line has to be.
use Rattle.std.specs.Prelude.{ℕ, ◌+◌, ◌-◌, ◌*◌, ◌^◌, ◌≡◌, List, [], ◌∷◌, Bool, true, false, cond, length}
use Rattle.letters.specs.declared.letter.Letter.{Letter}
use Rattle.letters.specs.declared.word.Word.{Word}
use Rattle.letters.specs.declared.word.Words.{Words}
use Rattle.words.specs.declared.line.Line.{Line}
use Rattle.letters.specs.Letter.{unit_of, same}
use Rattle.letters.specs.Word.{missing_word, one_word, twice_word, words_by, once_of}
use Rattle.words.specs.Grammar.{Sign, unsigned, plus, minus, Item, blank, word, LineOfWords}

-- ---- a word's value

-- the number that digits write
abbrev pub number : List ℕ → ℕ
number [] = 0
number (d ∷ ds) = d * 10 ^ length ds + number ds

-- 01: "1 to 7 digits and optionally a point with 1 to 3 digits, in millimetres." X12.5 is 12,500 thousandths, N12 is 12; F0.75
-- is 750 (02 §4).
abbrev pub magnitude_of : Letter → (whole decimals : List ℕ) → ℕ
magnitude_of l w f = number w * unit_of l + number f * 10 ^ (3 - length f)

abbrev pub is_minus : Sign → Bool
is_minus unsigned = false
is_minus plus = false
is_minus minus = true

-- ---- what a line says of a letter

-- a letter that stands twice has no value
pub data Value : Type 0 where
  missing : Value
  one : (negative : Bool) (magnitude : ℕ) → Value
  twice : Value

-- a word of the letter, in front of what the rest of the line says of it
abbrev pub with_rest : (negative : Bool) (magnitude : ℕ) → Value → Value
with_rest n m missing = one n m
with_rest n m (one _ _) = twice
with_rest n m twice = twice

abbrev pub says : Letter → List Item → Value
says l [] = missing
says l (blank ∷ is) = says l is
says l (word k s w f ∷ is) = cond (same l k) (with_rest (is_minus s) (magnitude_of k w f) (says l is)) (says l is)

-- ---- the same as the code answers it

abbrev pub word_saying : Value → Word
word_saying missing = missing_word
word_saying (one n m) = one_word n m
word_saying twice = twice_word

abbrev pub answer_of : (formed : Bool) → Words → Line
answer_of formed ws = record { formed = formed; once = once_of ws; words = ws }

-- the answer about a line of items
abbrev pub said_by : List Item → Line
said_by is = answer_of true (words_by (λ l. word_saying (says l is)))

-- the answer about bytes that are no line of words
abbrev pub not_words : Line
not_words = answer_of false (words_by (λ l. missing_word))

-- What an answer r about the bytes of a line has to be. `laws/Reading.antt` proves that all bytes have such an answer, and only one.
pub record Means (bytes : List ℕ) (r : Line) : Type 0 where
  pub formed : r.formed ≡ true → LineOfWords bytes
  pub said : (line : LineOfWords bytes) → r ≡ said_by line.items
  pub refused : r.formed ≡ false → r ≡ not_words
