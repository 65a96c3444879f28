-- The letter of a byte, and a line in which no letter stands.
use Rattle.std.specs.Prelude.{ℕ, List, [], ◌∷◌, Option, Some, None, cond, eqb}
use Rattle.letters.specs.declared.letter.Letter.{Letter}
use Rattle.letters.specs.declared.word.Words.{Words}
use Rattle.letters.specs.Letter.{letters, letter_byte}
use Rattle.letters.specs.Word.{missing_word, words_by}

-- the first of the letters that has the byte
abbrev pub among_of : List Letter → ℕ → Option Letter
among_of [] b = None
among_of (l ∷ ls) b = cond (eqb b (letter_byte l)) (Some l) (among_of ls b)

abbrev pub letter_of : ℕ → Option Letter
letter_of b = among_of letters b

abbrev pub no_words : Words
no_words = words_by (λ l. missing_word)
