-- What the code says of a letter: that it does not stand, its one value, or that it stands twice.
use Rattle.std.specs.Prelude.{ℕ, List, [], ◌∷◌, Bool, true, false, not, ◌||◌}
use Rattle.letters.specs.declared.letter.Letter.{Letter}
use Rattle.letters.specs.declared.letter.Letter.TheVariants.{N, G, F, X, Y, I, J}
use Rattle.letters.specs.declared.word.Word.{Word}
use Rattle.letters.specs.declared.word.Words.{Words}
use Rattle.letters.specs.Letter.{letters}

abbrev pub missing_word : Word
missing_word = record { stands = false; twice = false; negative = false; magnitude = 0 }

abbrev pub one_word : (negative : Bool) (magnitude : ℕ) → Word
one_word n m = record { stands = true; twice = false; negative = n; magnitude = m }

abbrev pub twice_word : Word
twice_word = record { stands = true; twice = true; negative = false; magnitude = 0 }

-- ---- words by their letters

abbrev pub word_at : Words → Letter → Word
word_at ws N = ws.n
word_at ws G = ws.g
word_at ws F = ws.f
word_at ws X = ws.x
word_at ws Y = ws.y
word_at ws I = ws.i
word_at ws J = ws.j

abbrev pub words_by : (Letter → Word) → Words
words_by w = record { n = w N; g = w G; f = w F; x = w X; y = w Y; i = w I; j = w J }

-- 01, question 33: "No letter twice?"
abbrev pub any_twice : List Letter → Words → Bool
any_twice [] ws = false
any_twice (l ∷ ls) ws = (word_at ws l).twice || any_twice ls ws

abbrev pub once_of : Words → Bool
once_of ws = not (any_twice letters ws)
