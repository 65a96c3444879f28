-- What a line means, as contracts cite it: the one answer that `Means` allows.
use Rattle.std.specs.Prelude.{ℕ, List}
use Rattle.words.specs.declared.line.Line.{Line}
use Rattle.words.specs.Grammar.{LineOfWords}
use Rattle.words.specs.Meaning.{said_by, not_words}
use Rattle.words.specs.laws.Reading.{line_or_not}

-- by a decision whether the bytes are a line of words; its type says all of it, so how it is come by does not matter
abbrev pub meaning_by : {bytes : List ℕ} → Dec (LineOfWords bytes) → Line
meaning_by (yes line) = said_by line.items
meaning_by (no _) = not_words

unfoldable pub meaning_of : (bytes : List ℕ) → Line
meaning_of bytes = meaning_by (line_or_not bytes)
