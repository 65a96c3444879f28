-- The letter of a byte, as the code finds it, and one word more in the record of a line's words; `Found` has that as the code does it.
-- Nothing here is to be believed: crate `words` proves what comes of it.
use Rattle.std.specs.Prelude.{cond}
use Rattle.letters.specs.declared.letter.Letter.{Letter}
use Rattle.letters.specs.declared.word.Word.{Word}
use Rattle.letters.specs.declared.word.Words.{Words}
use Rattle.letters.specs.Letter.{same}
use Rattle.letters.specs.Word.{twice_word, word_at, words_by}

-- ---- the words found

abbrev pub more_of : (old new : Word) → Word
more_of old new = cond old.stands twice_word new

abbrev pub put_of : Words → Letter → Word → Words
put_of ws l new = words_by (λ k. cond (same k l) (more_of (word_at ws k) new) (word_at ws k))
