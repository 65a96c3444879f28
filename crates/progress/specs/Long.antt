-- The ticks of a check as 2 words, signed numbers of 64 bits: those below 10^18, and how many 10^18 there are beside them.
use Rattle.std.specs.Prelude.{cond, ℕ, ◌^◌, ltb, ℤ, pos}
use Rattle.row.specs.declared.long.LongCount.{LongCount}
use Rattle.encoding.specs.Words.{word_of, count_of}
use Rattle.progress.specs.declared.long.LongWords.{LongWords}

abbrev pub long_words : LongCount → LongWords
long_words c = record { low = word_of c.low; high = pos c.high }

-- ---- and back: what the words tell, whatever they are

-- a number of 32 bits
abbrev pub high_read : ℤ → ℕ
high_read z = cond (ltb (count_of z) (2 ^ 32)) (count_of z) 0

abbrev pub long_read : LongWords → LongCount
long_read w = record { low = count_of w.low; high = high_read w.high }
