-- 01, Questions, "Job text": one line of a job, read at a bench.
use Rattle.std.specs.Prelude.{cond, List, ℕ, length, Result, Ok, Err}
use Rattle.question.specs.Question.{number_of}
use Rattle.question.specs.declared.Question.{Question}
use Rattle.words.specs.computed.Meaning.{meaning_of}
use Rattle.bench.specs.declared.Bench.{Bench}
use Rattle.bench.specs.declared.Answer.{Answer}
use Rattle.bench.specs.computed.Bench.{sound_of}
use Rattle.bench.specs.computed.Calls.{load_of}
use Rattle.reader.specs.declared.Reader.{Reader}
use Rattle.reader.specs.declared.asked.ToLoad.{ToLoad}
use Rattle.reader.specs.declared.asked.Asked.{Asked}
use Rattle.reader.specs.declared.text_line.Read.{Read}
use Rattle.reader.specs.declared.text_line.ReadLine.{ReadLine}
use Rattle.reader.specs.computed.Asked.{asked_of}

abbrev pub reads : Read → Reader → Bench → ReadLine
reads a k m = record { answer = a; reader = k; bench = m }

-- "Then load's questions": a refused line changes nothing, an accepted one leaves the G and F known after it
abbrev pub loaded : (before after : Reader) → Bench → (next : Bench) → Result Answer Question → ReadLine
loaded k k' m next (Ok Answer.Done) = reads Read.Nothing k' next
loaded k k' m next (Ok (Answer.Width bits)) = reads (Read.Loaded bits) k' next
loaded k k' m next (Err q) = reads (Read.Refused (number_of q)) k m

-- "A refused line leaves the known G and F and the machine as before it."
abbrev pub takes : (before after : Reader) → Bench → ToLoad → ReadLine
takes k k' m ToLoad.Nothing = reads Read.Nothing k' m
takes k k' m (ToLoad.Block b) = loaded k k' m (load_of m b).bench (load_of m b).answer
takes k k' m (ToLoad.Refused number) = reads (Read.Refused number) k m

abbrev pub taken_of : (before : Reader) → Bench → Asked → ReadLine
taken_of k m a = takes k a.reader m a.asks

-- "Any call on a record: is it sound? 9." The next block starts at the point. `meaning_of` is the one answer about the bytes that the
-- grammar allows.
unfoldable pub read_line_of : Reader → Bench → (bytes : List ℕ) → ReadLine
read_line_of k m bytes =
    cond (sound_of m) (taken_of k m (asked_of m.settings.scale k m.at (length bytes) (meaning_of bytes))) (reads (Read.Refused 9) k m)
