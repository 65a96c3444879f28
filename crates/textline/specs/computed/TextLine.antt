-- 01, Questions, "Job text": one line of a job, read at a machine.
use Rattle.std.specs.Prelude.{cond, List, ℕ, length, Result, Ok, Err}
use Rattle.question.specs.Question.{number_of}
use Rattle.question.specs.declared.Question.{Question}
use Rattle.words.specs.computed.Meaning.{meaning_of}
use Rattle.bench.specs.declared.Answer.{Answer}
use Rattle.machine.specs.declared.Machine.{Machine}
use Rattle.machine.specs.computed.Machine.{sound_of}
use Rattle.machine.specs.Machine.{start_of}
use Rattle.machine.specs.computed.Calls.{load_of}
use Rattle.reader.specs.declared.Reader.{Reader}
use Rattle.reader.specs.declared.asked.ToLoad.{ToLoad}
use Rattle.reader.specs.declared.asked.Asked.{Asked}
use Rattle.reader.specs.declared.text_line.Read.{Read}
use Rattle.reader.specs.computed.Asked.{asked_of}
use Rattle.textline.specs.declared.ReadLine.{ReadLine}

abbrev pub reads : Read → Reader → Machine → ReadLine
reads a k m = record { answer = a; reader = k; machine = m }

-- "Then load's questions": a refused line changes nothing, an accepted one leaves the G and F known after it
abbrev pub loaded : (before after : Reader) → Machine → (next : Machine) → Result Answer Question → ReadLine
loaded k k' m next (Ok Answer.Done) = reads Read.Nothing k' next
loaded k k' m next (Ok (Answer.Width bits)) = reads (Read.Loaded bits) k' next
loaded k k' m next (Err q) = reads (Read.Refused (number_of q)) k m

-- "A refused line leaves the known G and F and the machine as before it."
abbrev pub takes : (before after : Reader) → Machine → ToLoad → ReadLine
takes k k' m ToLoad.Nothing = reads Read.Nothing k' m
takes k k' m (ToLoad.Block b) = loaded k k' m (load_of m b).machine (load_of m b).answer
takes k k' m (ToLoad.Refused number) = reads (Read.Refused number) k m

abbrev pub taken_of : (before : Reader) → Machine → Asked → ReadLine
taken_of k m a = takes k a.reader m a.asks

-- "Any call on a record: is it sound? 9." 02 §3: "what a text line leaves out, start from the end of the last waiting block, else of the
-- block in work, else from the point; a straight text line to that place makes no block." `meaning_of` is the one answer about the bytes
-- that the grammar allows.
unfoldable pub read_line_of : Reader → Machine → (bytes : List ℕ) → ReadLine
read_line_of k m bytes =
    let start = start_of m.bench m.queue in
    cond (sound_of m) (taken_of k m (asked_of m.bench.settings.scale k start (length bytes) (meaning_of bytes)))
    (reads (Read.Refused 9) k m)
