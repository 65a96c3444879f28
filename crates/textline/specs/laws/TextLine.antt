-- What a line does at a machine, by the meaning that the grammar gives it; and the record after it.
use Rattle.std.specs.Prelude.{◌≡◌, Bool, true, false, cond, List, ℕ, length, Result, Ok, Err}
use Rattle.question.specs.declared.Question.{Question}
use Rattle.block.specs.declared.Block.{Block}
use Rattle.words.specs.declared.line.Line.{Line}
use Rattle.words.specs.Meaning.{Means}
use Rattle.words.specs.computed.Meaning.{meaning_of}
use Rattle.words.specs.laws.Meaning.{meaning_means}
use Rattle.words.specs.laws.Reading.{means_unique}
use Rattle.bench.specs.declared.Answer.{Answer}
use Rattle.machine.specs.declared.Machine.{Machine}
use Rattle.machine.specs.computed.Machine.{sound_of}
use Rattle.machine.specs.Machine.{start_of}
use Rattle.machine.specs.computed.Calls.{load_of}
use Rattle.reader.specs.declared.Reader.{Reader}
use Rattle.reader.specs.declared.asked.ToLoad.{ToLoad}
use Rattle.reader.specs.declared.asked.Asked.{Asked}
use Rattle.reader.specs.declared.text_line.Read.{Read}
use Rattle.reader.specs.computed.Asked.{asked_of}
use Rattle.textline.specs.computed.TextLine.{reads, loaded, takes, taken_of, read_line_of}

-- `read_line_of` for whoever holds `Means` against the paper: any answer that the grammar allows gives it, and there is only one
pub read_means : (k : Reader) (m : Machine) (bytes : List ℕ) (l : Line) → Means bytes l
    → (let start = start_of m.bench m.queue in
    read_line_of k m bytes
    ≡ cond (sound_of m) (taken_of k m (asked_of m.bench.settings.scale k start (length bytes) l)) (reads (Read.Refused 9) k m))
unfolding read_line_of
read_means k m bytes l means = rw (means_unique bytes (meaning_of bytes) l (meaning_means bytes) means)

-- ---- the record after a line is the one before it, or that after a load: what holds of both holds of it

module _ (P : Machine → Type 0) (m : Machine) (same : P m) (load : (b : Block) → P (load_of m b).machine) (k k' : Reader) where
  loaded_either : (b : Block) (a : Result Answer Question) → P (loaded k k' m (load_of m b).machine a).machine
  loaded_either b (Ok Answer.Done) = load b
  loaded_either b (Ok (Answer.Width bits)) = load b
  loaded_either b (Err number) = same

  takes_either : (a : ToLoad) → P (takes k k' m a).machine
  takes_either ToLoad.Nothing = same
  takes_either (ToLoad.Block b) = loaded_either b (load_of m b).answer
  takes_either (ToLoad.Refused number) = same

pub read_either : (P : Machine → Type 0) (k : Reader) (m : Machine) (bytes : List ℕ) → P m → ((b : Block) → P (load_of m b).machine)
    → P (read_line_of k m bytes).machine
unfolding read_line_of
read_either P k m bytes same load = by (sound_of m)
  where
    a : Asked
    a = asked_of m.bench.settings.scale k (start_of m.bench m.queue) (length bytes) (meaning_of bytes)

    by : (sound : Bool) → P (cond sound (taken_of k m a) (reads (Read.Refused 9) k m)).machine
    by true = takes_either P m same load k a.reader a.asks
    by false = same
