-- What a line does at a bench, by the meaning that the grammar gives it; and the record after it.
use Rattle.std.specs.Prelude.{Bool, true, false, cond, List, ℕ, length, Result, Ok, Err}
use Rattle.question.specs.declared.Question.{Question}
use Rattle.block.specs.declared.Block.{Block}
use Rattle.words.specs.computed.Meaning.{meaning_of}
use Rattle.bench.specs.declared.Bench.{Bench}
use Rattle.bench.specs.declared.Answer.{Answer}
use Rattle.bench.specs.computed.Bench.{sound_of}
use Rattle.bench.specs.computed.Calls.{load_of}
use Rattle.reader.specs.declared.Reader.{Reader}
use Rattle.reader.specs.declared.asked.ToLoad.{ToLoad}
use Rattle.reader.specs.declared.asked.Asked.{Asked}
use Rattle.reader.specs.declared.text_line.Read.{Read}
use Rattle.reader.specs.computed.Asked.{asked_of}
use Rattle.reader.specs.computed.TextLine.{reads, loaded, takes, taken_of, read_line_of}

-- ---- the record after a line is the one before it, or that after a load: what holds of both holds of it

module _ (P : Bench → Type 0) (m : Bench) (same : P m) (load : (b : Block) → P (load_of m b).bench) (k k' : Reader) where
  loaded_either : (b : Block) (a : Result Answer Question) → P (loaded k k' m (load_of m b).bench a).bench
  loaded_either b (Ok Answer.Done) = load b
  loaded_either b (Ok (Answer.Width bits)) = load b
  loaded_either b (Err number) = same

  takes_either : (a : ToLoad) → P (takes k k' m a).bench
  takes_either ToLoad.Nothing = same
  takes_either (ToLoad.Block b) = loaded_either b (load_of m b).answer
  takes_either (ToLoad.Refused number) = same

pub read_either : (P : Bench → Type 0) (k : Reader) (m : Bench) (bytes : List ℕ) → P m → ((b : Block) → P (load_of m b).bench)
    → P (read_line_of k m bytes).bench
unfolding read_line_of
read_either P k m bytes same load = by (sound_of m)
  where
    a : Asked
    a = asked_of m.settings.scale k m.at (length bytes) (meaning_of bytes)

    by : (sound : Bool) → P (cond sound (taken_of k m a) (reads (Read.Refused 9) k m)).bench
    by true = takes_either P m same load k a.reader a.asks
    by false = same
