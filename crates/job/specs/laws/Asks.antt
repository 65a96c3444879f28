-- What the reader's call answers at an idle machine is what the line asks.
use Rattle.std.specs.Prelude.{◌≡◌, refl, Bool, true, false, cond, List, length, Result, Ok, Err, ⊤}
use Rattle.std.proofs.Common.{ap, ◌∙◌}
use Rattle.std.proofs.Math.Path.{subst}
use Prim.Native.Nat.{ℕ, zero, suc}
use Rattle.question.specs.laws.Ask.{passed}
use Rattle.question.specs.laws.Number.{number_some}
use Rattle.question.specs.Question.{number_of, number_told}
use Rattle.question.specs.declared.Question.{Question}
use Rattle.plane.specs.declared.point.Point.{Point}
use Rattle.block.specs.declared.Block.{Block}
use Rattle.block.specs.Block.{block_width}
use Rattle.block.specs.Questions.{load_no, ask_load}
use Rattle.letters.specs.declared.word.Words.{Words}
use Rattle.words.specs.declared.line.Line.{Line}
use Rattle.words.specs.Meaning.{Means}
use Rattle.words.specs.computed.Meaning.{meaning_of}
use Rattle.words.specs.laws.Meaning.{meaning_means}
use Rattle.words.specs.laws.Reading.{means_unique}
use Rattle.work.specs.Work.{is_nothing, begun_of}
use Rattle.bench.specs.declared.Bench.{Bench}
use Rattle.bench.specs.declared.Answered.{Answered}
use Rattle.settings.specs.declared.Settings.{Settings}
use Rattle.settings.specs.Settings.{feed_unit, capacity_of}
use Rattle.bench.specs.computed.Bench.{sound_of}
use Rattle.bench.specs.computed.Calls.{taking, load_with, load_of}
use Rattle.reader.specs.declared.Reader.{Reader}
use Rattle.reader.specs.declared.asked.ToLoad.{ToLoad}
use Rattle.reader.specs.declared.text_line.Read.{Read}
use Rattle.reader.specs.declared.text_line.ReadLine.{ReadLine}
use Rattle.reader.specs.Reader.{reader_after, moving, block_at}
use Rattle.reader.specs.computed.Reader.{line_no}
use Rattle.reader.specs.computed.Asked.{block_asked, asked_with, asked_of}
use Rattle.reader.specs.Reader.{goes_nowhere}
use Rattle.reader.specs.computed.TextLine.{reads, loaded, takes, taken_of, read_line_of}
use Rattle.job.specs.laws.Ended.{Accepted}
use Rattle.job.specs.computed.Job.{Asks, load_asks, block_asks, words_ask, line_asks}

-- a line read at the machine m with k known, side by side: what it asks, and what the call answers
pub data Read-as (m : Bench) (k : Reader) : Asks → ReadLine → Type 0 where
  nothing : (known : Reader) → Read-as m k (Asks.nothing known) (reads Read.Nothing known m)
  makes : (known : Reader) (b : Block) → Accepted m b
      → Read-as m k (Asks.makes known b) (reads (Read.Loaded (block_width m.at b)) known (load_of m b).bench)
  refuses : (number : ℕ) → Read-as m k (Asks.refuses number) (reads (Read.Refused number) k m)

module _ (m : Bench) (sound : sound_of m ≡ true) (idle : is_nothing m.work ≡ true) where
  load_is : (b : Block) → load_of m b ≡ load_with m b (ask_load (capacity_of m.settings) m.settings.travel true m.at b)
  unfolding load_of
  load_is b = rw (sound, idle)

  pub load_accepted : (b : Block) → Accepted m b → load_of m b ≡ taking m (begun_of m.at b)
  load_accepted b e =
      load_is b ∙ ap (load_with m b) (passed (ask_load (capacity_of m.settings) m.settings.travel true m.at b) e)

module _ (m : Bench) (k : Reader) (sound : sound_of m ≡ true) (idle : is_nothing m.work ≡ true) where
  refused_asks : (k' : Reader) (b : Block) (n : ℕ) → (n ≡ 0 → ⊥) → Read-as m k (load_asks k' b n) (reads (Read.Refused n) k m)
  refused_asks k' b zero some = absurd (some refl)
  refused_asks k' b (suc n) some = Read-as.refuses (suc n)

  load_asks_lem : (k' : Reader) (b : Block) (asked : Result ⊤ Question)
      → ask_load (capacity_of m.settings) m.settings.travel true m.at b ≡ asked
      → Read-as m k (load_asks k' b (number_told asked)) (loaded k k' m (load_with m b asked).bench (load_with m b asked).answer)
  unfolding begun_of
  load_asks_lem k' b (Ok passed) e =
      subst (λ (n : Bench). Read-as m k (Asks.makes k' b) (reads (Read.Loaded (block_width m.at b)) k' n))
      (ap (λ (a : Answered). a.bench) (load_accepted m sound idle b (ap number_told e)))
      (Read-as.makes k' b (ap number_told e))
  load_asks_lem k' b (Err q) e = refused_asks k' b (number_of q) (number_some q)

  block_asks_lem : (k' : Reader) (b : Block) → Read-as m k (block_asks feed_unit m.settings m.at k' b) (takes k k' m (block_asked m.at b))
  block_asks_lem k' b = by (goes_nowhere b.end m.at b.path)
    where
      by : (stays : Bool) → Read-as m k (cond stays (Asks.nothing k')
          (load_asks k' b (load_no (capacity_of m.settings) m.settings.travel true m.at b)))
          (takes k k' m (cond stays ToLoad.Nothing (ToLoad.Block b)))
      by true = Read-as.nothing k'
      by false = rw (load_is m sound idle b) (load_asks_lem k' b (ask_load (capacity_of m.settings) m.settings.travel true m.at b) refl)

  words_ask_lem : (k' : Reader) (ws : Words) (number : ℕ)
      → Read-as m k (words_ask feed_unit m.settings m.at k' ws number)
      (taken_of k m (asked_with m.settings.scale k k' m.at ws number))
  words_ask_lem k' ws zero = by (moving ws)
    where
      by : (moves : Bool) → Read-as m k
          (cond moves (block_asks feed_unit m.settings m.at k' (block_at feed_unit m.settings.scale k' ws m.at)) (Asks.nothing k'))
          (takes k k' m (cond moves (block_asked m.at (block_at feed_unit m.settings.scale k' ws m.at)) ToLoad.Nothing))
      by true = block_asks_lem k' (block_at feed_unit m.settings.scale k' ws m.at)
      by false = Read-as.nothing k'
  words_ask_lem k' ws (suc n) = Read-as.refuses (suc n)

  pub line_asks_lem : (line : List ℕ) → Read-as m k (line_asks feed_unit m.settings m.at k line) (read_line_of k m line)
  unfolding line_asks read_line_of asked_of
  line_asks_lem line =
      let l = meaning_of line in
      let k' = reader_after k l.words in
      rw sound (words_ask_lem k' l.words (line_no m.settings.scale k' (length line) l))

-- ---- what a line asks, by the meaning that the grammar gives it: any answer that `Means` allows, and there is only one
pub asks_means : (u : ℕ) (s : Settings) (at : Point) (k : Reader) (line : List ℕ) (l : Line) → Means line l
    → (let k' = reader_after k l.words in line_asks u s at k line ≡ words_ask u s at k' l.words (line_no s.scale k' (length line) l))
unfolding line_asks
asks_means u s at k line l means = rw (means_unique line (meaning_of line) l (meaning_means line) means)
