-- Demand 2, the tick bytes of a job: the answers of its ticks. "Each block is loaded once the one before has ended, remainder kept.": so
-- none ever waits, and the stream works at the bench alone; the bytes are those of the machine's own calls.
use Rattle.std.specs.Prelude.{◌≡◌, true, List, [], ◌∷◌, ◌++◌, ℕ, length, take, Ok}
use Rattle.std.specs.Borrow.{Bor, MutBor}
use contract.Lifetimes.{Lfts}
use Rattle.plane.specs.Byte.{cycles_marked}
use Rattle.block.specs.Block.{block_width}
use Rattle.work.specs.declared.Work.{Work}
use Rattle.settings.specs.declared.Settings.{Settings}
use Rattle.settings.specs.Settings.{feed_unit, capacity_of}
use Rattle.bench.specs.declared.Bench.{Bench}
use Rattle.bench.specs.declared.Answer.{Answer}
use Rattle.bench.specs.Bench.{fresh_of as fresh_bench}
use Rattle.machine.specs.declared.Machine.{Machine}
use Rattle.machine.specs.declared.Answered.{Answered}
use Rattle.machine.specs.Machine.{fresh_of}
use Rattle.history.specs.CallContracts.{Loads}
use Rattle.job.specs.Job.{Made}
use Rattle.job.specs.computed.Job.{job_at}
use Rattle.job.specs.Listing.{all_cycles, all_ticks}
use Rattle.stream.specs.declared.Stream.{Stream}
use Rattle.stream.specs.declared.Filled.{Filled}
use Rattle.stream.specs.computed.Stream.{Fills, stream_from}
use Rattle.demands.specs.Asked.{AllYes}
use Rattle.demands.specs.Bench.{settings_questions}
use Rattle.demands.specs.Runs.{TicksTo, ticks_left}
use Rattle.demands.specs.Texts.{Filling, FrontOf}

-- blocks loaded from the record m on, each at the record that the one before it left, accepted with its width, and ticked to its end, by
-- the calls' own contracts: the bytes that they answer
pub data BlocksTick : Machine → List Made → List ℕ → Type 0 where
  none : {m : Machine} → BlocksTick m [] []
  block : {m m' : Machine} {later : List Made} {bytes rest : List ℕ} (made : Made) (r : Answered) → made.start ≡ m.bench.at
      → Loads m made.block r → r.answer ≡ Ok (Answer.Width (block_width made.start made.block))
      → TicksTo r.machine bytes m' → length bytes ≡ ticks_left r.machine.bench → m'.bench.work ≡ Work.Nothing
      → BlocksTick m' later rest → BlocksTick m (made ∷ later) (bytes ++ rest)

-- the tick bytes of a text's job
pub record JobBytes (s : Settings) (text bytes : List ℕ) : Type 0 where
  pub blocks : BlocksTick (fresh_of s) (job_at feed_unit s text).blocks bytes
  -- "the last line gives blocks, cycles and ticks": there are as many, and they mark as many cycles
  pub ticks : length bytes ≡ all_ticks (capacity_of s) 0 (job_at feed_unit s text).blocks
  pub cycles : cycles_marked bytes ≡ all_cycles (job_at feed_unit s text).blocks

-- ---- as they are handed out

abbrev pub StartsStream : Bench → Stream → Type 0
StartsStream m t = t ≡ stream_from m

abbrev pub FillsStream : Lfts 2 → Stream → (text : Bor (List ℕ)) (out out' : MutBor (List ℕ)) → Filled → Type 0
FillsStream κs t text out out' f = Fills t text.now out.now f out'.now

-- fills of one text, one after the other, into buffers of any length and contents, lead from the stream t to u and hand these bytes out
pub data BytesOut (text : List ℕ) (t : Stream) : List ℕ → Stream → Type 0 where
  none : BytesOut text t [] t
  fill : {bytes : List ℕ} {u : Stream} → BytesOut text t bytes u
      → (κs : Lfts 2) (lent : Bor (List ℕ)) (out out' : MutBor (List ℕ)) (f : Filled)
      → lent.now ≡ text → FillsStream κs u lent out out' f → BytesOut text t (bytes ++ take f.len out'.now) f.stream

pub record EveryTickByte : Type 0 where
  pub fill : (κs : Lfts 2) (t : Stream) (text : Bor (List ℕ)) (out out' : MutBor (List ℕ)) (f : Filled) → FillsStream κs t text out out' f
      → Filling 1 out.now out'.now f.len f.stream.over
  -- whoever fills a stream that began at a fresh machine's bench gets the tick bytes of the text's job
  pub bytes : (s : Settings) → AllYes (settings_questions s) → (t : Stream) → StartsStream (fresh_bench s) t → (text : List ℕ)
      → (whole : List ℕ) × JobBytes s text whole
      × ((bytes : List ℕ) (u : Stream) → BytesOut text t bytes u → FrontOf whole bytes (u.over ≡ true))
