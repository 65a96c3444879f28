-- A block that a machine at rest accepts, run to its end: by the closed forms and by the machine's own run. From a remainder that pays for
-- no cycle it ends on the tick of 02 §2's formula, and leaves such a remainder.
use Rattle.std.specs.Prelude.{◌≡◌, true, ℕ, ◌+◌, ◌-◌, ◌*◌, ◌<◌, Ok}
use Rattle.std.proofs.Math.Path.{ap}
use Rattle.std.proofs.Common.{subst, ◌∙◌}
use Rattle.plane.specs.Byte.{cycles_marked}
use Rattle.plane.specs.laws.Travel.{inside}
use Rattle.circle.specs.Charge.{straight}
use Rattle.block.specs.declared.Block.{Block}
use Rattle.block.specs.Block.{block_cycles}
use Rattle.block.specs.Charge.{block_charges}
use Rattle.block.specs.Questions.{load_no}
use Rattle.book.specs.Bench.{added_by}
use Rattle.book.specs.Ledger.{block_ticks}
use Rattle.book.proofs.laws.Begins.{Begun, accepted_begins}
use Rattle.work.specs.Work.{is_nothing}
use Rattle.bench.specs.declared.Bench.{Bench}
use Rattle.bench.specs.declared.Report.{Report}
use Rattle.settings.specs.Settings.{capacity_of}
use Rattle.settings.specs.laws.Right.{settings_right}
use Rattle.bench.specs.Bench.{moved_of}
use Rattle.bench.specs.computed.Calls.{load_of}
use Rattle.bench.specs.computed.Run.{run_of}
use Rattle.bench.specs.laws.Sound.{sound}
use Rattle.finish.specs.declared.Finished.{Finished}
use Rattle.finish.specs.computed.Finish.{finished_of, finish_of}
use Rattle.finish.specs.laws.Record.{AtRest, ticks_most}
use Rattle.finish.specs.laws.Run.{finish_is_run, finish_counts}
use Rattle.finish.specs.laws.Loaded.{loaded_at_work, finish_loaded, loaded_rests}
use Rattle.job.specs.computed.Check.{enough}

-- no question refuses the load of this block
abbrev pub Accepted : Bench → Block → Type 0
Accepted m b = load_no (capacity_of m.settings) m.settings.travel true m.at b ≡ 0

-- what the block leaves
abbrev pub ended_of : Bench → Block → Finished
ended_of m b = finished_of m b.end (block_cycles m.at b) (block_charges m.at b) b.feed

module _ (m : Bench) (r : AtRest m) (b : Block) (ok : Accepted m b) where
  asked : load_no (capacity_of m.settings) m.settings.travel (is_nothing m.work) m.at b ≡ 0
  asked = rw r.idle ok

  pub ended : finish_of (load_of m b).bench ≡ ended_of m b
  ended = finish_loaded m r b asked

  pub ended_rests : AtRest (ended_of m b).bench
  ended_rests = subst (λ (f : Finished). AtRest f.bench) ended (loaded_rests m r b asked)

  -- on the machine itself
  pub ended_run : (run_of (load_of m b).bench enough enough).ran
      ≡ record { report = Ok Report.Ended; ticks = (ended_of m b).ticks; cycles = (ended_of m b).cycles; bench = (ended_of m b).bench }
  ended_run =
      finish_is_run (load_of m b).bench (loaded_at_work m r b asked) enough enough (ticks_most _) (ticks_most _)
      ∙ ap (λ (f : Finished). record { report = Ok Report.Ended; ticks = f.ticks; cycles = f.cycles; bench = f.bench }) ended

  pub ended_cycles : cycles_marked (run_of (load_of m b).bench enough enough).bytes ≡ (ended_of m b).cycles
  ended_cycles =
      finish_counts (load_of m b).bench (loaded_at_work m r b asked) enough enough (ticks_most _) (ticks_most _)
      ∙ ap (λ (f : Finished). f.cycles) ended

-- ---- from a remainder that pays for no cycle

abbrev pub Low : Bench → Type 0
Low m = m.remainder < straight * capacity_of m.settings

module _ (m : Bench) (r : AtRest m) (b : Block) (ok : Accepted m b) (low : Low m) where
  begins : Begun (capacity_of m.settings) m.remainder m.at b
  begins =
      let s = sound r.sound in
      let wide = (settings_right m.settings s.settings).wide in
      accepted_begins (capacity_of m.settings) m.settings.travel wide m.at b (inside s.in_travel) ok m.remainder low

  pub ended_ticks : (ended_of m b).ticks ≡ block_ticks (capacity_of m.settings) m.remainder m.at b
  ended_ticks = begins.ends

  pub ended_left : (let q0 = capacity_of m.settings in
      (ended_of m b).bench.remainder
      ≡ m.remainder + block_ticks q0 m.remainder m.at b * added_by b - block_charges m.at b * q0)
  unfolding moved_of
  ended_left = ap (λ (t : ℕ). m.remainder + t * added_by b - block_charges m.at b * capacity_of m.settings) ended_ticks

  -- for the next block
  pub ended_low : Low (ended_of m b).bench
  unfolding moved_of
  ended_low = rw ended_ticks begins.below
