-- A run by what the record is: refused, idle, held, or at work.
use Rattle.std.specs.Prelude.{◌≡◌, refl, Bool, true, false, cond, List, ℕ, min, leb, length, Result, Ok, Err}
use Rattle.question.specs.declared.Question.{Question}
use Rattle.work.specs.Work.{is_nothing}
use Rattle.run.specs.declared.Ran.{Ran as Work}
use Rattle.run.specs.computed.Run.{Strip, strip_of, ran_of, written}
use Rattle.bench.specs.declared.Bench.{Bench}
use Rattle.bench.specs.declared.Report.{Report}
use Rattle.bench.specs.declared.Ran.{Ran}
use Rattle.settings.specs.Settings.{capacity_of}
use Rattle.bench.specs.computed.Bench.{sound_of}
use Rattle.bench.specs.Bench.{moved_of}
use Rattle.bench.specs.computed.Run.{Run, report_of, ran_over, no_tick, run_of}

module _ (m : Bench) (budget : ℕ) (out : List ℕ) where
  -- what a run promises of its answer and of its buffer
  abbrev pub Done : Ran → (buffer : List ℕ) → Type 0
  Done r buffer = (r ≡ (run_of m budget (length out)).ran) × (buffer ≡ written (run_of m budget (length out)).bytes out)

  -- without a tick
  untouched : (r : Result Report Question) → run_of m budget (length out) ≡ no_tick m r → Done (no_tick m r).ran out
  unfolding written
  untouched r e = rw e (refl, refl)

  pub run_refused : sound_of m ≡ false → Done (no_tick m (Err Question.Sound)).ran out
  unfolding run_of
  run_refused unsound = untouched (Err Question.Sound) (rw unsound)

  pub run_idle : sound_of m ≡ true → is_nothing m.work ≡ true → Done (no_tick m (Ok Report.Idle)).ran out
  unfolding run_of
  run_idle sound idle = untouched (Ok Report.Idle) (rw (sound, idle))

  pub run_held : sound_of m ≡ true → is_nothing m.work ≡ false → m.held ≡ true → Done (no_tick m (Ok Report.Held)).ran out
  unfolding run_of
  run_held sound busy held = untouched (Ok Report.Held) (rw (sound, busy, held))

  -- at work
  abbrev pub ticking : Strip
  ticking = strip_of (capacity_of m.settings) (min budget (length out)) m.at m.remainder m.work

  pub run_works : sound_of m ≡ true → is_nothing m.work ≡ false → m.held ≡ false → {r : Work} {after : List ℕ} → r ≡ ran_of ticking
      → after ≡ written ticking.bytes out
      → Done
      (record {
        report = Ok (report_of r.ended (leb budget r.ticks));
        ticks = r.ticks;
        cycles = r.cycles;
        bench = moved_of m r.at r.remainder r.work;
      })
      after
  unfolding run_of
  run_works sound busy free ran buffer = rw (sound, busy, free, buffer, ran) (refl, refl)

-- as many ticks as bytes
pub ticks_are : (m : Bench) (budget buffer : ℕ) → (run_of m budget buffer).ran.ticks ≡ length (run_of m budget buffer).bytes
unfolding run_of
ticks_are m budget buffer = by (sound_of m) (is_nothing m.work) m.held (ran_over m budget
    (strip_of (capacity_of m.settings) (min budget buffer) m.at m.remainder m.work)) refl
  where
    by : (sound idle held : Bool) (run : Run) → run.ran.ticks ≡ length run.bytes
        → (let r = cond sound (cond idle (no_tick m (Ok Report.Idle)) (cond held (no_tick m (Ok Report.Held)) run)) (no_tick m
        (Err Question.Sound)) in
        r.ran.ticks ≡ length r.bytes)
    by true true held run e = refl
    by true false true run e = refl
    by true false false run e = e
    by false idle held run e = refl
