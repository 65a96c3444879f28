-- A run to the end of the block in pieces: what a run has done, and the run to the end of what it leaves, are the run to the end.
use Rattle.std.specs.Prelude.{◌≡◌, refl, Bool, false, cond, ◌&&◌, ◌||◌, not, List, [], ◌++◌, ℕ, ◌+◌, ◌-◌, ◌≤◌, min, T, length, Ok, Err}
use Rattle.std.proofs.Math.Path.{sym, ap}
use Rattle.std.proofs.Common.{subst, ◌∙◌, append_assoc}
use Rattle.std.proofs.Math.Bool.{true}
use native.Mathlib.Omega.{arith}
use Rattle.question.specs.declared.Question.{Question}
use Rattle.work.specs.Work.{is_nothing}
use Rattle.run.specs.computed.Run.{Strip, strip_of}
use Rattle.run.specs.laws.Going.{after}
use Rattle.bench.specs.declared.Bench.{Bench}
use Rattle.bench.specs.declared.Report.{Report}
use Rattle.settings.specs.Settings.{capacity_of}
use Rattle.bench.specs.computed.Bench.{sound_of}
use Rattle.bench.specs.Bench.{moved_of}
use Rattle.bench.specs.computed.Run.{Run, ran_over, no_tick, run_of}
use Rattle.bench.specs.laws.Run.{ticks_are}
use Rattle.invariant.specs.laws.Calls.{run_keeps}
use Rattle.run.specs.laws.Strip.{Ended, strip_ends, end_tick_lem}
use Rattle.finish.specs.declared.Finished.{Finished}
use Rattle.finish.specs.computed.Finish.{last_tick_of, works_of, finish_of}
use Rattle.finish.specs.laws.Record.{AtWork, at_work, works, finishes, ticks_most}
use Rattle.job.specs.computed.Check.{enough}
use Rattle.stream.specs.computed.Stream.{run_then}
use Rattle.stream.specs.laws.Split.{and_then, then_ended, then_going, strip_split, strip_busy, strip_some, strip_few}

-- a record whose runs do no tick
abbrev pub Still : Bench → Type 0
Still m = (budget buffer : ℕ) → ((run_of m budget buffer).bytes ≡ []) × ((run_of m budget buffer).ran.bench ≡ m)

pub still : (m : Bench) → works_of m ≡ false → Still m
unfolding works_of run_of
still m none budget buffer =
    by (sound_of m) (is_nothing m.work) m.held
    (ran_over m budget (strip_of (capacity_of m.settings) (min budget buffer) m.at m.remainder m.work)) none
  where
    by : (sound idle held : Bool) (run : Run) → sound && not (idle || held) ≡ false
        → (let r = cond sound (cond idle (no_tick m (Ok Report.Idle)) (cond held (no_tick m (Ok Report.Held)) run)) (no_tick m
        (Err Question.Sound)) in
        (r.bytes ≡ []) × (r.ran.bench ≡ m))
    by true true held run e = (refl, refl)
    by true false true run e = (refl, refl)
    by true false false run e = absurd (subst T e tt)
    by false idle held run e = (refl, refl)

pub still_idle : (m : Bench) → is_nothing m.work ≡ true → Still m
unfolding works_of
still_idle m e = still m (rw e (by (sound_of m)))
  where
    by : (b : Bool) → b && false ≡ false
    by true = refl
    by false = refl

module _ (m : Bench) (a : AtWork m) where
  abbrev ticking : ℕ → Strip
  ticking n = strip_of (capacity_of m.settings) n m.at m.remainder m.work

  pub runs : (budget buffer : ℕ) → run_of m budget buffer ≡ ran_over m budget (ticking (min budget buffer))
  unfolding run_of
  runs budget buffer = rw (a.sound, a.busy, a.free)

  pub some_tick : (budget buffer : ℕ) → 1 ≤ budget → 1 ≤ buffer → 1 ≤ length (run_of m budget buffer).bytes
  some_tick budget buffer b n = rw (runs budget buffer) (strip_some (capacity_of m.settings) (min budget buffer) m.at m.remainder
      m.work (omega arith))

  -- a run that is allowed its ticks ends
  to_end : Ended (capacity_of m.settings) m.at m.remainder m.work (last_tick_of m) (ticking enough)
  to_end =
      let last : (finish_of m).ticks ≡ last_tick_of m = ap (λ (f : Finished). f.ticks) (finishes m a) in
      strip_ends enough (last_tick_of m) (at_work a) (end_tick_lem (at_work a)) (omega (arith, ticks_most m))

-- ---- a run of some of the ticks, and the run to the end of what it leaves

module _ (m : Bench) (a : AtWork m) (buffer : ℕ) (rest : Bench → List ℕ) where
  abbrev q0 : ℕ
  q0 = capacity_of m.settings

  abbrev done : ℕ
  done = min enough buffer

  abbrev first : Strip
  first = ticking m a done

  abbrev left : Bench
  left = moved_of m first.at first.remainder first.work

  abbrev others : Strip
  others = strip_of q0 (enough - done) first.at first.remainder first.work

  all : ticking m a enough ≡ and_then first (strip_of q0 (enough - done))
  all =
      let sum : enough ≡ done + (enough - done) = omega arith in
      ap (ticking m a) sum ∙ strip_split q0 done (enough - done) m.at m.remainder m.work

  -- it ended the block
  ended : first.ended ≡ true → first.bytes ++ run_then left rest ≡ run_then m rest
  unfolding moved_of
  ended e =
      let same = all ∙ then_ended first (strip_of q0 (enough - done)) e in
      let s = still_idle left (sym (ap (λ (s : Strip). is_nothing s.work) same) ∙ ap is_nothing (to_end m a).idle) enough enough in
      rw (runs m a enough enough, s.0, s.1, same)

  -- or it did not, and then the run of what it leaves does the other ticks
  going : first.ended ≡ false → first.bytes ++ run_then left rest ≡ run_then m rest
  unfolding after moved_of
  going e =
      let whole = all ∙ then_going first (strip_of q0 (enough - done)) e in
      let over : others.ended ≡ true = sym (ap (λ (s : Strip). s.ended) whole) ∙ (to_end m a).ended in
      let sum : enough ≡ (enough - done) + done = omega arith in
      let same : strip_of q0 enough first.at first.remainder first.work ≡ others =
      ap (λ (k : ℕ). strip_of q0 k first.at first.remainder first.work) sum
      ∙ strip_split q0 (enough - done) done first.at first.remainder first.work
      ∙ then_ended others (strip_of q0 done) over in
      let still_works : AtWork left =
      record {
        sound = rw (runs m a enough buffer) at (run_keeps m a.sound enough buffer);
        free = a.free;
        busy = strip_busy q0 done m.at m.remainder m.work a.busy e;
      } in
      rw (runs m a enough enough, runs left still_works enough enough, same, whole) (sym (append_assoc first.bytes others.bytes _))

  work_pieces : (let x = run_of m enough buffer in x.bytes ++ run_then x.ran.bench rest ≡ run_then m rest)
  work_pieces = rw (runs m a enough buffer) (by first.ended refl)
    where
      by : (over : Bool) → first.ended ≡ over → first.bytes ++ run_then left rest ≡ run_then m rest
      by true e = ended e
      by false e = going e

-- ---- whatever the record is

pub pieces : (m : Bench) (buffer : ℕ) (rest : Bench → List ℕ)
    → (let x = run_of m enough buffer in x.bytes ++ run_then x.ran.bench rest ≡ run_then m rest)
pieces m buffer rest = by (works_of m) refl
  where
    by : (b : Bool) → works_of m ≡ b → (let x = run_of m enough buffer in x.bytes ++ run_then x.ran.bench rest ≡ run_then m rest)
    by true e = work_pieces m (works e) buffer rest
    by false e = rw ((still m e enough buffer).0, (still m e enough buffer).1)

-- a run that did no tick into a buffer with room has none to do
pub no_tick_lem : (m : Bench) (buffer : ℕ) → 1 ≤ buffer → (run_of m enough buffer).ran.ticks ≡ 0 → Still m
no_tick_lem m buffer room none = by (works_of m) refl
  where
    by : (b : Bool) → works_of m ≡ b → Still m
    by true e = absurd (omega (arith, some_tick m (works e) enough buffer (omega arith) room, ticks_are m enough buffer))
    by false e = still m e

pub run_fits : (m : Bench) (buffer : ℕ) → length (run_of m enough buffer).bytes ≤ buffer
run_fits m buffer = by (works_of m) refl
  where
    by : (b : Bool) → works_of m ≡ b → length (run_of m enough buffer).bytes ≤ buffer
    by true e =
        rw (runs m (works e) enough buffer) (omega
        (arith, strip_few (capacity_of m.settings) (min enough buffer) m.at m.remainder m.work))
    by false e = rw (still m e enough buffer).0 (omega arith)

pub nothing_left : (m : Bench) (rest : Bench → List ℕ) → Still m → run_then m rest ≡ rest m
nothing_left m rest s = rw ((s enough enough).0, (s enough enough).1)
