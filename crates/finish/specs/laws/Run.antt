-- Finishing is a run that is allowed its ticks: the same record, ticks and cycles.
use Rattle.std.specs.Prelude.{◌≡◌, true, ℕ, ◌+◌, ◌-◌, ◌*◌, ◌≤◌, min, Ok}
use Rattle.std.proofs.Common.{ap, subst, arith}
use Rattle.plane.specs.Byte.{cycles_marked}
use Rattle.work.specs.Work.{added_of, cycles_left, charges_left}
use Rattle.run.specs.computed.Run.{Strip, strip_of}
use Rattle.bench.specs.declared.Bench.{Bench}
use Rattle.bench.specs.declared.Report.{Report}
use Rattle.bench.specs.declared.Ran.{Ran}
use Rattle.bench.specs.computed.Bench.{sound_of}
use Rattle.bench.specs.Bench.{moved_of}
use Rattle.settings.specs.Settings.{capacity_of}
use Rattle.bench.specs.computed.Run.{ran_over, run_of}
use Rattle.invariant.specs.laws.Calls.{run_keeps}
use Rattle.finish.specs.declared.Finished.{Finished}
use Rattle.finish.specs.computed.Finish.{last_tick_of, finish_of}
use Rattle.run.specs.laws.Keep.{ran_left}
use Rattle.run.specs.laws.Strip.{Ended, strip_ends, end_tick_lem}
use Rattle.finish.specs.laws.Record.{AtWork, AtRest, at_work, finishes}

module _ (m : Bench) (a : AtWork m) (budget buffer : ℕ) (long : (finish_of m).ticks ≤ budget) (room : (finish_of m).ticks ≤ buffer) where
  abbrev ticking : Strip
  ticking = strip_of (capacity_of m.settings) (min budget buffer) m.at m.remainder m.work

  runs : run_of m budget buffer ≡ ran_over m budget ticking
  unfolding run_of
  runs = rw (a.sound, a.busy, a.free)

  strip_ended : Ended (capacity_of m.settings) m.at m.remainder m.work (last_tick_of m) ticking
  strip_ended =
      let t : (finish_of m).ticks ≡ last_tick_of m = ap (λ (f : Finished). f.ticks) (finishes m a) in
      strip_ends (min budget buffer) (last_tick_of m) (at_work a) (end_tick_lem (at_work a)) (omega arith)

  all_marked : cycles_marked ticking.bytes ≡ cycles_left m.at m.work
  all_marked = omega (arith, ran_left (at_work a) (min budget buffer), ap (cycles_left ticking.at) strip_ended.idle)

  pub finish_is_run : (run_of m budget buffer).ran
      ≡ record { report = Ok Report.Ended; ticks = (finish_of m).ticks; cycles = (finish_of m).cycles; bench = (finish_of m).bench }
  finish_is_run =
      let e = strip_ended in
      let due = charges_left m.at m.work * capacity_of m.settings in
      let rest : ticking.remainder ≡ m.remainder + last_tick_of m * added_of m.work - due = omega (arith, e.adds_up) in
      rw (runs, finishes m a, all_marked, e.ended, e.ticks, e.reached, rest, e.idle)

  pub finish_counts : cycles_marked (run_of m budget buffer).bytes ≡ (finish_of m).cycles
  finish_counts = rw (runs, finishes m a) all_marked

-- so the record that it leaves is at rest, as a run's is
pub finish_keeps_sound : (m : Bench) → AtWork m → AtRest (finish_of m).bench
unfolding moved_of
finish_keeps_sound m a =
    let t = (finish_of m).ticks in
    record {
      sound = subst (λ (r : Ran). sound_of r.bench ≡ true) (finish_is_run m a t t (omega arith) (omega arith))
          (run_keeps m a.sound t t);
      free = rw (finishes m a) a.free;
      idle = rw (finishes m a);
    }
