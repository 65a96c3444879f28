-- 01, Ticks and runs: what a run answers, the bytes that it writes, and the record that it hands back, for any record whatever. 02 §3:
-- "When a block ends, the first waiting one becomes the one in work, and a run still stops there."
use Rattle.std.specs.Prelude.{cond, List, [], ℕ, Result, Err}
use Rattle.question.specs.declared.Question.{Question}
use Rattle.bench.specs.declared.Report.{Report}
use Rattle.bench.specs.computed.Run.{Run as BenchRun, run_of as bench_run}
use Rattle.machine.specs.declared.Machine.{Machine}
use Rattle.machine.specs.declared.Ran.{Ran}
use Rattle.machine.specs.computed.Machine.{sound_of}
use Rattle.machine.specs.Calls.{next_of}

-- what a run answers, and its tick bytes
pub record Run : Type 0 where
  pub ran : Ran
  pub bytes : List ℕ

abbrev pub ran_on : Machine → BenchRun → Run
ran_on m r =
    record {
      ran = record { report = r.ran.report; ticks = r.ran.ticks; machine = next_of r.ran.bench m.queue };
      bytes = r.bytes;
    }

abbrev pub no_tick : Machine → Result Report Question → Run
no_tick m r = record { ran = record { report = r; ticks = 0; machine = m }; bytes = [] }

unfoldable pub run_of : Machine → (budget buffer : ℕ) → Run
run_of m budget buffer = cond (sound_of m) (ran_on m (bench_run m.bench budget buffer)) (no_tick m (Err Question.Sound))
