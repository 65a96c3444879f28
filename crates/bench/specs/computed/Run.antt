-- 01, Ticks and runs: what a run answers, the bytes that it writes, and the record that it hands back, for any record whatever.
use Rattle.std.specs.Prelude.{Bool, true, false, cond, List, [], ℕ, min, leb, length, Result, Ok, Err}
use Rattle.question.specs.declared.Question.{Question}
use Rattle.plane.specs.Byte.{cycles_marked}
use Rattle.work.specs.Work.{is_nothing}
use Rattle.run.specs.computed.Run.{Strip, strip_of}
use Rattle.bench.specs.declared.Bench.{Bench}
use Rattle.bench.specs.declared.Report.{Report}
use Rattle.bench.specs.declared.Ran.{Ran}
use Rattle.settings.specs.Settings.{capacity_of}
use Rattle.bench.specs.computed.Bench.{sound_of}
use Rattle.bench.specs.Bench.{moved_of}

-- what a run answers, and its tick bytes
pub record Run : Type 0 where
  pub ran : Ran
  pub bytes : List ℕ

-- "else ended, spent or full, the first that is true"
abbrev pub report_of : (block_ended budget_used : Bool) → Report
report_of true budget_used = Report.Ended
report_of false true = Report.Spent
report_of false false = Report.Full

abbrev pub ran_over : Bench → (budget : ℕ) → Strip → Run
ran_over m budget s =
    record {
      ran = record {
        report = Ok (report_of s.ended (leb budget (length s.bytes)));
        ticks = length s.bytes;
        cycles = cycles_marked s.bytes;
        bench = moved_of m s.at s.remainder s.work;
      };
      bytes = s.bytes;
    }

abbrev pub no_tick : Bench → Result Report Question → Run
no_tick m r = record { ran = record { report = r; ticks = 0; cycles = 0; bench = m }; bytes = [] }

-- "It answers idle or held (idle first) with 0 ticks"
unfoldable pub run_of : Bench → (budget buffer : ℕ) → Run
run_of m budget buffer =
    cond (sound_of m)
    (cond (is_nothing m.work) (no_tick m (Ok Report.Idle))
    (cond m.held (no_tick m (Ok Report.Held))
    (ran_over m budget (strip_of (capacity_of m.settings) (min budget buffer) m.at m.remainder m.work))))
    (no_tick m (Err Question.Sound))
