-- What each call answers in C and the words after it, for any words whatever.
use Rattle.std.specs.Prelude.{cond, List, ℕ, ℤ, negsuc, length}
use Rattle.run.specs.computed.Run.{written}
use Rattle.settings.specs.declared.Settings.{Settings}
use Rattle.bench.specs.computed.Calls.{make_of as bench_make}
use Rattle.machine.specs.declared.Machine.{Machine}
use Rattle.machine.specs.declared.Answered.{Answered}
use Rattle.machine.specs.declared.Ticked.{Ticked}
use Rattle.machine.specs.computed.Calls.{make_of, load_of, tick_of, hold_of, release_of, stop_of}
use Rattle.machine.specs.computed.Run.{Run, run_of}
use Rattle.encoding.specs.Words.{encode_of as bench_words}
use Rattle.record.specs.Words.{encode_of, over}
use Rattle.record.specs.computed.Words.{machine_in, sound_words}
use Rattle.calls.specs.Calls.{answer_number, tick_number, report_number, WordCall}

-- ---- a call on a record

-- what a call answers, and the words after it
pub record Told : Type 0 where
  pub answer : ℤ
  pub words : List ℤ

abbrev pub tells : (answer : ℤ) (words : List ℤ) → Told
tells n ws = record { answer = n; words = ws }

-- the record's words go to the front of the caller's; those behind them stay
abbrev pub told : (before : List ℤ) → ℤ → Machine → Told
told ws n m = tells n (over (encode_of m) ws)

abbrev pub told_answer : (before : List ℤ) → Answered → Told
told_answer ws a = told ws (answer_number a.answer) a.machine

abbrev pub told_tick : (before : List ℤ) → Ticked → Told
told_tick ws t = told ws (tick_number t.tick) t.machine

-- a refused load hands the record back as it was, and so its words
unfoldable pub call_of : (before : List ℤ) → Machine → WordCall → Told
call_of ws m (WordCall.load b) = told_answer ws (load_of m b)
call_of ws m WordCall.tick = told_tick ws (tick_of m)
call_of ws m WordCall.hold = told_answer ws (hold_of m)
call_of ws m WordCall.release = told_answer ws (release_of m)
call_of ws m WordCall.stop = told_answer ws (stop_of m)

abbrev pub refused : List ℤ → Told
refused ws = tells (negsuc 8) ws

-- On the words of a sound record each call is the machine's own; all others get 9 and stay as they are.
unfoldable pub told_of : List ℤ → WordCall → Told
told_of ws call = cond (sound_words ws) (call_of ws (machine_in ws) call) (refused ws)

-- ---- make

-- whatever the words were
unfoldable pub made_of : List ℤ → Settings → Told
made_of ws s = told_answer ws (make_of s)

-- where a check begins: settings are answered as by a make, and the words are those of its fresh bench
abbrev pub bench_made : Settings → Told
bench_made s = tells (answer_number (bench_make s).answer) (bench_words (bench_make s).bench)

-- ---- run

-- the report, the number of ticks, the words and the buffer after it
pub record ToldRun : Type 0 where
  pub answer : ℤ
  pub ticks : ℕ
  pub words : List ℤ
  pub buffer : List ℕ

abbrev pub tells_run : (answer : ℤ) (ticks : ℕ) (words : List ℤ) (buffer : List ℕ) → ToldRun
tells_run n ticks ws out = record { answer = n; ticks = ticks; words = ws; buffer = out }

-- the tick bytes go to the front of the buffer
abbrev pub ran : (before : List ℤ) → Run → (out : List ℕ) → ToldRun
ran ws r out =
    tells_run (report_number r.ran.report) r.ran.ticks (over (encode_of r.ran.machine) ws) (written r.bytes out)

unfoldable pub told_run_of : List ℤ → (budget : ℕ) (out : List ℕ) → ToldRun
told_run_of ws budget out = cond (sound_words ws) (ran ws (run_of (machine_in ws) budget (length out)) out) (tells_run (negsuc 8) 0 ws out)
