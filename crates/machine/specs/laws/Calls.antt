-- A call's answer by what the code has found out: refused, accepted, or as the bench answers.
use Rattle.std.specs.Prelude.{◌≡◌, refl, Bool, true, false, List, ℕ, length, Ok, Err, ⊤, Result}
use Rattle.std.proofs.Common.{sym, ap, ◌∙◌}
use Rattle.question.specs.declared.Question.{Question}
use Rattle.question.specs.laws.Ask.{passed}
use Rattle.block.specs.declared.Block.{Block}
use Rattle.run.specs.computed.Run.{written}
use Rattle.settings.specs.declared.Settings.{Settings}
use Rattle.settings.specs.computed.Settings.{settings_no, ask_settings}
use Rattle.settings.specs.Settings.{standard_settings}
use Rattle.bench.specs.declared.Answer.{Answer}
use Rattle.bench.specs.declared.Ran.{Ran as BenchRan}
use Rattle.bench.specs.Bench.{marked_of}
use Rattle.bench.specs.computed.Run.{run_of as bench_run}
use Rattle.machine.specs.declared.Machine.{Machine}
use Rattle.machine.specs.declared.Answered.{Answered}
use Rattle.machine.specs.declared.Ran.{Ran}
use Rattle.machine.specs.computed.Machine.{sound_of}
use Rattle.machine.specs.Machine.{fresh_of}
use Rattle.machine.specs.Calls.{answers, next_of, mark_of}
use Rattle.machine.specs.computed.Calls.{if_sound, make_with, make_of, load_with}
use Rattle.machine.specs.computed.Run.{no_tick, run_of}
use Rattle.machine.specs.laws.Right.{sound, marked_record}

pub make_refused : (s : Settings) {q : Question} → Err q ≡ ask_settings s → answers (Err q) (fresh_of standard_settings) ≡ make_of s
unfolding make_of
make_refused s e = rw (← e) refl

pub make_done : (s : Settings) {n : ℕ} → n ≡ settings_no s → n ≡ 0 → answers (Ok Answer.Done) (fresh_of s) ≡ make_of s
unfolding make_of
make_done s e none = rw (passed (ask_settings s) (sym e ∙ none)) refl

pub load_refused : (m : Machine) (b : Block) (r : Result ⊤ Question) {q : Question} → r ≡ Err q → answers (Err q) m ≡ load_with m b r
load_refused m b r e = rw e refl

pub marked_done : (m : Machine) (mark : Bool) → sound_of m ≡ true
    → ◌≡◌ {A = Answered}
    (answers (Ok Answer.Done) (record { bench = marked_of m.bench mark; root = m.root; left = m.left; queue = m.queue }))
    (if_sound m (answers (Ok Answer.Done) (mark_of m mark)))
marked_done m mark e = rw e (ap (answers (Ok Answer.Done)) (marked_record m mark (sound m e)))

-- ---- a run

module _ (m : Machine) (budget : ℕ) (out : List ℕ) where
  -- what a run promises of its answer and of its buffer
  abbrev pub Done : Ran → (buffer : List ℕ) → Type 0
  Done r buffer = (r ≡ (run_of m budget (length out)).ran) × (buffer ≡ written (run_of m budget (length out)).bytes out)

  pub run_refused : sound_of m ≡ false → Done (no_tick m (Err Question.Sound)).ran out
  unfolding run_of written
  run_refused unsound = rw unsound (refl, refl)

  -- the bench's run, and what comes into work after it
  pub run_goes_on : sound_of m ≡ true → {r : BenchRan} {next : Machine} {after : List ℕ}
      → r ≡ (bench_run m.bench budget (length out)).ran → next ≡ next_of r.bench m.queue
      → after ≡ written (bench_run m.bench budget (length out)).bytes out
      → Done (record { report = r.report; ticks = r.ticks; machine = next }) after
  unfolding run_of
  run_goes_on sound ran next buffer = rw (sound, next, buffer, ran) (refl, refl)
