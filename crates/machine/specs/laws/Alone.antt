-- A machine in which none waits: where each block is loaded once the one before has ended, as in a check, it answers what the bench alone
-- answers, and has the bench that this has. So 02 §3 changes nothing there.
use Rattle.std.specs.Prelude.{◌≡◌, Bool, ◌&&◌, Err, Result, ⊤, Ok}
use Rattle.std.proofs.Math.Path.{refl, ap}
use Rattle.std.proofs.Common.{◌∙◌}
use Rattle.std.proofs.Math.Bool.{true, false, cond}
use Prim.Native.Nat.{ℕ, zero, suc}
use Rattle.question.specs.declared.Question.{Question}
use Rattle.block.specs.declared.Block.{Block}
use Rattle.block.specs.Questions.{ask_load}
use Rattle.block.specs.Chain.{chain_end}
use Rattle.queue.specs.Queue.{empty_queue}
use Rattle.queue.specs.laws.Sound.{empty_sound}
use Rattle.work.specs.Work.{is_nothing, end_of}
use Rattle.work.specs.laws.Left.{nothing_is}
use Rattle.settings.specs.Settings.{capacity_of}
use Rattle.bench.specs.declared.Bench.{Bench}
use Rattle.bench.specs.declared.Answered.{Answered as BenchAnswered}
use Rattle.bench.specs.computed.Bench.{sound_of as bench_sound}
use Rattle.bench.specs.computed.Calls.{load_with as bench_load_with, load_of as bench_load, tick_of as bench_tick}
use Rattle.bench.specs.computed.Run.{Run as BenchRun, no_tick as bench_no_tick, run_of as bench_run}
use Rattle.machine.specs.declared.Machine.{Machine}
use Rattle.machine.specs.declared.Answered.{Answered}
use Rattle.machine.specs.computed.Machine.{waiting_right, sound_of}
use Rattle.machine.specs.Machine.{machine_of, start_of}
use Rattle.machine.specs.Calls.{answers, next_of, ticks}
use Rattle.machine.specs.computed.Calls.{load_with, load_of, tick_of}
use Rattle.machine.specs.computed.Run.{Run, no_tick, run_of}
use Rattle.machine.specs.laws.Right.{waiting_test}

abbrev pub alone : Bench → Machine
alone k = machine_of k empty_queue

-- it is sound where its bench is
module _ (k : Bench) where
  nothing_waits : waiting_right (capacity_of k.settings) k.settings.travel k.at k.work (alone k).root (alone k).left
      empty_queue ≡ true
  unfolding machine_of empty_queue
  nothing_waits =
      waiting_test _ _ _ _ _ _ _
      (record { root_is = refl; none = λ idle. refl; queue = empty_sound _ _ _; left_is = refl })

  pub alone_sound : sound_of (alone k) ≡ bench_sound k
  unfolding machine_of
  alone_sound = by (bench_sound k) nothing_waits
    where
      by : (b : Bool) {w : Bool} → w ≡ true → (b && w) ≡ b
      by true e = e
      by false e = refl

-- after ticks none comes into work
pub next_alone : (k : Bench) → next_of k empty_queue ≡ alone k
unfolding next_of empty_queue
next_alone k = by (is_nothing k.work)
  where
    by : (idle : Bool) → cond idle (machine_of k empty_queue) (machine_of k empty_queue) ≡ alone k
    by true = refl
    by false = refl

-- ---- a load with nothing in work, a tick, a run

abbrev joined_with : BenchAnswered → Answered
joined_with a = answers a.answer (alone a.bench)

module _ (k : Bench) (b : Block) (idle : is_nothing k.work ≡ true) where
  at_point : start_of k empty_queue ≡ k.at
  unfolding chain_end empty_queue
  at_point = ap (end_of k.at) (nothing_is k.work idle)

  by_asked : (r : Result ⊤ Question) → load_with (alone k) b r ≡ joined_with (bench_load_with k b r)
  unfolding machine_of
  by_asked (Ok passed) = rw (idle, at_point) refl
  by_asked (Err q) = refl

  same_asked :
      ask_load (capacity_of k.settings) k.settings.travel true (start_of k empty_queue) b
      ≡ ask_load (capacity_of k.settings) k.settings.travel (is_nothing k.work) k.at b
  same_asked = rw (at_point, idle) refl

  pub load_alone : load_of (alone k) b ≡ joined_with (bench_load k b)
  unfolding load_of bench_load machine_of empty_queue
  load_alone =
      ap (λ (s : Bool). cond s (load_with (alone k) b asked) (answers (Err Question.Sound) (alone k))) (alone_sound k) ∙ by (bench_sound k)
    where
      asked : Result ⊤ Question
      asked = ask_load (capacity_of k.settings) k.settings.travel true (start_of k empty_queue) b

      same : load_with (alone k) b asked
          ≡ joined_with (bench_load_with k b (ask_load (capacity_of k.settings) k.settings.travel (is_nothing k.work) k.at b))
      same = by_asked asked ∙ ap (λ (r : Result ⊤ Question). joined_with (bench_load_with k b r)) same_asked

      by : (s : Bool)
          → cond s (load_with (alone k) b asked) (answers (Err Question.Sound) (alone k))
          ≡ joined_with
          (cond s (bench_load_with k b (ask_load (capacity_of k.settings) k.settings.travel (is_nothing k.work) k.at b))
          (record { answer = Err Question.Sound; bench = k }))
      by true = same
      by false = refl

tick_refused : (k : Bench) → bench_sound k ≡ false → bench_tick k ≡ record { tick = Err Question.Sound; bench = k }
unfolding bench_tick
tick_refused k e = rw e refl

pub tick_alone : (k : Bench) → tick_of (alone k) ≡ ticks (bench_tick k).tick (alone (bench_tick k).bench)
unfolding tick_of machine_of
tick_alone k =
    ap (λ (s : Bool). cond s (ticks (bench_tick k).tick (next_of (bench_tick k).bench empty_queue)) (ticks (Err Question.Sound) (alone k)))
    (alone_sound k)
    ∙ by (bench_sound k) refl
  where
    by : (s : Bool) → bench_sound k ≡ s
        → cond s (ticks (bench_tick k).tick (next_of (bench_tick k).bench empty_queue)) (ticks (Err Question.Sound) (alone k))
        ≡ ticks (bench_tick k).tick (alone (bench_tick k).bench)
    by true e = ap (ticks (bench_tick k).tick) (next_alone (bench_tick k).bench)
    by false e = rw (tick_refused k e) refl

abbrev ran_with : BenchRun → Machine → Run
ran_with r m = record { ran = record { report = r.ran.report; ticks = r.ran.ticks; machine = m }; bytes = r.bytes }

run_refused : (k : Bench) (budget buffer : ℕ) → bench_sound k ≡ false → bench_run k budget buffer ≡ bench_no_tick k (Err Question.Sound)
unfolding bench_run
run_refused k budget buffer e = rw e refl

pub run_alone : (k : Bench) (budget buffer : ℕ)
    → let r = bench_run k budget buffer in run_of (alone k) budget buffer ≡ ran_with r (alone r.ran.bench)
unfolding run_of machine_of
run_alone k budget buffer =
    ap (λ (s : Bool). cond s (ran_with r (next_of r.ran.bench empty_queue)) (no_tick (alone k) (Err Question.Sound))) (alone_sound k)
    ∙ by (bench_sound k) refl
  where
    r : BenchRun
    r = bench_run k budget buffer

    by : (s : Bool) → bench_sound k ≡ s
        → cond s (ran_with r (next_of r.ran.bench empty_queue)) (no_tick (alone k) (Err Question.Sound)) ≡ ran_with r (alone r.ran.bench)
    by true e = ap (ran_with r) (next_alone r.ran.bench)
    by false e = rw (run_refused k budget buffer e) refl
