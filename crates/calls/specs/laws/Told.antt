-- A call by whether the words are those of a sound record.
use Rattle.std.specs.Prelude.{◌≡◌, refl, Bool, List, ℕ, ◌-◌, ◌≤◌, ℤ, pos, negsuc, length, Result}
use Rattle.std.proofs.Math.Path.{ap}
use Rattle.std.proofs.Common.{◌∙◌}
use Rattle.std.proofs.Math.Bool.{true, false}
use Rattle.question.specs.declared.Question.{Question}
use Rattle.run.specs.computed.Run.{written}
use Rattle.block.specs.declared.Block.{Block}
use Rattle.bench.specs.declared.Bench.{Bench}
use Rattle.bench.specs.declared.Answer.{Answer}
use Rattle.bench.specs.declared.Ticked.{Ticked}
use Rattle.bench.specs.declared.Ran.{Ran}
use Rattle.bench.specs.computed.Bench.{sound_of}
use Rattle.bench.specs.computed.Calls.{tick_of as bench_tick}
use Rattle.bench.specs.computed.Run.{run_of as bench_run}
use Rattle.machine.specs.declared.Machine.{Machine}
use Rattle.machine.specs.Calls.{mark_of, next_of}
use Rattle.machine.specs.computed.Calls.{load_of, tick_of, hold_of, release_of, stop_of}
use Rattle.machine.specs.computed.Run.{run_of}
use Rattle.machine.specs.computed.Asked.{cycles_told}
use Rattle.machine.specs.laws.Right.{Sound, sound}
use Rattle.machine.specs.laws.Onward.{tick_onward, tick_left, run_onward, run_left}
use Rattle.machine.specs.laws.Next.{left_less}
use Rattle.encoding.specs.Words.{at, count_of}
use Rattle.record.specs.computed.Write.{idle_of}
use Rattle.record.specs.Words.{encode_of, over}
use Rattle.record.specs.computed.Words.{bench_in, machine_in, sound_words}
use Rattle.record.specs.computed.Write.{Later}
use Rattle.record.specs.laws.Write.{told_sound}
use Rattle.record.specs.laws.Later.{tick_later, run_later}
use Rattle.calls.specs.Calls.{answer_number, tick_number, report_number, WordCall}
use Rattle.calls.specs.computed.Calls.{tells, call_of, refused, told_of, tells_run}
use Rattle.calls.specs.computed.Calls.{told_run_of}
use Rattle.calls.specs.computed.Asked.{marks}

pub told_refused : (ws : List ℤ) → sound_words ws ≡ false → (call : WordCall) → refused ws ≡ told_of ws call
unfolding told_of
told_refused ws t call = rw t

pub run_refused : (ws : List ℤ) → sound_words ws ≡ false → (budget : ℕ) (out : List ℕ)
    → tells_run (negsuc 8) 0 ws out ≡ told_run_of ws budget out
unfolding told_run_of
run_refused ws t budget out = rw t

module _ (ws : List ℤ) (t : sound_words ws ≡ true) where
  pub told_call : (call : WordCall) → call_of ws (machine_in ws) call ≡ told_of ws call
  unfolding told_of
  told_call call = rw t

  pub mark_told : (held : Bool) → tells (pos 0) (over (encode_of (mark_of (machine_in ws) held)) ws) ≡ told_of ws (marks held)
  unfolding call_of hold_of release_of
  mark_told true = rw (told_sound ws t) at (told_call WordCall.hold)
  mark_told false = rw (told_sound ws t) at (told_call WordCall.release)

  pub stop_told : tells (pos 0) (over (encode_of (idle_of (machine_in ws))) ws) ≡ told_of ws WordCall.stop
  unfolding call_of stop_of machine_in
  stop_told = rw (told_sound ws t) at (told_call WordCall.stop)

  pub load_told : (b : Block) {answer : Result Answer Question} {after : List ℤ} → answer ≡ (load_of (machine_in ws) b).answer
      → after ≡ over (encode_of (load_of (machine_in ws) b).machine) ws → tells (answer_number answer) after ≡ told_of ws (WordCall.load b)
  unfolding call_of
  load_told b is stored = rw (is, stored) (told_call (WordCall.load b))

  -- ---- ticks: what the functions below ask, and what is told

  abbrev m : Machine
  m = machine_in ws

  parts : Sound m
  parts = sound m (told_sound ws t)

  pub bench_sound : {k : Bench} → k ≡ bench_in ws → sound_of k ≡ true
  unfolding machine_in
  bench_sound is = rw is parts.bench

  module _ {r : Ticked} (is : r ≡ bench_tick (bench_in ws)) {left : ℕ} (left_is : left ≡ count_of (at ws 20)) where
    pub tick_enough : cycles_told r.tick ≤ left
    unfolding machine_in
    tick_enough =
        rw left_is
        (left_less parts.right (tick_onward m.bench parts.bench is) (tick_left m.bench parts.bench is)).0

    pub tick_stores : {then : ℕ} → then ≡ left - cycles_told r.tick → Later ws r.bench then
    unfolding machine_in
    tick_stores e = tick_later ws t is (e ∙ ap (λ (n : ℕ). n - cycles_told r.tick) left_is)

  pub tick_told : {r : Ticked} → r ≡ bench_tick (bench_in ws)
      → tells (tick_number r.tick) (over (encode_of (next_of r.bench (machine_in ws).queue)) ws) ≡ told_of ws WordCall.tick
  unfolding call_of tick_of machine_in
  tick_told is = rw is (rw (told_sound ws t) at (told_call WordCall.tick))

  -- ---- runs

  module _ (budget buffer : ℕ) {r : Ran} (is : r ≡ (bench_run (bench_in ws) budget buffer).ran) {left : ℕ}
      (left_is : left ≡ count_of (at ws 20)) where
    pub run_enough : r.cycles ≤ left
    unfolding machine_in
    run_enough =
        let k = m.bench in
        rw left_is
        (left_less parts.right (run_onward k parts.bench budget buffer is) (run_left k parts.bench budget buffer is)).0

    pub run_stores : {then : ℕ} → then ≡ left - r.cycles → Later ws r.bench then
    unfolding machine_in
    run_stores e = run_later ws t budget buffer is (e ∙ ap (λ (n : ℕ). n - r.cycles) left_is)

  pub run_told : (budget : ℕ) (out : List ℕ) {r : Ran} → r ≡ (bench_run (bench_in ws) budget (length out)).ran → {after : List ℕ}
      → after ≡ written (bench_run (bench_in ws) budget (length out)).bytes out
      → tells_run (report_number r.report) r.ticks (over (encode_of (next_of r.bench (machine_in ws).queue)) ws) after
      ≡ told_run_of ws budget out
  unfolding told_run_of run_of machine_in
  run_told budget out is after = rw (after, is) (rw (t, told_sound ws t) refl)
