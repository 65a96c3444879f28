-- The record after a call, which is sound where the one before it was, and whose words tell it: so a caller may hand them to the next call.
use Rattle.std.specs.Prelude.{◌≡◌, Bool, ℕ, zero, suc, ltb, Result, Ok, Err, ⊤}
use Rattle.std.proofs.Math.Path.{refl}
use Rattle.std.proofs.Math.Bool.{true, false}
use Rattle.std.proofs.Common.{ap}
use Rattle.question.specs.Question.{number_told}
use Rattle.question.specs.declared.Question.{Question}
use Rattle.block.specs.declared.Block.{Block}
use Rattle.block.specs.Questions.{ask_load}
use Rattle.queue.specs.Queue.{empty_queue}
use Rattle.work.specs.Work.{is_nothing, begun_of}
use Rattle.settings.specs.Settings.{capacity_of}
use Rattle.bench.specs.computed.Calls.{tick_of as bench_tick}
use Rattle.machine.specs.declared.Machine.{Machine}
use Rattle.machine.specs.computed.Machine.{sound_of}
use Rattle.machine.specs.Machine.{machine_of, start_of}
use Rattle.machine.specs.computed.Calls.{takes, load_with, load_of, tick_of, hold_of, release_of, stop_of}
use Rattle.machine.specs.laws.Right.{Sound, sound}
use Rattle.machine.specs.laws.Load.{room_left}
use Rattle.machine.specs.laws.Keeps.{load_keeps, tick_keeps, hold_keeps, release_keeps, stop_keeps}
use Rattle.record.specs.laws.Again.{Blanks, next_blanks, push_blanks}
use Rattle.calls.specs.Calls.{WordCall}

-- the machine after a call
abbrev pub machine_after : Machine → WordCall → Machine
machine_after m (WordCall.load b) = (load_of m b).machine
machine_after m WordCall.tick = (tick_of m).machine
machine_after m WordCall.hold = (hold_of m).machine
machine_after m WordCall.release = (release_of m).machine
machine_after m WordCall.stop = (stop_of m).machine

pub keeps : (m : Machine) (call : WordCall) → sound_of m ≡ true → sound_of (machine_after m call) ≡ true
keeps m (WordCall.load b) e = load_keeps m e b
keeps m WordCall.tick e = tick_keeps m e
keeps m WordCall.hold e = hold_keeps m e
keeps m WordCall.release e = release_keeps m e
keeps m WordCall.stop e = stop_keeps m e

-- ---- places that none waits in stay blank

module _ (m : Machine) (e : sound_of m ≡ true) (rest : Blanks m.queue) where
  parts : Sound m
  parts = sound m e

  abbrev asked : Block → Result ⊤ Question
  asked b =
      let s = m.bench.settings in ask_load (capacity_of s) s.travel (ltb m.queue.len 16) (start_of m.bench m.queue) b

  load_blanks : (b : Block) → Blanks (load_of m b).machine.queue
  unfolding load_of machine_of
  load_blanks b = rw e (by (asked b) refl)
    where
      taken : asked b ≡ Ok tt → (idle : Bool) → Blanks (takes m b idle (begun_of (start_of m.bench m.queue) b)).queue
      taken none true = rest
      taken none false =
          push_blanks m.queue _ (room_left {m = m} (record { sound = e; start_is = refl; asked = ap number_told none })) rest

      by : (r : Result ⊤ Question) → asked b ≡ r → Blanks (load_with m b r).machine.queue
      by (Ok passed) none = taken none (is_nothing m.bench.work)
      by (Err q) some = rest

  tick_blanks : Blanks (tick_of m).machine.queue
  unfolding tick_of
  tick_blanks =
      let q = parts.right.queue in rw e (next_blanks (bench_tick m.bench).bench m.queue q.sixteen q.most rest)

  hold_blanks : Blanks (hold_of m).machine.queue
  unfolding hold_of machine_of
  hold_blanks = rw e rest

  release_blanks : Blanks (release_of m).machine.queue
  unfolding release_of machine_of
  release_blanks = rw e rest

  stop_blanks : Blanks (stop_of m).machine.queue
  unfolding stop_of machine_of empty_queue
  stop_blanks = rw e refl

  pub blanks_kept : (call : WordCall) → Blanks (machine_after m call).queue
  blanks_kept (WordCall.load b) = load_blanks b
  blanks_kept WordCall.tick = tick_blanks
  blanks_kept WordCall.hold = hold_blanks
  blanks_kept WordCall.release = release_blanks
  blanks_kept WordCall.stop = stop_blanks
