-- 02 §1, Where will it be?: tick calls so many times, what a look-ahead answers of them, and how it goes through the blocks that wait.
use Rattle.std.specs.Prelude.{cond, List, [], ℕ, zero, suc, leb, pos, ◌-ℤ◌, length, Ok, Err}
use Rattle.question.specs.declared.Question.{Question}
use Rattle.plane.specs.declared.point.Point.{Point}
use Rattle.plane.specs.Byte.{code_x, code_y}
use Rattle.run.specs.computed.Run.{strip_of}
use Rattle.settings.specs.Settings.{capacity_of}
use Rattle.bench.specs.declared.Answer.{Answer}
use Rattle.bench.specs.Bench.{moved_of}
use Rattle.ahead.specs.computed.Ahead.{in_front}
use Rattle.book.specs.Sums.{pulses_in}
use Rattle.machine.specs.declared.Machine.{Machine}
use Rattle.machine.specs.computed.Machine.{sound_of}
use Rattle.machine.specs.Calls.{next_of}
use Rattle.machine.specs.computed.Calls.{tick_of}
use Rattle.look.specs.declared.Sums.{Sums}
use Rattle.look.specs.declared.Ahead.{Ahead}
use Rattle.look.specs.declared.Passed.{Passed}
use Rattle.look.specs.Look.{most_ticks}

-- "the same ticks": tick calls one after the other, their bytes, and the record that the last hands back
pub record Ticking : Type 0 where
  pub bytes : List ℕ
  pub machine : Machine

unfoldable pub ticking_of : (n : ℕ) → Machine → Ticking
ticking_of zero m = record { bytes = []; machine = m }
ticking_of (suc n) m =
    let t = tick_of m in
    let rest = ticking_of n t.machine in
    record { bytes = in_front t.tick rest.bytes; machine = rest.machine }

-- "the signed pulse sum per axis"; 01: "Pulses sent are their codes, 1 as plus one and 2 as minus one"
abbrev pub sums_of : (bytes : List ℕ) → Sums
sums_of bytes = record { x = pulses_in code_x bytes; y = pulses_in code_y bytes }

-- "The machine itself comes back unchanged."
abbrev pub looked : Machine → Ticking → Ahead
looked m t = record { answer = Ok Answer.Done; then = t.machine; sums = sums_of t.bytes; machine = m }

-- "A refusal gives the machine's own record and sums of 0."
abbrev pub refusing : Machine → Question → Ahead
refusing m q = record { answer = Err q; then = m; sums = record { x = pos 0; y = pos 0 }; machine = m }

unfoldable pub ahead_of : Machine → (ticks : ℕ) → Ahead
ahead_of m n = cond (sound_of m) (cond (leb n most_ticks) (looked m (ticking_of n m)) (refusing m Question.LookLength))
    (refusing m Question.Sound)

-- ---- inner functions' answers

-- at most so many working ticks of one block, and what comes into work after them
unfoldable pub pass_of : Machine → (ticks : ℕ) → Passed
pass_of m n =
    let k = m.bench in
    let s = strip_of (capacity_of k.settings) n k.at k.remainder k.work in
    record { machine = next_of (moved_of k s.at s.remainder s.work) m.queue; ticks = length s.bytes }

abbrev pub way_of : (from to : Point) → Sums
way_of from to = record { x = to.x -ℤ from.x; y = to.y -ℤ from.y }
