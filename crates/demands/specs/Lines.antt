-- Demand 2, lines: "The pulses of an accepted line are those of Koren's DDA with its register sized to the move and half filled."
use Rattle.std.specs.Prelude.{◌≡◌, false, ℕ, ◌+◌, ◌-◌, ◌*◌, ◌≤◌, ◌<◌, max, eqb, nat_abs, Ok}
use Rattle.whole.specs.Sign.{is_negative}
use Rattle.whole.specs.Width.{width_of}
use Rattle.plane.specs.declared.point.Point.{Point}
use Rattle.plane.specs.declared.pulse.Pulses.{Pulses}
use Rattle.plane.specs.Pulse.{code_of, shifted_of}
use Rattle.plane.specs.Byte.{cycle_byte}
use Rattle.circle.specs.Charge.{straight}
use Rattle.line.specs.declared.line.Line.{Line}
use Rattle.line.specs.Line.{increment_x, increment_y, line_cycles, line_of}
use Rattle.line.specs.Register.{pulses_of}
use Rattle.block.specs.declared.Block.{Block}
use Rattle.block.specs.declared.Path.{Path}
use Rattle.work.specs.declared.Work.{Work}
use Rattle.work.specs.Work.{following}
use Rattle.settings.specs.Settings.{capacity_of}
use Rattle.bench.specs.declared.Bench.{Bench}
use Rattle.bench.specs.declared.Answer.{Answer}
use Rattle.bench.specs.declared.Ticked.{Ticked as BenchTicked}
use Rattle.bench.specs.Bench.{moved_of}
use Rattle.machine.specs.declared.Machine.{Machine}
use Rattle.machine.specs.declared.Answered.{Answered}
use Rattle.machine.specs.declared.Ticked.{Ticked}
use Rattle.history.specs.CallContracts.{Loads, Ticks}
use Rattle.demands.specs.Asked.{AllYes}
use Rattle.demands.specs.Sound.{Sound}
use Rattle.demands.specs.Questions.{next_start, load_questions}
use Rattle.demands.specs.Taken.{Taken, TicksAs}

-- the pulses of cycle c + 1: each axis has a register of capacity q, half filled, to which each cycle adds the axis's increment
abbrev pub register_pulses : (start end : Point) (c : ℕ) → Pulses
register_pulses start end c =
    let q = line_cycles start end in
    record {
      x = code_of (pulses_of q (nat_abs (increment_x start end)) c) (is_negative (increment_x start end));
      y = code_of (pulses_of q (nat_abs (increment_y start end)) c) (is_negative (increment_y start end));
    }

-- with one cycle more
abbrev pub one_more : Line → Line
one_more l = record { start = l.start; end = l.end; feed = l.feed; cycles = l.cycles; done = l.done + 1 }

-- a working tick of a bench with a line in work. 02 §2: "Line cycles are charged 1,000.", whatever pulses they send
pub record LineTick (m : Bench) (l : Line) (r : BenchTicked) : Type 0 where
  -- 02 §2: "A tick adds 1,000 × f."
  pub waits : m.remainder + 1000 * l.feed < straight * capacity_of m.settings
      → r ≡ record { tick = Ok 0; bench = moved_of m m.at (m.remainder + 1000 * l.feed) (Work.Line l) }
  -- 02 §2: "A cycle is due when the remainder reaches its charge times q0": as 01 has it, that "is taken off and one cycle is done". The
  -- byte tells the registers' pulses, the cycle, and the end after q cycles.
  pub cycles : straight * capacity_of m.settings ≤ m.remainder + 1000 * l.feed
      → (let pulses = register_pulses l.start l.end l.done in
      let last = eqb (l.done + 1) (line_cycles l.start l.end) in
      let rest = m.remainder + 1000 * l.feed - straight * capacity_of m.settings in
      r ≡ record {
        tick = Ok (cycle_byte pulses last);
        bench = moved_of m (shifted_of m.at pulses) rest (following last (Work.Line (one_more l)));
      })

-- an accepted line
pub record LineLoaded (m : Machine) (b : Block) (r : Answered) : Type 0 where
  -- "Each load also answers the register width ..: the fewest bits that hold the larger of |a|, |b|"
  pub width : (let start = next_start m in
      r.answer ≡ Ok (Answer.Width (width_of (max (nat_abs (increment_x start b.end)) (nat_abs (increment_y start b.end))))))
  -- in work it has no cycle done
  pub taken : Taken m b (Work.Line (line_of (next_start m) b.end b.feed)) r.machine

pub record EveryLine : Type 0 where
  pub load : (m : Machine) (b : Block) (r : Answered) → Loads m b r → AllYes (load_questions m b) → b.path ≡ Path.Line
      → LineLoaded m b r
  pub tick : (m : Machine) (l : Line) (r : Ticked) → Ticks m r → Sound m → m.bench.work ≡ Work.Line l → m.bench.held ≡ false
      → TicksAs (LineTick m.bench l) m r
