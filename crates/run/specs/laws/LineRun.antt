-- A run along a line: what the line's stepper gives is the cycle that the run needs.
use Rattle.std.specs.Prelude.{◌≡◌, Bool, true, false, List, ℕ, ◌+◌, ◌-◌, ◌*◌, ◌^◌, ◌≤◌, ◌<◌, eqb, set}
use Rattle.std.proofs.Math.Path.{refl, ap}
use Rattle.std.proofs.Common.{◌∙◌, arith}
use Rattle.plane.specs.declared.point.Point.{Point}
use Rattle.plane.specs.declared.pulse.Pulses.{Pulses}
use Rattle.plane.specs.Byte.{cycle_byte}
use Rattle.line.specs.declared.line.Line.{Line}
use Rattle.line.specs.declared.stepper.Stepper.{Stepper}
use Rattle.line.specs.declared.stepper.Advanced.{Advanced}
use Rattle.line.specs.Line.{line_point}
use Rattle.line.specs.computed.Line.{drawn_of, stepped_of}
use Rattle.line.specs.computed.Stepper.{stepper_of, advanced_of, Fitting}
use Rattle.line.specs.laws.Stepper.{advance_next, stepper_fits}
use Rattle.line.specs.laws.Work.{LineAt, line_at_lem, drawn_test, axis_x}
use Rattle.work.specs.declared.Work.{Work}
use Rattle.work.specs.declared.Cycle.{Cycle}
use Rattle.work.specs.Work.{is_nothing, following}
use Rattle.work.specs.computed.Work.{line_cycle, cycle_of}
use Rattle.work.specs.computed.Work.{cycle_with}
use Rattle.work.specs.laws.Cycle.{line_cycle_lem, line_codes}
use Rattle.run.specs.declared.gap.Gap.{Gap}
use Rattle.run.specs.computed.Run.{Strip}
use Rattle.run.specs.computed.Gap.{next_gap, cleared_of}
use Rattle.run.specs.laws.Going.{Answer}
use Rattle.run.specs.laws.Sound.{run_ready}
use Rattle.run.specs.laws.Cycling.{Cycling, goes_on, ends_now, cycling_on, cycling_end}

-- the line with c cycles done, and its point then
abbrev pub line_after : Line → (c : ℕ) → Line
line_after l c = record { start = l.start; end = l.end; feed = l.feed; cycles = l.cycles; done = c }

abbrev pub point_after : Line → (c : ℕ) → Point
point_after l c = line_point l.start l.end c

-- a cycle's line is done where nothing is in work after it
line_ended : (l : Line) {b : Bool} → is_nothing (line_cycle l).work ≡ b → eqb (l.done + 1) l.cycles ≡ b
unfolding line_cycle
line_ended l e = by (eqb (l.done + 1) l.cycles) ∙ e
  where
    by : (t : Bool) → t ≡ is_nothing (following t (Work.Line (stepped_of l).line))
    by true = refl
    by false = refl

module _ {q0 most : ℕ} {all : Strip} {out₀ out : List ℕ} {last n from : ℕ} (l : Line) (c : ℕ) {g : Gap}
    (s : Cycling q0 l.feed most all out₀ out last n from c (point_after l c) (Work.Line (line_after l c)) g) where
  in_line : LineAt (line_after l c) (point_after l c)
  in_line = line_at_lem (run_ready s.work).0

  pub line_drawn : drawn_of (line_after l c) ≡ true
  line_drawn = drawn_test in_line.drawing

  pub line_more : c + 1 < 2 ^ 64
  line_more = let x = axis_x (line_after l c) in_line.drawing in omega (arith, x.due, x.wide)

  module _ {stepper : Stepper} (is : stepper ≡ stepper_of (line_after l c)) where
    pub line_asks_lem : Fitting stepper
    line_asks_lem = rw is (stepper_fits (line_after l c) in_line.drawing)

    module _ {a : Advanced} (e : a ≡ advanced_of stepper) where
      next_is : a ≡ record { stepper = stepper_of (stepped_of (line_after l c)).line; pulses = (stepped_of (line_after l c)).pulses }
      next_is = e ∙ ap advanced_of is ∙ advance_next (line_after l c) in_line.drawing

      pulses_are : a.pulses ≡ (stepped_of (line_after l c)).pulses
      pulses_are = ap (λ (x : Advanced). x.pulses) next_is

      pub line_small : (a.pulses.x ≤ 2) × (a.pulses.y ≤ 2)
      line_small = rw pulses_are (line_codes (line_after l c) refl)

      -- the cycle with the byte that the code writes
      cycle_is : {byte : ℕ} {ended : Bool} → is_nothing (cycle_of (point_after l c) (Work.Line (line_after l c))).work ≡ ended
          → byte ≡ cycle_byte a.pulses ended
          → cycle_with (stepped_of (line_after l c)).at byte ended (Work.Line (stepped_of (line_after l c)).line)
          ≡ cycle_of (point_after l c) (Work.Line (line_after l c))
      unfolding cycle_of stepped_of
      cycle_is {ended = ended} end byte =
          line_cycle_lem (line_after l c) refl (line_ended (line_after l c) end) (byte ∙ ap (λ (p : Pulses). cycle_byte p ended) pulses_are)

      pub line_on_lem : g.ticks < last → {byte : ℕ} → byte ≡ cycle_byte a.pulses false
          → {next : Gap} → next ≡ next_gap (1000 * q0) (1000 * l.feed) g
          → Cycling q0 l.feed most all out₀ (set out g.ticks byte) last n from (c + 1) (point_after l (c + 1))
          (Work.Line (line_after l (c + 1))) next × (a.stepper ≡ stepper_of (line_after l (c + 1)))
      unfolding stepped_of
      line_on_lem h byte gap = (cycling_on s h (cycle_is (goes_on s h) byte) gap, ap (λ (x : Advanced). x.stepper) next_is)

      pub line_end : last < n → last ≤ g.ticks → {byte : ℕ} → byte ≡ cycle_byte a.pulses true → {old : List ℕ} → out₀ ≡ cleared_of n old
          → Answer all old (set out last byte)
          (record { ticks = n; cycles = c + 1 - from; ended = true; at = l.end; remainder = g.remainder; work = Work.Nothing })
      line_end m h byte clear = cycling_end s m h (ap (λ (x : Cycle). x.byte) (cycle_is (ends_now s m h) byte)) clear
