-- The stepper: a line's registers carried from cycle to cycle. `laws/Stepper.antt` proves that it computes the step.
use Rattle.std.specs.Prelude.{Bool, true, cond, ℕ, ◌+◌, ◌-◌, ◌^◌, ◌≤◌, ◌<◌, leb, nat_abs}
use Rattle.whole.specs.Sign.{is_negative}
use Rattle.plane.specs.Pulse.{code_of}
use Rattle.line.specs.declared.line.Line.{Line}
use Rattle.line.specs.declared.stepper.Track.{Track}
use Rattle.line.specs.declared.stepper.Tracked.{Tracked}
use Rattle.line.specs.declared.stepper.Stepper.{Stepper}
use Rattle.line.specs.declared.stepper.Advanced.{Advanced}
use Rattle.line.specs.Line.{increment_x, increment_y}
use Rattle.line.specs.Register.{register_of}

-- the axis of magnitude a after c cycles: what its register can still take without a pulse
abbrev pub track_of : (q a : ℕ) (negative : Bool) (c : ℕ) → Track
track_of q a negative c = record { increment = a; room = q - 1 - register_of q a c; code = code_of true negative }

-- one cycle of an axis
abbrev pub tracked_of : (q : ℕ) → Track → Tracked
tracked_of q t =
    cond (leb t.increment t.room)
    (record { track = record { increment = t.increment; room = t.room - t.increment; code = t.code }; code = 0 })
    (record { track = record { increment = t.increment; room = t.room + q - t.increment; code = t.code }; code = t.code })

-- the stepper of a line after its cycles done
unfoldable pub stepper_of : Line → Stepper
stepper_of l =
    record {
      capacity = l.cycles;
      x = track_of l.cycles (nat_abs (increment_x l.start l.end)) (is_negative (increment_x l.start l.end)) l.done;
      y = track_of l.cycles (nat_abs (increment_y l.start l.end)) (is_negative (increment_y l.start l.end)) l.done;
    }

-- one cycle of both
unfoldable pub advanced_of : Stepper → Advanced
advanced_of s =
    let x = tracked_of s.capacity s.x in
    let y = tracked_of s.capacity s.y in
    record { stepper = record { capacity = s.capacity; x = x.track; y = y.track }; pulses = record { x = x.code; y = y.code } }

-- what the code asks, so that no sum overflows
pub record Fitting (s : Stepper) : Type 0 where
  pub short_x : s.x.increment ≤ s.capacity
  pub short_y : s.y.increment ≤ s.capacity
  pub small_x : s.x.room + s.capacity < 2 ^ 64
  pub small_y : s.y.room + s.capacity < 2 ^ 64
