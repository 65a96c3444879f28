-- The arc's stepper: the circle's, with the codes of its moves. `laws/Stepper.antt` proves that it computes the step.
use Rattle.std.specs.Prelude.{◌≡◌, ℕ, ◌+◌, pos, negsuc}
use Rattle.plane.specs.declared.point.Point.{Point}
use Rattle.plane.specs.Pulse.{change_of}
use Rattle.plane.specs.Byte.{both_codes}
use Rattle.circle.specs.declared.plane.Offset.{Offset}
use Rattle.circle.specs.declared.plane.Turn.{Turn}
use Rattle.circle.specs.declared.step.Move.{Move}
use Rattle.circle.specs.declared.step.Move.TheVariants.{Rise, Slant, Fall}
use Rattle.circle.specs.declared.step.Stepper.{Stepper}
use Rattle.circle.specs.Circle.{offset}
use Rattle.circle.specs.computed.Step.{seen, turned}
use Rattle.circle.specs.computed.Stepper.{enter_of, leave_of, move_of, advanced_by, quadrant_pulse, step_pulse, Entered}
use Rattle.arc.specs.declared.arc.Arc.{Arc}
use Rattle.arc.specs.declared.stepper.Tracer.{Tracer}
use Rattle.arc.specs.declared.stepper.Traced.{Traced}
use Rattle.arc.specs.Centre.{seen_from, back_from}

-- 01, Ticks and runs: "X code + 4 × Y code", of a way ..
unfoldable pub way_code : Offset → ℕ
way_code o = both_codes (record { x = change_of (pos 0) o.x; y = change_of (pos 0) o.y })

abbrev pub up_code : Turn → ℕ
up_code t = way_code (seen t (offset (pos 0) (pos 1)))

abbrev pub down_code : Turn → ℕ
down_code t = way_code (seen t (offset (pos 0) (negsuc 0)))

-- .. and of a move in a quadrant
unfoldable pub move_code : Turn → (quadrant : ℕ) → Move → ℕ
move_code t k m = way_code (seen t (turned k (quadrant_pulse m)))

-- a slant is a rise and a fall
abbrev pub pick_code : (rise fall : ℕ) → Move → ℕ
pick_code rise fall Rise = rise
pick_code rise fall Slant = rise + fall
pick_code rise fall Fall = fall

abbrev pub tracer_of : Stepper → Tracer
tracer_of s =
    record { circle = s; rise = move_code s.turn s.quadrant Rise; fall = move_code s.turn s.quadrant Fall; next = move_of s }

-- the stepper of an arc at a point
unfoldable pub arc_tracer : Arc → (at : Point) → Tracer
arc_tracer a at = tracer_of (enter_of a.square a.turn (seen_from a.centre at))

-- one cycle
unfoldable pub traced_of : Tracer → Traced
traced_of t = record { tracer = tracer_of (advanced_by t.circle); code = way_code (step_pulse t.circle) }

-- the point that it has reached
unfoldable pub tracer_at : (centre : Point) → Tracer → Point
tracer_at centre t = back_from centre (leave_of t.circle)

-- what the code asks: a stepper on the circle, with its own codes
pub record Tracing (t : Tracer) : Type 0 where
  pub entered : Entered t.circle
  pub is : t ≡ tracer_of t.circle
