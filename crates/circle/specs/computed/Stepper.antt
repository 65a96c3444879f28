-- The stepper: the step without products, by the excess S - N that it carries. `laws/Stepper.antt` proves that it computes the step.
use Rattle.std.specs.Prelude.{◌≡◌, Bool, true, cond, ℕ, ◌+◌, ◌-◌, ◌*◌, leb, ltb, eqb, pos, negsuc}
use Rattle.circle.specs.declared.plane.Offset.{Offset}
use Rattle.circle.specs.declared.plane.Turn.{Turn}
use Rattle.circle.specs.declared.quadrant.Place.{Place}
use Rattle.circle.specs.declared.step.Move.{Move}
use Rattle.circle.specs.declared.step.Move.TheVariants.{Rise, Slant, Fall}
use Rattle.circle.specs.declared.step.Stepper.{Stepper}
use Rattle.circle.specs.declared.step.Cycled.{Cycled}
use Rattle.circle.specs.Circle.{on_circle, offset}
use Rattle.circle.specs.computed.Step.{place, seen, turned, point_at, next_quadrant, seen_place}

-- what is added to the excess, so that it is never negative
abbrev pub bias : ℕ
bias = 2000000

abbrev pub carry : Turn → Place → ℕ → Stepper
carry turn q excess = record { turn = turn; quadrant = q.quadrant; along = q.along; across = q.across; excess = excess }

unfoldable pub enter_of : ℕ → Turn → Offset → Stepper
enter_of N turn p =
    let q = seen_place turn p in
    carry turn q (q.along * q.along + q.across * q.across + bias - N)

abbrev pub stepper_place : Stepper → Place
stepper_place s = place s.quadrant s.along s.across

unfoldable pub leave_of : Stepper → Offset
leave_of s = seen s.turn (point_at (stepper_place s))

-- the tests of the step, with N - S moved to the other side
abbrev pub pick : Bool → Move → Move → Move
pick t a b = cond t a b

unfoldable pub move_of : Stepper → Move
move_of s =
    pick (ltb s.across s.along)
    (pick (ltb (s.excess + 2 * s.across + 1) (bias + s.along)) Rise Slant)
    (pick (leb (bias + 2 * s.along) (s.excess + s.across + 1)) Fall Slant)

-- b + 1 adds 2 b + 1 to the excess, a - 1 takes 2 a - 1 off
abbrev pub moved : Move → Stepper → Stepper
moved Rise s = carry s.turn (place s.quadrant s.along (s.across + 1)) (s.excess + 2 * s.across + 1)
moved Slant s = carry s.turn (place s.quadrant (s.along - 1) (s.across + 1)) (s.excess + 2 * s.across + 2 - 2 * s.along)
moved Fall s = carry s.turn (place s.quadrant (s.along - 1) s.across) (s.excess + 1 - 2 * s.along)

-- (0, b) is the axis that begins the next quadrant
abbrev pub brought_on : Stepper → Stepper
brought_on s = cond (eqb s.along 0) (carry s.turn (place (next_quadrant s.quadrant) s.across 0) s.excess) s

unfoldable pub advanced_by : Stepper → Stepper
advanced_by s = brought_on (moved (move_of s) s)

-- one cycle, and the move that it makes
abbrev pub cycled_of : Stepper → Cycled
cycled_of s = record { stepper = advanced_by s; made = move_of s }

-- the pulses of one advance, -1, 0 or 1 on each axis: those of the quadrant, turned as the point is
abbrev pub quadrant_pulse : Move → Offset
quadrant_pulse Rise = offset (pos 0) (pos 1)
quadrant_pulse Slant = offset (negsuc 0) (pos 1)
quadrant_pulse Fall = offset (negsuc 0) (pos 0)

unfoldable pub step_pulse : Stepper → Offset
step_pulse s = seen s.turn (turned s.quadrant (quadrant_pulse (move_of s)))

-- a stepper that stands on a circle point
pub record Entered (s : Stepper) : Type 0 where
  pub square : ℕ
  pub point : Offset
  pub on : on_circle square point ≡ true
  pub is : s ≡ enter_of square s.turn point
