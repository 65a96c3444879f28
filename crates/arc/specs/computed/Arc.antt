-- An arc in work as it is computed: its points and its cycles by the circle's step and count, its test, one cycle onward.
use Rattle.std.specs.Prelude.{◌≡◌, Bool, true, ◌&&◌, ℕ, pos, negsuc}
use Rattle.plane.specs.declared.point.Point.{Point}
use Rattle.plane.specs.declared.travel.Travel.{Travel}
use Rattle.plane.specs.Pulse.{pulses_between}
use Rattle.plane.specs.Travel.{inside_of, visits_inside}
use Rattle.plane.specs.Point.{Near}
use Rattle.circle.specs.Circle.{on_circle}
use Rattle.circle.specs.computed.Step.{after_of}
use Rattle.circle.specs.computed.Count.{circle_cycles}
use Rattle.arc.specs.declared.arc.Arc.{Arc}
use Rattle.arc.specs.declared.arc.Stepped.{Stepped}
use Rattle.arc.specs.Centre.{seen_from, back_from}

-- the point that the arc visits c cycles after it was at `at`
-- Tied: `counts` of `AsDemanded`; in question 16 `load` of `EveryAnswer`.
unfoldable pub arc_after : Arc → (at : Point) (c : ℕ) → Point
arc_after a at c = back_from a.centre (after_of a.square a.turn (seen_from a.centre at) c)

-- the cycles from there to its end; "Start equal to end is a full turn."
-- Tied: `counts` of `AsDemanded`, `cycles_left_lem` of `EveryArc`, `waiting_cycles` of `EveryArc`.
unfoldable pub arc_cycles : Arc → (at : Point) → ℕ
arc_cycles a at = circle_cycles a.square a.turn (seen_from a.centre at) (seen_from a.centre a.end)

-- "a centre within ±2,000,000"
abbrev pub centres : Travel
centres = record { x = record { lower = negsuc 1999999; upper = pos 2000000 }; y = record { lower = negsuc 1999999; upper = pos 2000000 } }

-- 01, Job and machine: an arc in work has "N in 1..2,000,000,000,000, point and end both circle points of N about a centre within
-- ±2,000,000, and every point still to visit in travel". `on_circle` has the bounds of N.
unfoldable pub arc_at : Travel → Arc → (at : Point) → Bool
arc_at t a at =
    inside_of centres a.centre
    && (on_circle a.square (seen_from a.centre at)
    && (on_circle a.square (seen_from a.centre a.end) && visits_inside t (arc_after a at) (arc_cycles a at)))

-- one cycle onward
unfoldable pub arc_stepped : Arc → (at : Point) → Stepped
arc_stepped a at = record { at = arc_after a at 1; pulses = pulses_between at (arc_after a at 1) }

-- what the code asks of an arc whose circle it works on
pub record StandsOnArc (a : Arc) (at : Point) : Type 0 where
  pub centre : Near 2000000 a.centre
  pub here : Near 1000000 at
  pub there : Near 1000000 a.end
  pub on : on_circle a.square (seen_from a.centre at) ≡ true
  pub end_on : on_circle a.square (seen_from a.centre a.end) ≡ true
