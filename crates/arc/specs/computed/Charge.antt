-- 02 §2, "Arcs cut too fast at 45 degrees": what the cycles of an arc in work are charged.
use Rattle.std.specs.Prelude.{ℕ}
use Rattle.plane.specs.declared.point.Point.{Point}
use Rattle.circle.specs.computed.Charge.{step_charge}
use Rattle.charges.specs.declared.Span.{Span}
use Rattle.charges.specs.Paid.{most_paid}
use Rattle.charges.specs.computed.Sum.{charges_in}
use Rattle.arc.specs.declared.arc.Arc.{Arc}
use Rattle.charges.specs.declared.Paid.{Paid}
use Rattle.arc.specs.Centre.{seen_from}
use Rattle.arc.specs.computed.Arc.{arc_after, arc_cycles}

-- "a straight arc step is charged 1,000 and a diagonal one 1,414": the step from there
unfoldable pub arc_charge : Arc → (at : Point) → ℕ
arc_charge a at = step_charge a.square a.turn (seen_from a.centre at)

-- the sum of the charges of c cycles from there on
-- Tied: `charges` of `EveryArc`.
abbrev pub arc_charges_in : Arc → (at : Point) (c : ℕ) → ℕ
arc_charges_in a at c = charges_in a.square a.turn (seen_from a.centre at) c

-- of those to its end
abbrev pub arc_charges : Arc → (at : Point) → ℕ
arc_charges a at = arc_charges_in a at (arc_cycles a at)

-- the span to its end
abbrev pub arc_span_of : Arc → (at : Point) → Span
arc_span_of a at = record { cycles = arc_cycles a at; charges = arc_charges a at }

-- what a sum pays for: so many cycles, their charges, and the point after them
unfoldable pub arc_paid_of : Arc → (at : Point) (most sum : ℕ) → Paid Point
arc_paid_of a at most sum =
    let c = most_paid (arc_charges_in a at) sum most in
    record { cycles = c; charges = arc_charges_in a at c; at = arc_after a at c }
