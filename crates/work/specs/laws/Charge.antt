-- Charges and dues of what is in work are within their bounds.
use Rattle.std.specs.Prelude.{◌≡◌, false, ℕ, ◌+◌, ◌*◌, ◌≤◌, ◌<◌}
use Rattle.std.proofs.Common.{mul-le-mul_right, arith}
use Rattle.std.proofs.lemmas.Bool.{lt-leb}
use Rattle.plane.specs.declared.point.Point.{Point}
use Rattle.circle.specs.Charge.{straight, diagonal}
use Rattle.arc.specs.laws.Charge.{arc_charge_range}
use Rattle.divider.specs.Divider.{fed_of}
use Rattle.work.specs.declared.Work.{Work}
use Rattle.work.specs.computed.Work.{charge_of, due_of}
use Rattle.work.specs.Work.{added_of}

pub charge_range : (at : Point) (w : Work) → (straight ≤ charge_of at w) × (charge_of at w ≤ diagonal)
charge_range at Work.Nothing = omega arith
charge_range at (Work.Line l) = omega arith
charge_range at (Work.Arc a) = arc_charge_range a at

pub due_range : (q0 : ℕ) (at : Point) (w : Work) → (straight * q0 ≤ due_of q0 at w) × (due_of q0 at w ≤ diagonal * q0)
due_range q0 at w = let c = charge_range at w in (mul-le-mul_right q0 c.0, mul-le-mul_right q0 c.1)

-- a sum below every due does no cycle, whatever the next one is charged
pub fed_low : (q0 : ℕ) (at : Point) (r : ℕ) (w : Work) → r + added_of w < straight * q0
    → record { remainder = r + added_of w; cycle = false } ≡ fed_of (due_of q0 at w) (added_of w) r
fed_low q0 at r w h = none (due_of q0 at w) (omega (arith, (due_range q0 at w).0))
  where
    none : (due : ℕ) → r + added_of w < due → record { remainder = r + added_of w; cycle = false } ≡ fed_of due (added_of w) r
    none due below = simp (lt-leb _ _ below)
