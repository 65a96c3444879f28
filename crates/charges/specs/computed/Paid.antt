-- What a sum of charges pays for on a way round a circle.
use Rattle.std.specs.Prelude.{ℕ}
use Rattle.circle.specs.declared.plane.Offset.{Offset}
use Rattle.circle.specs.declared.plane.Turn.{Turn}
use Rattle.circle.specs.computed.Step.{after_of}
use Rattle.charges.specs.declared.Paid.{Paid}
use Rattle.charges.specs.Paid.{most_paid}
use Rattle.charges.specs.computed.Sum.{charges_in}

-- what a sum pays for from p on: so many cycles, their charges, and the point after them
unfoldable pub paid_of : ℕ → Turn → Offset → (most sum : ℕ) → Paid Offset
paid_of N turn p most sum =
    let c = most_paid (charges_in N turn p) sum most in
    record { cycles = c; charges = charges_in N turn p c; at = after_of N turn p c }
