-- What the steps on a way round a circle are charged: the sum along the walk, and in closed form. `laws/Sum.antt` proves them the same.
use Rattle.std.specs.Prelude.{ℕ, zero, suc, ◌+◌, ◌-◌, ◌*◌}
use Rattle.whole.specs.Root.{nearest_root}
use Rattle.circle.specs.declared.plane.Offset.{Offset}
use Rattle.circle.specs.declared.plane.Turn.{Turn}
use Rattle.circle.specs.declared.quadrant.Place.{Place}
use Rattle.circle.specs.computed.Step.{seen_place, after_of}
use Rattle.circle.specs.computed.Count.{rank_of, onward, circle_cycles}
use Rattle.circle.specs.Circle.{quarter_of}
use Rattle.circle.specs.computed.Charge.{step_charge}
use Rattle.charges.specs.declared.Span.{Span}

-- the sum of the charges of c steps from p on
unfoldable pub charges_in : ℕ → Turn → Offset → ℕ → ℕ
charges_in N turn p zero = 0
charges_in N turn p (suc c) = charges_in N turn p c + step_charge N turn (after_of N turn p c)

-- the way from p on to e: its cycles, and the sum of their charges
unfoldable pub span_of : ℕ → Turn → (p e : Offset) → Span
span_of N turn p e = record { cycles = circle_cycles N turn p e; charges = charges_in N turn p (circle_cycles N turn p e) }

-- ---- in closed form: k steps that send L pulses are charged 586 × k + 414 × L, since L - k of them are diagonal

-- the pulses sent from the X axis on to a place, where an axis point is R from the centre: a quadrant has 2 R
unfoldable pub pulses_to : (R : ℕ) → Place → ℕ
pulses_to R q = q.quadrant * (2 * R) + (R + q.across - q.along)

-- the charges from the X axis on to a place
unfoldable pub toll_of : (Q R : ℕ) → Place → ℕ
toll_of Q R q = 586 * rank_of Q q + 414 * pulses_to R q

-- the way there: its cycles are the rank, its charges the toll
abbrev pub span_to : (Q R : ℕ) → Place → Span
span_to Q R q = record { cycles = rank_of Q q; charges = toll_of Q R q }

-- the charges of a quadrant, and of a full turn
abbrev pub quadrant_charges_of : (Q R : ℕ) → ℕ
quadrant_charges_of Q R = 586 * Q + 828 * R

abbrev pub round_charges_of : (Q R : ℕ) → ℕ
round_charges_of Q R = 4 * quadrant_charges_of Q R

unfoldable pub charges_of : ℕ → Turn → Offset → Offset → ℕ
charges_of N turn p e =
    let Q = quarter_of N in
    let R = nearest_root N in
    onward (round_charges_of Q R) (toll_of Q R (seen_place turn p)) (toll_of Q R (seen_place turn e))
