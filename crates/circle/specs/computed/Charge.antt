-- The charge of a step as it is computed, by its two points and by the stepper's move.
-- `block` says what a cycle is charged by its pulses, and laws there and in `arc` prove that it is this.
use Rattle.std.specs.Prelude.{cond, ℕ}
use Rattle.whole.specs.Equal.{equal_z}
use Rattle.circle.specs.declared.plane.Offset.{Offset}
use Rattle.circle.specs.declared.plane.Turn.{Turn}
use Rattle.circle.specs.declared.step.Move.{Move}
use Rattle.circle.specs.declared.step.Move.TheVariants.{Rise, Slant, Fall}
use Rattle.circle.specs.Charge.{straight, diagonal}
use Rattle.circle.specs.computed.Step.{step_of}

-- a straight step keeps a coordinate
unfoldable pub charge_between : (p q : Offset) → ℕ
charge_between p q = cond (equal_z p.x q.x) straight (cond (equal_z p.y q.y) straight diagonal)

-- the charge of the step from p
unfoldable pub step_charge : ℕ → Turn → Offset → ℕ
step_charge N turn p = charge_between p (step_of N turn p)

-- what a move is charged
abbrev pub move_charge : Move → ℕ
move_charge Rise = straight
move_charge Slant = diagonal
move_charge Fall = straight
