-- What private functions ask of their callers: small numbers, and that no more is taken off than there is.
use Rattle.std.specs.Prelude.{ℕ, ◌+◌, ◌*◌, ◌≤◌, ◌<◌}
use Rattle.circle.specs.declared.quadrant.Place.{Place}
use Rattle.circle.specs.declared.step.Move.{Move}
use Rattle.circle.specs.declared.step.Move.TheVariants.{Rise, Slant, Fall}
use Rattle.circle.specs.declared.step.Stepper.{Stepper}

-- a move of the stepper
abbrev pub Takes : Move → Stepper → Type 0
Takes Rise s = 1 ≤ s.along
Takes Slant s = 2 * s.along ≤ s.excess + 2 * s.across + 2
Takes Fall s = 2 * s.along ≤ s.excess + 1

pub record Movable (m : Move) (s : Stepper) : Type 0 where
  pub some : 1 ≤ s.along
  pub along : s.along ≤ 2000000
  pub across : s.across ≤ 2000000
  pub high : s.excess ≤ 4000000
  pub takes : Takes m s

-- a rank
pub record Ranked (Q : ℕ) (q : Place) : Type 0 where
  pub four : q.quadrant < 4
  pub quarter : Q ≤ 2000000
  pub along : q.along ≤ 2000000
  pub across : q.across ≤ 2000000
  pub least : q.along < q.across → q.along ≤ Q
