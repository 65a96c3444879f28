-- What inner functions ask of their callers: small numbers, and that no more is taken off than there is.
use Rattle.std.specs.Prelude.{◌≡◌, true, ℕ, ◌-◌, ◌*◌, ◌≤◌, ◌<◌}
use Rattle.circle.specs.declared.quadrant.Place.{Place}
use Rattle.circle.specs.Circle.{on_circle}
use Rattle.circle.specs.computed.Count.{rank_of}
use Rattle.circle.specs.computed.Asked.{Ranked}
use Rattle.charges.specs.declared.jump.Start.{Start}
use Rattle.charges.specs.computed.Jump.{jump_start}

-- a toll
pub record Tolled (Q R : ℕ) (q : Place) : Type 0 where
  pub ranked : Ranked Q q
  pub rank : rank_of Q q ≤ 8000000
  pub radius : R ≤ 1414214
  pub reach : q.along ≤ R
  pub side : q.across ≤ R

-- the place of a rank in a quarter of Q points
pub record Placed (n Q i : ℕ) : Type 0 where
  pub quarter : Q ≤ 2000000
  pub rank : i < Q
  pub low : 2 * i ≤ Q → i * i ≤ n
  pub high : Q < 2 * i → (Q - i) * (Q - i) ≤ n

-- a start on a circle point
pub record Started (s : Start) : Type 0 where
  pub on : on_circle s.n s.at ≡ true
  pub is : s ≡ jump_start s.n s.turn s.at
