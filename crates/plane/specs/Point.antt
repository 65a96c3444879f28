-- A position is a pair of whole numbers: whether two are the same, and within which bound one lies.
use Rattle.std.specs.Prelude.{Bool, ◌&&◌, ℕ, ◌≤◌, nat_abs}
use Rattle.whole.specs.Equal.{equal_z}
use Rattle.plane.specs.declared.point.Point.{Point}

-- a test of equality that computes
abbrev pub equal_point : (p q : Point) → Bool
equal_point p q = equal_z p.x q.x && equal_z p.y q.y

-- within ±bound
pub record Near (bound : ℕ) (p : Point) : Type 0 where
  pub x : nat_abs p.x ≤ bound
  pub y : nat_abs p.y ≤ bound
