-- Travel seen from a centre, and what the code asks so that no sum or difference overflows.
use Rattle.std.specs.Prelude.{◌≤◌, nat_abs, ◌-ℤ◌}
use Rattle.plane.specs.declared.point.Point.{Point}
use Rattle.plane.specs.declared.travel.Travel.{Travel}
use Rattle.circle.specs.declared.plane.Offset.{Offset}
use Rattle.clearance.specs.declared.Room.{Room}

-- how far travel reaches from the centre on each side
abbrev pub room_of : Travel → (centre : Point) → Room
room_of t centre =
    record {
      right = t.x.upper -ℤ centre.x;
      up = t.y.upper -ℤ centre.y;
      left = centre.x -ℤ t.x.lower;
      down = centre.y -ℤ t.y.lower;
    }

-- what the code asks, so that no sum or difference overflows
pub record Reach (o : Offset) : Type 0 where
  pub x : nat_abs o.x ≤ 4000000
  pub y : nat_abs o.y ≤ 4000000
