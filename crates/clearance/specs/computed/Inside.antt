-- Travel seen from the centre of an arc.
use Rattle.std.specs.Prelude.{neg_ℤ, ◌≤ℤ◌}
use Rattle.circle.specs.declared.plane.Offset.{Offset}
use Rattle.clearance.specs.declared.Room.{Room}

-- 01: "in travel". A room says how far travel reaches from the centre on each side.
pub record Inside (room : Room) (p : Offset) : Type 0 where
  pub right : p.x ≤ℤ room.right
  pub up : p.y ≤ℤ room.up
  pub left : neg_ℤ p.x ≤ℤ room.left
  pub down : neg_ℤ p.y ≤ℤ room.down
