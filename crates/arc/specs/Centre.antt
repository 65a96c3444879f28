-- Positions seen from a centre: 01, Arcs, "Seen from the centre, (x, y) ..".
use Rattle.std.specs.Prelude.{◌+ℤ◌, ◌-ℤ◌}
use Rattle.plane.specs.declared.point.Point.{Point}
use Rattle.circle.specs.declared.plane.Offset.{Offset}

abbrev pub seen_from : (centre at : Point) → Offset
seen_from centre at = record { x = at.x -ℤ centre.x; y = at.y -ℤ centre.y }

abbrev pub back_from : (centre : Point) (seen : Offset) → Point
back_from centre seen = record { x = centre.x +ℤ seen.x; y = centre.y +ℤ seen.y }
