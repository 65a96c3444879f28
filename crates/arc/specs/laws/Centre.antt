-- Seen from the centre and back again.
use Rattle.std.specs.Prelude.{◌≡◌}
use Rattle.whole.specs.laws.Difference.{there, gone}
use Rattle.plane.specs.declared.point.Point.{Point}
use Rattle.circle.specs.declared.plane.Offset.{Offset}
use Rattle.arc.specs.Centre.{seen_from, back_from}

pub back_seen : (centre at : Point) → back_from centre (seen_from centre at) ≡ at
back_seen c p = λ i. record { x = there c.x p.x i; y = there c.y p.y i }

pub seen_back : (centre : Point) (o : Offset) → seen_from centre (back_from centre o) ≡ o
seen_back c o = λ i. record { x = gone c.x o.x i; y = gone c.y o.y i }
