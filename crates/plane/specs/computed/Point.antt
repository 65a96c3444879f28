-- The way from one position to another, axis by axis.
use Rattle.whole.specs.computed.Sign.{difference_of}
use Rattle.plane.specs.declared.point.Point.{Point}
use Rattle.plane.specs.declared.point.Increments.{Increments}

abbrev pub increments_of : (from to : Point) → Increments
increments_of from to = record { x = difference_of from.x to.x; y = difference_of from.y to.y }
