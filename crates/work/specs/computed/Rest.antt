-- What is left of the block in work, for the contracts of inner functions, and what they ask.
use Rattle.std.specs.Prelude.{◌≤◌}
use Rattle.plane.specs.declared.point.Point.{Point}
use Rattle.circle.specs.Circle.{largest_n}
use Rattle.arc.specs.computed.Arc.{StandsOnArc}
use Rattle.work.specs.declared.Work.{Work}
use Rattle.work.specs.declared.rest.Left.{Left}
use Rattle.work.specs.Work.{feed_of, cycles_left, charges_left, end_of}

abbrev pub left_of : (at : Point) → Work → Left
left_of at w = record { cycles = cycles_left at w; charges = charges_left at w; feed = feed_of w; end = end_of at w }

-- what `work_left` asks: a line that has not gone past its cycles, of which there are few enough for the product, or an arc at its point
abbrev pub Countable : (at : Point) → Work → Type 0
Countable at Work.Nothing = Unit {0}
Countable at (Work.Line l) = (l.done ≤ l.cycles) × (l.cycles ≤ 8000000)
Countable at (Work.Arc a) = StandsOnArc a at

-- what the code asks: an arc whose N is small enough for the product
abbrev pub Rooted : Work → Type 0
Rooted Work.Nothing = Unit {0}
Rooted (Work.Line l) = Unit {0}
Rooted (Work.Arc a) = a.square ≤ largest_n
