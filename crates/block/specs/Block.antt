-- What a block does from its start: its cycles, its point after each, its register width.
use Rattle.std.specs.Prelude.{ℕ, ◌+◌, ◌*◌, nat_abs}
use Rattle.plane.specs.declared.point.Point.{Point}
use Rattle.circle.specs.declared.plane.Offset.{Offset}
use Rattle.circle.specs.declared.plane.Turn.{Turn}
use Rattle.line.specs.Line.{line_cycles, line_point, line_width}
use Rattle.arc.specs.declared.arc.Arc.{Arc}
use Rattle.arc.specs.Centre.{back_from}
use Rattle.arc.specs.computed.Arc.{arc_after, arc_cycles}
use Rattle.arc.specs.Arc.{arc_width}
use Rattle.block.specs.declared.Block.{Block}
use Rattle.block.specs.declared.Path.{Path}

-- 01, Arcs: "(I, J) is the centre seen from the start; N = I² + J²."
abbrev pub square_of : Offset → ℕ
square_of o = nat_abs o.x * nat_abs o.x + nat_abs o.y * nat_abs o.y

-- the arc that a block makes from its start
unfoldable pub arc_of : (start : Point) → Block → Turn → (centre : Offset) → Arc
arc_of start b turn centre =
    record { centre = back_from start centre; square = square_of centre; turn = turn; end = b.end; feed = b.feed }

-- 01, Feed divider: "A block of k cycles (q for a line, the number of visited points for an arc)"
abbrev pub cycles_along : (start : Point) → Block → Path → ℕ
cycles_along start b Path.Line = line_cycles start b.end
cycles_along start b (Path.Arc turn centre) = arc_cycles (arc_of start b turn centre) start

unfoldable pub block_cycles : (start : Point) → Block → ℕ
block_cycles start b = cycles_along start b b.path

-- 01, The book of a history: "the one of "Lines" or "Arcs" after c cycles"
abbrev pub point_along : (start : Point) → Block → Path → (c : ℕ) → Point
point_along start b Path.Line c = line_point start b.end c
point_along start b (Path.Arc turn centre) c = arc_after (arc_of start b turn centre) start c

unfoldable pub block_point : (start : Point) → Block → (c : ℕ) → Point
block_point start b c = point_along start b b.path c

-- 01, Arcs: "Each load also answers the register width"
abbrev pub width_along : (start : Point) → Block → Path → ℕ
width_along start b Path.Line = line_width start b.end
width_along start b (Path.Arc turn centre) = arc_width (arc_of start b turn centre)

unfoldable pub block_width : (start : Point) → Block → ℕ
block_width start b = width_along start b b.path
