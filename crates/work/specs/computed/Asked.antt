-- What the code asks of what is in work and of a block that comes into work.
use Rattle.std.specs.Prelude.{◌≡◌, true, ℕ, ◌+◌, ◌^◌, ◌<◌}
use Rattle.plane.specs.declared.point.Point.{Point}
use Rattle.plane.specs.Point.{Near}
use Rattle.line.specs.computed.Line.{short_of, line_at}
use Rattle.arc.specs.computed.Arc.{StandsOnArc}
use Rattle.block.specs.declared.Block.{Block}
use Rattle.block.specs.declared.Path.{Path}
use Rattle.block.specs.Questions.{offset_right}
use Rattle.work.specs.declared.Work.{Work}
use Rattle.work.specs.Work.{added_of}

-- a cycle: a line or an arc, at its point
abbrev pub Cycling : (at : Point) → Work → Type 0
Cycling at Work.Nothing = ⊥
Cycling at (Work.Line l) = line_at l at ≡ true
Cycling at (Work.Arc a) = StandsOnArc a at

-- a tick: that too, and a sum that fits
abbrev pub Ready : (at : Point) (remainder : ℕ) → Work → Type 0
Ready at r w = Cycling at w × (r + added_of w < 2 ^ 64)

-- a block that comes into work: increments and offsets that the products hold
abbrev pub Loadable : (start : Point) → Block → Path → Type 0
Loadable start b Path.Line = short_of start b.end ≡ true
Loadable start b (Path.Arc turn centre) = Near 1000000 start × (offset_right centre ≡ true)
