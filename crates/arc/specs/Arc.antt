-- 01, "Arcs", on the table: the register width of an arc.
use Rattle.std.specs.Prelude.{ℕ}
use Rattle.whole.specs.Root.{nearest_root}
use Rattle.whole.specs.Width.{width_of}
use Rattle.arc.specs.declared.arc.Arc.{Arc}

-- "Each load also answers the register width ..: the fewest bits that hold .. for an arc its m on an axis." The circle point on an axis is
-- the nearest root of N.
unfoldable pub arc_width : Arc → ℕ
arc_width a = width_of (nearest_root a.square)
