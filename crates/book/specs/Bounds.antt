-- Demand 3: "On a line the point is at most half a pulse per axis from the exact point for the cycles done, and its squared distance from
-- the line is at most one half. On an arc it is less than half a pulse from the circle." 01: "on a line or an arc means while the book has
-- one in work".
use Rattle.std.specs.Prelude.{ℕ, ◌-ℤ◌}
use Rattle.plane.specs.declared.point.Point.{Point}
use Rattle.circle.specs.declared.plane.Offset.{Offset}
use Rattle.circle.specs.declared.plane.Turn.{Turn}
use Rattle.circle.specs.Circle.{Within}
use Rattle.circle.specs.Next.{Walk, Ends}
use Rattle.line.specs.Line.{increment_x, increment_y, line_cycles}
use Rattle.line.specs.Bounds.{HalfPulse, NearLine}
use Rattle.arc.specs.Centre.{seen_from, back_from}
use Rattle.block.specs.declared.Path.{Path}
use Rattle.block.specs.Block.{square_of, cycles_along}
use Rattle.book.specs.Bench.{BlockInWork, InWork}

pub record OnLine (start end : Point) (c : ℕ) (at : Point) : Type 0 where
  pub half_x : HalfPulse (line_cycles start end) (increment_x start end) c (at.x -ℤ start.x)
  pub half_y : HalfPulse (line_cycles start end) (increment_y start end) c (at.y -ℤ start.y)
  pub near : NearLine (increment_x start end) (increment_y start end) (at.x -ℤ start.x) (at.y -ℤ start.y)

-- 01, Arcs: "The arc visits the circle points after the start in order of angle, one a cycle, to the end.", seen from the centre. After c
-- cycles it is at the c-th of them ..
abbrev pub WalkedTo : (start : Point) → Turn → (centre : Offset) (c : ℕ) (at : Point) → Type 0
WalkedTo start turn centre c at = let o = back_from start centre in Walk (square_of centre) turn (seen_from o start) c (seen_from o at)

-- .. and k, "the number of visited points for an arc", is the cycle on which it first reaches the end
abbrev pub EndsOn : (start end : Point) → Turn → (centre : Offset) (k : ℕ) → Type 0
EndsOn start end turn centre k = let o = back_from start centre in Ends (square_of centre) turn (seen_from o start) (seen_from o end) k

pub record OnArc (start end : Point) (turn : Turn) (centre : Offset) (k c : ℕ) (at : Point) : Type 0 where
  pub near : Within 1 (square_of centre) (seen_from (back_from start centre) at)
  pub walk : WalkedTo start turn centre c at
  pub ends : EndsOn start end turn centre k

abbrev pub OnPath : BlockInWork → (at : Point) → Path → Type 0
OnPath j at Path.Line = OnLine j.start j.block.end j.done at
OnPath j at (Path.Arc turn centre) =
    OnArc j.start j.block.end turn centre (cycles_along j.start j.block (Path.Arc turn centre)) j.done at

abbrev pub OnWork : (at : Point) → InWork → Type 0
OnWork at InWork.nothing = Unit {0}
OnWork at (InWork.working j) = OnPath j at j.block.path
