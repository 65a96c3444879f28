-- Positions that the code's numbers hold: those within the greatest travel that an i64 can say.
use Rattle.std.specs.Prelude.{◌-◌, ◌^◌, pos, negsuc}
use Rattle.std.specs.Int.{w64}
use Rattle.std.proofs.Common.{SFits}
use Rattle.whole.specs.laws.Order.{fits_between, between_fits}
use Rattle.plane.specs.declared.point.Point.{Point}
use Rattle.plane.specs.declared.travel.Range.{Range}
use Rattle.plane.specs.declared.travel.Travel.{Travel}
use Rattle.plane.specs.laws.Travel.{Bounded}

pub record FitsPoint (p : Point) : Type 0 where
  pub x : SFits w64 p.x
  pub y : SFits w64 p.y

all : Range
all = record { lower = negsuc (2 ^ 63 - 1); upper = pos (2 ^ 63 - 1) }

pub everywhere : Travel
everywhere = record { x = all; y = all }

pub inside_everywhere : (p : Point) → FitsPoint p → Bounded everywhere p
unfolding all everywhere
inside_everywhere p f =
    let x = between_fits p.x f.x in
    let y = between_fits p.y f.y in
    record { x = record { above = x.0; below = x.1 }; y = record { above = y.0; below = y.1 } }

pub fits_point : {p : Point} → Bounded everywhere p → FitsPoint p
unfolding all everywhere
fits_point {p} i = record { x = fits_between p.x i.x.above i.x.below; y = fits_between p.y i.y.above i.y.below }
