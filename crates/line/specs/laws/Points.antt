-- The points of a line: from its start, between its ends, to its end.
use Rattle.std.specs.Prelude.{◌≡◌, ℕ, ◌≤◌, ◌<◌, ℤ, ◌+ℤ◌, ◌-ℤ◌}
use Rattle.std.proofs.Math.IntN.{+ℤ_idr}
use Rattle.whole.specs.laws.Difference.{there}
use Rattle.plane.specs.declared.point.Point.{Point}
use Rattle.plane.specs.declared.travel.Range.{Range}
use Rattle.plane.specs.declared.travel.Travel.{Travel}
use Rattle.plane.specs.laws.Point.{same_point}
use Rattle.plane.specs.laws.Fits.{FitsPoint, inside_everywhere, fits_point}
use Rattle.plane.specs.laws.Travel.{InRange, Bounded}
use Rattle.line.specs.Line.{increment_x, increment_y, line_cycles, axis_moved, line_point}
use Rattle.line.specs.laws.Signed.{moved_begins, moved_ends, moved_above, moved_below}

module _ (start end : Point) (some : 0 < line_cycles start end) where
  pub point_start : line_point start end 0 ≡ start
  unfolding line_point
  point_start =
      let q = line_cycles start end in
      same_point (rw (moved_begins q some (increment_x start end)) (+ℤ_idr start.x))
      (rw (moved_begins q some (increment_y start end)) (+ℤ_idr start.y))

  pub point_end : line_point start end (line_cycles start end) ≡ end
  unfolding line_point
  point_end =
      let q = line_cycles start end in
      same_point
      (rw (moved_ends q some (increment_x start end)) (there start.x end.x))
      (rw (moved_ends q some (increment_y start end)) (there start.y end.y))

  -- each coordinate lies between those of start and end, so in every travel that holds both
  pub point_inside : {t : Travel} (c : ℕ) → c ≤ line_cycles start end → Bounded t start → Bounded t end → Bounded t (line_point start end c)
  unfolding line_point
  point_inside {t} c due s e =
      let q = line_cycles start end in
      record { x = between t.x start.x end.x s.x e.x; y = between t.y start.y end.y s.y e.y }
    where
      between : (r : Range) (from to : ℤ) → InRange r from → InRange r to
          → InRange r (from +ℤ axis_moved (line_cycles start end) (to -ℤ from) c)
      between r from to f t =
          let q = line_cycles start end in
          let near = there from to in
          record {
            above = moved_above q some c due from r.lower (to -ℤ from) f.above (rw near t.above);
            below = moved_below q some c due from r.upper (to -ℤ from) f.below (rw near t.below);
          }

  -- and so in the range of the code's numbers
  pub point_fits : (c : ℕ) → c ≤ line_cycles start end → FitsPoint start → FitsPoint end → FitsPoint (line_point start end c)
  point_fits c due s e = fits_point (point_inside c due (inside_everywhere start s) (inside_everywhere end e))
