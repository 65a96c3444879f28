-- 01, Job and machine: "a lower and an upper travel bound per axis"; a point is in travel if each coordinate is within its bounds.
use Rattle.std.specs.Prelude.{Bool, true, ◌&&◌, ℕ, zero, suc, ℤ}
use Rattle.std.specs.Int.Signed.{le_z}
use Rattle.plane.specs.declared.point.Point.{Point}
use Rattle.plane.specs.declared.travel.Range.{Range}
use Rattle.plane.specs.declared.travel.Travel.{Travel}

unfoldable pub within_of : Range → ℤ → Bool
within_of r v = le_z r.lower v && le_z v r.upper

unfoldable pub inside_of : Travel → Point → Bool
inside_of t p = within_of t.x p.x && within_of t.y p.y

-- 01, Questions, 16: "Is every visited point in travel?" The visited points are the first to the n-th of a path.
unfoldable pub visits_inside : Travel → (path : ℕ → Point) (n : ℕ) → Bool
visits_inside t path zero = true
visits_inside t path (suc n) = visits_inside t path n && inside_of t (path (suc n))
