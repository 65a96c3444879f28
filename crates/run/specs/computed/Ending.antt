-- The end tick as far as a run of so many ticks asks it.
use Rattle.std.specs.Prelude.{◌≡◌, Bool, ◌&&◌, ℕ, suc, ◌+◌, ◌*◌, min, max, ltb, nat_abs, ◌-ℤ◌}
use Rattle.plane.specs.declared.point.Point.{Point}

-- two ticks that are the same, or both beyond the run
pub record Same (most s t : ℕ) : Type 0 where
  pub same : min (suc most) s ≡ min (suc most) t

-- so many ticks, few enough for the product, do not reach this due
unfoldable pub falls_short : (due added r ticks : ℕ) → Bool
falls_short due a r ticks = ltb ticks 10000000 && ltb (r + ticks * a) due

abbrev pub longer_of : (from to : Point) → ℕ
longer_of from to = max (nat_abs (to.x -ℤ from.x)) (nat_abs (to.y -ℤ from.y))
