-- Demand 3's bounds hold at every cycle of a line.
use Rattle.std.specs.Prelude.{ℕ, ◌<◌, ◌-ℤ◌}
use Rattle.whole.specs.laws.Difference.{gone}
use Rattle.plane.specs.declared.point.Point.{Point}
use Rattle.line.specs.Line.{increment_x, increment_y, line_cycles, line_point}
use Rattle.line.specs.Bounds.{HalfPulse, NearLine}
use Rattle.line.specs.laws.Signed.{half_pulse, near_line}

module _ (start end : Point) (some : 0 < line_cycles start end) (c : ℕ) where
  pub half_pulse_x : HalfPulse (line_cycles start end) (increment_x start end) c ((line_point start end c).x -ℤ start.x)
  unfolding line_point
  half_pulse_x = simp gone (half_pulse (line_cycles start end) c some (increment_x start end))

  pub half_pulse_y : HalfPulse (line_cycles start end) (increment_y start end) c ((line_point start end c).y -ℤ start.y)
  unfolding line_point
  half_pulse_y = simp gone (half_pulse (line_cycles start end) c some (increment_y start end))

  pub near : NearLine (increment_x start end) (increment_y start end) ((line_point start end c).x -ℤ start.x)
      ((line_point start end c).y -ℤ start.y)
  unfolding line_point
  near = simp gone (near_line (line_cycles start end) c some (increment_x start end) (increment_y start end))
