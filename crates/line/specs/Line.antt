-- 01, "Lines", over signed whole numbers.
use Rattle.std.specs.Prelude.{Bool, not, ℕ, ◌+◌, ◌*◌, ◌/◌, max, ℤ, nat_abs, ◌+ℤ◌, ◌-ℤ◌}
use Rattle.whole.specs.Root.{least_root}
use Rattle.whole.specs.Width.{width_of}
use Rattle.whole.specs.Sign.{signed, is_negative}
use Rattle.plane.specs.declared.point.Point.{Point}
use Rattle.plane.specs.Point.{equal_point}
use Rattle.line.specs.declared.line.Line.{Line}

-- "Increments a, b."
abbrev pub increment_x : (start end : Point) → ℤ
increment_x start end = end.x -ℤ start.x

abbrev pub increment_y : (start end : Point) → ℤ
increment_y start end = end.y -ℤ start.y

-- 01, Questions, 13: "Line: do start and end differ?"
unfoldable pub differ : (start end : Point) → Bool
differ start end = not (equal_point start end)

-- "q is the least whole number with q² ≥ a² + b²; the line takes q cycles"
unfoldable pub line_cycles : (start end : Point) → ℕ
line_cycles start end =
    let a = nat_abs (increment_x start end) in
    let b = nat_abs (increment_y start end) in
    least_root (a * a + b * b)

-- "h is q/2 rounded down. After c cycles X has moved ⌊(h + |a| × c) / q⌋ ..", here over the magnitude a
unfoldable pub axis_steps : (q a c : ℕ) → ℕ
axis_steps q a c = (q / 2 + a * c) / q

-- ".. in the sign of a; Y likewise."
unfoldable pub axis_moved : (q : ℕ) (a : ℤ) (c : ℕ) → ℤ
axis_moved q a c = signed (is_negative a) (axis_steps q (nat_abs a) c)

-- the point after c cycles
unfoldable pub line_point : (start end : Point) (c : ℕ) → Point
line_point start end c =
    let q = line_cycles start end in
    record { x = start.x +ℤ axis_moved q (increment_x start end) c; y = start.y +ℤ axis_moved q (increment_y start end) c }

-- 01, Arcs: "Each load also answers the register width (source 002): the fewest bits that hold the larger of |a|, |b|"
unfoldable pub line_width : (start end : Point) → ℕ
line_width start end = width_of (max (nat_abs (increment_x start end)) (nat_abs (increment_y start end)))

-- ---- a line in work

-- a line newly loaded
abbrev pub line_of : (start end : Point) (feed : ℕ) → Line
line_of start end feed = record { start = start; end = end; feed = feed; cycles = line_cycles start end; done = 0 }
