-- A line in work as it is computed: its test, and one cycle onward.
use Rattle.std.specs.Prelude.{Bool, ◌&&◌, ◌+◌, leb, ltb, eqb, nat_abs}
use Rattle.plane.specs.declared.point.Point.{Point}
use Rattle.plane.specs.Point.{equal_point}
use Rattle.plane.specs.Pulse.{pulses_between}
use Rattle.line.specs.declared.line.Line.{Line}
use Rattle.line.specs.declared.line.Stepped.{Stepped}
use Rattle.line.specs.Line.{increment_x, increment_y, line_cycles, line_point}

-- increments that a line within travel can have; what the code asks so that no product overflows
abbrev pub short_of : (start end : Point) → Bool
short_of start end = leb (nat_abs (increment_x start end)) 2000000 && leb (nat_abs (increment_y start end)) 2000000

-- the numbers of a line in work: the q that it keeps is its own, and cycles are left to do
unfoldable pub drawn_of : Line → Bool
drawn_of l = short_of l.start l.end && (eqb l.cycles (line_cycles l.start l.end) && ltb l.done l.cycles)

-- 01, Job and machine: a line in work has "cycles done in 0..q-1 and the point that "Lines" gives"
unfoldable pub line_at : Line → (at : Point) → Bool
line_at l at = drawn_of l && equal_point at (line_point l.start l.end l.done)

-- one cycle onward
unfoldable pub stepped_of : Line → Stepped
stepped_of l =
    let before = line_point l.start l.end l.done in
    let after = line_point l.start l.end (l.done + 1) in
    record {
      line = record { start = l.start; end = l.end; feed = l.feed; cycles = l.cycles; done = l.done + 1 };
      at = after;
      pulses = pulses_between before after;
    }
