-- 01, Job and machine: "What is in work is nothing, a line with its numbers or an arc with its numbers."
use Rattle.std.specs.Prelude.{Bool, true, false, ℕ, ◌-◌, ◌*◌}
use Rattle.plane.specs.declared.point.Point.{Point}
use Rattle.line.specs.Line.{line_of}
use Rattle.arc.specs.computed.Arc.{arc_cycles}
use Rattle.arc.specs.computed.Charge.{arc_charges_in}
use Rattle.circle.specs.Charge.{straight}
use Rattle.divider.specs.Divider.{added_at}
use Rattle.block.specs.declared.Block.{Block}
use Rattle.block.specs.declared.Path.{Path}
use Rattle.block.specs.Block.{arc_of, block_width}
use Rattle.work.specs.declared.Work.{Work}
use Rattle.work.specs.declared.Begun.{Begun}
use Rattle.circle.specs.Circle.{quarter_of}

abbrev pub is_nothing : Work → Bool
is_nothing Work.Nothing = true
is_nothing (Work.Line l) = false
is_nothing (Work.Arc a) = false

-- ---- a cycle

-- At a block's end nothing is in work: "At c = k the block has ended and nothing is in work."
abbrev pub following : (ended : Bool) → Work → Work
following true w = Work.Nothing
following false w = w

-- ---- its feed, what is left of it, and where it ends

abbrev pub feed_of : Work → ℕ
feed_of Work.Nothing = 0
feed_of (Work.Line l) = l.feed
feed_of (Work.Arc a) = a.feed

-- 01, Feed divider: "A block of k cycles (q for a line, the number of visited points for an arc)": those that what is in work has left to
-- its end
abbrev pub cycles_left : (at : Point) → Work → ℕ
cycles_left at Work.Nothing = 0
cycles_left at (Work.Line l) = l.cycles - l.done
cycles_left at (Work.Arc a) = arc_cycles a at

-- 02 §2: "A tick adds 1,000 × f."
abbrev pub added_of : Work → ℕ
added_of w = added_at (feed_of w)

-- the sum of the charges of its next c cycles
abbrev pub charges_for : (at : Point) → Work → (c : ℕ) → ℕ
charges_for at Work.Nothing c = 0
charges_for at (Work.Line l) c = straight * c
charges_for at (Work.Arc a) c = arc_charges_in a at c

-- of all that are left: when a block comes into work 02 §2's "C being the sum of its charges"
abbrev pub charges_left : (at : Point) → Work → ℕ
charges_left at w = charges_for at w (cycles_left at w)

-- where what is in work ends: the commanded end, or with nothing in work the point
abbrev pub end_of : (at : Point) → Work → Point
end_of at Work.Nothing = at
end_of at (Work.Line l) = l.end
end_of at (Work.Arc a) = a.end

-- ---- a block comes into work

-- 01, The book of a history: "the block comes into work with c 0, and the answer is its register width"
abbrev pub work_along : (start : Point) → Block → Path → Work
work_along start b Path.Line = Work.Line (line_of start b.end b.feed)
work_along start b (Path.Arc turn centre) = Work.Arc (arc_of start b turn centre)

unfoldable pub begun_of : (start : Point) → Block → Begun
begun_of start b = record { work = work_along start b b.path; width = block_width start b }

-- ---- its root, which the record keeps: by it the cycles left are known without taking one

-- q of a line, the cycles of a quarter turn of an arc: that of its block, `root_of`
abbrev pub root_in : Work → ℕ
root_in Work.Nothing = 0
root_in (Work.Line l) = l.cycles
root_in (Work.Arc a) = quarter_of a.square
