-- What is in work as it is computed: its test, a cycle and its charge, a working tick; and what inner functions ask of their callers.
use Rattle.std.specs.Prelude.{Bool, true, cond, ◌&&◌, ℕ, ◌+◌, ◌*◌, eqb}
use Rattle.plane.specs.declared.point.Point.{Point}
use Rattle.plane.specs.declared.travel.Travel.{Travel}
use Rattle.plane.specs.Point.{equal_point}
use Rattle.plane.specs.Travel.{inside_of}
use Rattle.plane.specs.Byte.{cycle_byte}
use Rattle.line.specs.declared.line.Line.{Line}
use Rattle.line.specs.Line.{differ}
use Rattle.line.specs.computed.Line.{line_at, stepped_of}
use Rattle.arc.specs.declared.arc.Arc.{Arc}
use Rattle.arc.specs.computed.Arc.{arc_at, arc_stepped}
use Rattle.arc.specs.computed.Charge.{arc_charge}
use Rattle.circle.specs.Charge.{straight}
use Rattle.divider.specs.declared.Fed.{Fed}
use Rattle.divider.specs.Divider.{fed_of}
use Rattle.divider.specs.computed.Divider.{last_tick}
use Rattle.block.specs.Questions.{feed_right}
use Rattle.work.specs.declared.Work.{Work}
use Rattle.work.specs.declared.Cycle.{Cycle}
use Rattle.work.specs.declared.Advance.{Advance}
use Rattle.work.specs.Work.{following, cycles_left, added_of, charges_left}

-- ---- sound

-- "a line in work has start and end in travel and different, feed in 1..q0, cycles done in 0..q-1 and the point that "Lines" gives"
unfoldable pub line_sound : (q0 : ℕ) → Travel → (at : Point) → Line → Bool
line_sound q0 t at l =
    (inside_of t l.start && inside_of t l.end) && (differ l.start l.end && (feed_right q0 l.feed && line_at l at))

-- "an arc in work has feed in 1..q0, N in 1..2,000,000,000,000, point and end both circle points of N about a centre within ±2,000,000, and
-- every point still to visit in travel"
unfoldable pub arc_sound : (q0 : ℕ) → Travel → (at : Point) → Arc → Bool
arc_sound q0 t at a = feed_right q0 a.feed && arc_at t a at

unfoldable pub work_sound : (q0 : ℕ) → Travel → (at : Point) → Work → Bool
work_sound q0 t at Work.Nothing = true
work_sound q0 t at (Work.Line l) = line_sound q0 t at l
work_sound q0 t at (Work.Arc a) = arc_sound q0 t at a

-- ---- a cycle

-- of a step that ends its block or not
abbrev pub cycle_with : (at : Point) (byte : ℕ) (ended : Bool) → Work → Cycle
cycle_with at byte ended w = record { at = at; byte = byte; work = following ended w }

unfoldable pub line_cycle : Line → Cycle
line_cycle l =
    let s = stepped_of l in
    let ended = eqb (l.done + 1) l.cycles in
    record { at = s.at; byte = cycle_byte s.pulses ended; work = following ended (Work.Line s.line) }

-- an arc ends where it reaches its end
unfoldable pub arc_cycle : (at : Point) → Arc → Cycle
arc_cycle at a =
    let s = arc_stepped a at in
    let ended = equal_point s.at a.end in
    record { at = s.at; byte = cycle_byte s.pulses ended; work = following ended (Work.Arc a) }

unfoldable pub cycle_of : (at : Point) → Work → Cycle
cycle_of at Work.Nothing = record { at = at; byte = 0; work = Work.Nothing }
cycle_of at (Work.Line l) = line_cycle l
cycle_of at (Work.Arc a) = arc_cycle at a

-- ---- a working tick

-- what the next cycle is charged: 02 §2, "a straight arc step is charged 1,000 and a diagonal one 1,414. .. Line cycles are charged 1,000."
-- Nothing in work has no cycle, and no tick is asked of it: any charge from `straight` to `diagonal` would do.
abbrev pub charge_of : (at : Point) → Work → ℕ
charge_of at Work.Nothing = straight
charge_of at (Work.Line l) = straight
charge_of at (Work.Arc a) = arc_charge a at

-- 02 §2: "A cycle is due when the remainder reaches its charge times q0"
abbrev pub due_of : (q0 : ℕ) (at : Point) → Work → ℕ
due_of q0 at w = charge_of at w * q0

-- 02 §2: "A block ends on the tick that stepping by this rule gives": the working tick, its first being 1, on which what is in work ends
abbrev pub last_tick_for : (q0 : ℕ) (at : Point) (remainder : ℕ) → Work → ℕ
last_tick_for q0 at r w = last_tick (charges_left at w * q0) (added_of w) r (cycles_left at w)

-- 01, Feed divider: "If it then reaches or passes q0, q0 is taken off and one cycle is done." 02 §2: "A cycle is due when the remainder
-- reaches its charge times q0, at most one a tick."
abbrev pub advance_by : (at : Point) → Work → Fed → Advance
advance_by at w f =
    cond f.cycle
    (record { at = (cycle_of at w).at; remainder = f.remainder; byte = (cycle_of at w).byte; work = (cycle_of at w).work })
    (record { at = at; remainder = f.remainder; byte = 0; work = w })

unfoldable pub advance_of : (q0 : ℕ) (at : Point) (remainder : ℕ) → Work → Advance
advance_of q0 at r w = advance_by at w (fed_of (due_of q0 at w) (added_of w) r)
