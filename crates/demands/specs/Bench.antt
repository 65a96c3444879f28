-- 01, Job and machine: "A record is sound if ..", sentence by sentence and without a test, of the machine without its queue.
use Rattle.std.specs.Prelude.{◌≡◌, ◌≢◌, ℕ, ◌*◌, ◌≤◌, ◌<◌, pos, negsuc, ◌≤ℤ◌}
use Rattle.plane.specs.declared.point.Point.{Point}
use Rattle.plane.specs.declared.travel.Range.{Range}
use Rattle.plane.specs.declared.travel.Travel.{Travel}
use Rattle.plane.specs.Point.{Near}
use Rattle.circle.specs.Charge.{diagonal}
use Rattle.circle.specs.declared.plane.Offset.{Offset}
use Rattle.circle.specs.Circle.{Circle}
use Rattle.circle.specs.Next.{ToVisit}
use Rattle.line.specs.declared.line.Line.{Line}
use Rattle.line.specs.Line.{line_cycles, line_point}
use Rattle.arc.specs.declared.arc.Arc.{Arc}
use Rattle.arc.specs.Centre.{seen_from, back_from}
use Rattle.work.specs.declared.Work.{Work}
use Rattle.settings.specs.declared.Settings.{Settings}
use Rattle.settings.specs.Settings.{capacity_of}
use Rattle.bench.specs.declared.Bench.{Bench}
use Rattle.demands.specs.Asked.{Questions, none, question, AllYes}

-- ---- settings

-- "is p in 1..1,000? 1."
abbrev pub ScaleRight : Settings → Type 0
ScaleRight s = (1 ≤ s.scale) × (s.scale ≤ 1000)

-- "Is w in 1,000..20,000? 2."
abbrev pub ClockRight : Settings → Type 0
ClockRight s = (1000 ≤ s.clock) × (s.clock ≤ 20000)

-- "Is each axis -1,000,000 ≤ lower ≤ 0 ≤ upper ≤ 1,000,000? 3."
pub record AxisRight (axis : Range) : Type 0 where
  pub lowest : negsuc 999999 ≤ℤ axis.lower
  pub lower : axis.lower ≤ℤ pos 0
  pub upper : pos 0 ≤ℤ axis.upper
  pub highest : axis.upper ≤ℤ pos 1000000

abbrev pub TravelRight : Settings → Type 0
TravelRight s = AxisRight s.travel.x × AxisRight s.travel.y

abbrev pub settings_questions : Settings → Questions
settings_questions s = question 1 (ScaleRight s) (question 2 (ClockRight s) (question 3 (TravelRight s) none))

-- ---- the record

-- "in travel": each coordinate is within its bounds
pub record InTravel (t : Travel) (p : Point) : Type 0 where
  pub left : t.x.lower ≤ℤ p.x
  pub right : p.x ≤ℤ t.x.upper
  pub down : t.y.lower ≤ℤ p.y
  pub up : p.y ≤ℤ t.y.upper

-- "feed in 1..q0"
abbrev pub FeedRight : (q0 feed : ℕ) → Type 0
FeedRight q0 feed = (1 ≤ feed) × (feed ≤ q0)

-- every point that an arc of N about a centre still visits, from a point to an end, is in travel
abbrev pub VisitsInTravel : Travel → Arc → (at : Point) → Type 0
VisitsInTravel t a at =
    (p : Offset) → ToVisit a.square a.turn (seen_from a.centre at) (seen_from a.centre a.end) p
    → InTravel t (back_from a.centre p)

-- "a line in work has start and end in travel and different, feed in 1..q0, cycles done in 0..q-1 and the point that "Lines" gives"
pub record LineSound (q0 : ℕ) (t : Travel) (at : Point) (l : Line) : Type 0 where
  pub start : InTravel t l.start
  pub end : InTravel t l.end
  pub different : l.start ≢ l.end
  pub feed : FeedRight q0 l.feed
  pub done : l.done < line_cycles l.start l.end
  pub point : at ≡ line_point l.start l.end l.done
  -- the record keeps q, which is the line's own
  pub cycles : l.cycles ≡ line_cycles l.start l.end

-- "an arc in work has feed in 1..q0, N in 1..2,000,000,000,000, point and end both circle points of N about a centre within ±2,000,000, and
-- every point still to visit in travel. Point equal to end then means a full turn not begun.": `Ends` counts at least one cycle, so that
-- all points are still to visit there
pub record ArcSound (q0 : ℕ) (t : Travel) (at : Point) (a : Arc) : Type 0 where
  pub feed : FeedRight q0 a.feed
  pub square : (1 ≤ a.square) × (a.square ≤ 2000000000000)
  pub point : Circle a.square (seen_from a.centre at)
  pub end : Circle a.square (seen_from a.centre a.end)
  pub centre : Near 2000000 a.centre
  pub visits : VisitsInTravel t a at

abbrev pub WorkSound : (q0 : ℕ) → Travel → (at : Point) → Work → Type 0
WorkSound q0 t at Work.Nothing = Unit {0}
WorkSound q0 t at (Work.Line l) = LineSound q0 t at l
WorkSound q0 t at (Work.Arc a) = ArcSound q0 t at a

-- "A record is sound if settings pass questions 1 to 3; the point is in travel; the remainder is below q0;" and what is in work is sound.
-- 02 §2: "A sound remainder is below 1,414 × q0."
pub record BenchSound (k : Bench) : Type 0 where
  pub settings : AllYes (settings_questions k.settings)
  pub point : InTravel k.settings.travel k.at
  pub remainder : k.remainder < diagonal * capacity_of k.settings
  pub work : WorkSound (capacity_of k.settings) k.settings.travel k.at k.work
