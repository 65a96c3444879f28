-- Demand 2, arcs: "The points of an accepted arc are the least-error points of its circle, in order of angle."
use Rattle.std.specs.Prelude.{◌≡◌, Bool, true, false, ◌≢◌, ◌↔◌, List, [], ◌∷◌, ℕ, ◌+◌, ◌-◌, ◌*◌, ◌≤◌, ◌<◌, ℤ, pos, nat_abs, ◌+ℤ◌, ◌-ℤ◌, Ok}
use Rattle.std.specs.Prelude.{◌*ℤ◌, ◌<ℤ◌}
use Rattle.whole.specs.Width.{width_of}
use Rattle.plane.specs.declared.point.Point.{Point}
use Rattle.plane.specs.declared.pulse.Pulses.{Pulses}
use Rattle.plane.specs.Pulse.{shifted_of, pulses_between}
use Rattle.plane.specs.Byte.{cycle_byte, cycles_marked, end_mark}
use Rattle.circle.specs.declared.plane.Offset.{Offset}
use Rattle.circle.specs.declared.plane.Turn.{Turn}
use Rattle.circle.specs.Circle.{square, Circle, offset}
use Rattle.circle.specs.Next.{Next, Walk, Ends}
use Rattle.arc.specs.declared.arc.Arc.{Arc}
use Rattle.arc.specs.Centre.{seen_from}
use Rattle.block.specs.declared.Block.{Block}
use Rattle.block.specs.declared.Path.{Path}
use Rattle.block.specs.Block.{square_of, arc_of}
use Rattle.block.specs.Chain.{end_after}
use Rattle.block.specs.Charge.{arc_step_charge}
use Rattle.queue.specs.Queue.{waiting}
use Rattle.work.specs.declared.Work.{Work}
use Rattle.work.specs.Work.{cycles_left, charges_for}
use Rattle.settings.specs.Settings.{capacity_of}
use Rattle.bench.specs.declared.Bench.{Bench}
use Rattle.bench.specs.declared.Answer.{Answer}
use Rattle.bench.specs.declared.Ticked.{Ticked as BenchTicked}
use Rattle.bench.specs.Bench.{moved_of}
use Rattle.machine.specs.declared.Machine.{Machine}
use Rattle.machine.specs.declared.Answered.{Answered}
use Rattle.machine.specs.declared.Ticked.{Ticked}
use Rattle.book.specs.Ledger.{CountedAlong}
use Rattle.history.specs.CallContracts.{Loads, Ticks}
use Rattle.demands.specs.Asked.{AllYes}
use Rattle.demands.specs.Sound.{work_end, Sound}
use Rattle.demands.specs.Questions.{next_start, load_questions}
use Rattle.demands.specs.Taken.{Taken, TicksAs}
use Rattle.demands.specs.Runs.{TicksTo}

-- ---- least error

-- "That is the nearest point along the longer coordinate; no ties occur." x is the longer coordinate. The circle meets the line of points
-- with this y at ±c, c² = N - y², and c has the sign of x. Every other whole z lies farther from c than x does: c is on x's side of the
-- middle (x + z) / 2, and (x + z)² beside 4 c² tells on which side that is.
pub record NearestAlong (N : ℕ) (x y : ℤ) : Type 0 where
  -- the circle does meet that line, on either side of y's axis
  pub meets : square y <ℤ pos N
  -- z farther out than x: the middle lies outside the circle
  pub outside : (z : ℤ) → pos 0 <ℤ (x *ℤ (z -ℤ x)) → (pos 4 *ℤ pos N) <ℤ (square (x +ℤ z) +ℤ (pos 4 *ℤ square y))
  -- z farther in, also beyond y's axis: the middle lies inside the circle, or beyond that axis
  pub inside : (z : ℤ) → (x *ℤ (z -ℤ x)) <ℤ pos 0 → pos 0 <ℤ (x *ℤ (x +ℤ z))
      → (square (x +ℤ z) +ℤ (pos 4 *ℤ square y)) <ℤ (pos 4 *ℤ pos N)

pub record LeastError (N : ℕ) (p : Offset) : Type 0 where
  pub along_x : nat_abs p.y ≤ nat_abs p.x → NearestAlong N p.x p.y
  pub along_y : nat_abs p.x ≤ nat_abs p.y → NearestAlong N p.y p.x

-- ---- an accepted arc

pub record ArcLoaded (m : Machine) (b : Block) (turn : Turn) (centre : Offset) (r : Answered) : Type 0 where
  -- "(I, J) is the centre seen from the start; N = I² + J²."
  pub taken : Taken m b (Work.Arc (arc_of (next_start m) b turn centre)) r.machine
  -- "the fewest bits that hold .. for an arc its m on an axis": such a circle point there is, and only one
  pub axis : ℕ
  pub on_axis : (n : ℕ) → Circle (square_of centre) (offset (pos n) (pos 0)) ↔ (n ≡ axis)
  pub width : r.answer ≡ Ok (Answer.Width (width_of axis))

-- ---- a tick

-- the step about to be made leads to the paper's next point, and its pulses tell the way
pub record ArcStep (m : Bench) (a : Arc) : Type 0 where
  pub at : Point
  pub next : Next a.square a.turn (seen_from a.centre m.at) (seen_from a.centre at)
  pub pulses : Pulses
  pub small : (pulses.x ≤ 2) × (pulses.y ≤ 2)
  pub moved : at ≡ shifted_of m.at pulses

-- 02 §2: "A tick adds 1,000 × f."
abbrev pub arc_sum : Bench → Arc → ℕ
arc_sum m a = m.remainder + 1000 * a.feed

-- 02 §2: "a straight arc step is charged 1,000 and a diagonal one 1,414. .. A cycle is due when the remainder reaches its charge times q0"
abbrev pub arc_due : {m : Bench} {a : Arc} → ArcStep m a → ℕ
arc_due {m} s = arc_step_charge s.pulses * capacity_of m.settings

-- answer and record of its cycle
abbrev pub arc_cycled : {m : Bench} {a : Arc} → ArcStep m a → (ended : Bool) → Work → BenchTicked
arc_cycled {m} {a} s ended work =
    record { tick = Ok (cycle_byte s.pulses ended); bench = moved_of m s.at (arc_sum m a - arc_due s) work }

-- a working tick of a bench with an arc in work
pub record ArcTick (m : Bench) (a : Arc) (r : BenchTicked) : Type 0 where
  pub step : ArcStep m a
  pub waits : arc_sum m a < arc_due step → r ≡ record { tick = Ok 0; bench = moved_of m m.at (arc_sum m a) (Work.Arc a) }
  -- ".. one a cycle, to the end."
  pub going : arc_due step ≤ arc_sum m a → step.at ≢ a.end → r ≡ arc_cycled step false (Work.Arc a)
  pub last : arc_due step ≤ arc_sum m a → step.at ≡ a.end → r ≡ arc_cycled step true Work.Nothing

-- what the next c cycles of an arc are charged adds up along the paper's walk, each step by its pulses
pub record ArcCharges (m : Bench) (a : Arc) : Type 0 where
  pub none : charges_for m.at (Work.Arc a) 0 ≡ 0
  pub more : (c : ℕ) (u v : Point) → Walk a.square a.turn (seen_from a.centre m.at) c (seen_from a.centre u)
      → Next a.square a.turn (seen_from a.centre u) (seen_from a.centre v)
      → charges_for m.at (Work.Arc a) (c + 1) ≡ charges_for m.at (Work.Arc a) c + arc_step_charge (pulses_between u v)

-- ticks of one block: none of them but the last marks a block's end
abbrev pub OneBlock : (bytes : List ℕ) → Type 0
OneBlock [] = Unit {0}
OneBlock (b ∷ []) = Unit {0}
OneBlock (b ∷ c ∷ later) = (end_mark b ≡ 0) × OneBlock (c ∷ later)

-- the cycles of blocks that wait one behind the other, of each arc those of its walk from where it will start
abbrev pub CountedInTurn : (start : Point) → List Block → Type 0
CountedInTurn start [] = Unit {0}
CountedInTurn start (b ∷ later) = CountedAlong start b b.path × CountedInTurn (end_after start b) later

pub record EveryArc : Type 0 where
  -- "a circle point .. is the nearest point along the longer coordinate", and every such point but the centre is one
  pub least_error : (N : ℕ) (p : Offset) → Circle N p ↔ ((1 ≤ nat_abs p.x + nat_abs p.y) × LeastError N p)
  pub load : (m : Machine) (b : Block) (r : Answered) → Loads m b r → AllYes (load_questions m b)
      → (turn : Turn) (centre : Offset) → b.path ≡ Path.Arc turn centre → ArcLoaded m b turn centre r
  pub tick : (m : Machine) (a : Arc) (r : Ticked) → Ticks m r → Sound m → m.bench.work ≡ Work.Arc a → m.bench.held ≡ false
      → TicksAs (ArcTick m.bench a) m r
  -- the cycles left, which the feed divider counts, are those of the paper's walk to the end
  pub cycles_left_lem : (m : Machine) (a : Arc) → Sound m → m.bench.work ≡ Work.Arc a
      → Ends a.square a.turn (seen_from a.centre m.bench.at) (seen_from a.centre a.end)
      (cycles_left m.bench.at m.bench.work)
  -- and so are those of the arcs that wait, which the figure counts
  pub waiting_cycles : (m : Machine) → Sound m → CountedInTurn (work_end m) (waiting m.queue)
  -- so are the charges of the arc in work, by which a run and a block's end tick go
  pub charges : (m : Machine) (a : Arc) → Sound m → m.bench.work ≡ Work.Arc a → ArcCharges m.bench a
  -- "The arc visits the circle points after the start in order of angle, one a cycle": after ticks of it whose bytes mark c cycles the
  -- walk has come c points on
  pub walk : (m m' : Machine) (a : Arc) (bytes : List ℕ) → Sound m → m.bench.work ≡ Work.Arc a → TicksTo m bytes m' → OneBlock bytes
      → Walk a.square a.turn (seen_from a.centre m.bench.at) (cycles_marked bytes) (seen_from a.centre m'.bench.at)
