-- The accounts of a history: one of every block that was accepted, by the book. Demand 3: "A block not stopped has ended exactly when
-- it has had the working ticks that the feed gives; the last of them leaves the point on the block's commanded end."
use Rattle.std.specs.Prelude.{◌≡◌, true, List, [], ◌∷◌, ◌++◌, ℕ, ◌+◌, ◌-◌, ◌*◌, ◌≤◌, ◌<◌}
use Rattle.plane.specs.declared.point.Point.{Point}
use Rattle.plane.specs.declared.travel.Travel.{Travel}
use Rattle.circle.specs.declared.plane.Offset.{Offset}
use Rattle.circle.specs.declared.plane.Turn.{Turn}
use Rattle.circle.specs.Charge.{straight}
use Rattle.divider.specs.Divider.{end_tick}
use Rattle.block.specs.declared.Block.{Block}
use Rattle.block.specs.declared.Path.{Path}
use Rattle.block.specs.Block.{cycles_along, point_along}
use Rattle.block.specs.Charge.{block_charges}
use Rattle.block.specs.Questions.{load_no}
use Rattle.block.specs.Chain.{end_after}
use Rattle.book.specs.Bench.{InWork, Bench, added_by, work_end, bench_tick, bench_run}
use Rattle.book.specs.Book.{Book, Call, Reply, fresh_book, entry, closing}
use Rattle.book.specs.Sums.{working_ticks}
use Rattle.book.specs.Bounds.{WalkedTo, EndsOn}

-- waiting; in work; ended, with the point that its last working tick left; or stopped: "A block is stopped if a stop dropped it." 02 §3:
-- "Stop empties the queue, and the blocks that waited there count as stopped."
pub data Fate : Type 0 where
  is_waiting : Fate
  in_work : Fate
  ended_at : Point → Fate
  was_stopped : Fate
  -- and this one while it waited
  stopped_waiting : Fate

pub record Account : Type 0 where
  pub block : Block
  -- where it came into work; of a block that did not, where it would
  pub start : Point
  -- the remainder then; of a block that did not come into work, 0
  pub remainder : ℕ
  -- the working ticks that it has had
  pub ticks : ℕ
  pub fate : Fate

abbrev pub account : Fate → (start : Point) (remainder : ℕ) → Block → Account
account f start r k = record { block = k; start = start; remainder = r; ticks = 0; fate = f }

-- ---- the accounts after a call, the newest first

-- 02 §3: "When a block ends, the first waiting one becomes the one in work .. Its end tick counts from there, with the remainder then."
abbrev pub comes_in : Bench → InWork → (waiting : List Block) → List Account → List Account
comes_in k (InWork.working j) l older = older
comes_in k InWork.nothing [] older = older
comes_in k InWork.nothing (b ∷ l) older = account Fate.in_work k.at k.remainder b ∷ older

-- a load that answers a width: the block is the last of those that wait, and comes into work at once where nothing is in work
abbrev pub opened : Book → Block → Reply → List Account → List Account
opened b k (Reply.width bits) older = comes_in b.bench b.bench.work (b.waiting ++ (k ∷ [])) older
opened b k (Reply.refused number) older = older
opened b k Reply.done older = older
opened b k (Reply.byte code) older = older
opened b k (Reply.ran report ticks bytes) older = older

abbrev pub while_in_work : (Account → Account) → Account → Fate → Account
while_in_work f a Fate.is_waiting = a
while_in_work f a Fate.in_work = f a
while_in_work f a (Fate.ended_at p) = a
while_in_work f a Fate.was_stopped = a
while_in_work f a Fate.stopped_waiting = a

-- a block comes into work where none is, so only the newest can be in work
abbrev pub newest : (Account → Account) → List Account → List Account
newest f [] = []
newest f (a ∷ older) = while_in_work f a a.fate ∷ older

abbrev pub worked : (ticks : ℕ) → Fate → Account → Account
worked n fate a = record { block = a.block; start = a.start; remainder = a.remainder; ticks = a.ticks + n; fate = fate }

abbrev pub fate_at : Point → InWork → Fate
fate_at at InWork.nothing = Fate.ended_at at
fate_at at (InWork.working j) = Fate.in_work

-- blocks that did not come into work, in a chain from `start`
abbrev pub unbegun : Fate → (start : Point) → List Block → List Account → List Account
unbegun f start [] older = older
unbegun f start (k ∷ l) older = unbegun f (end_after start k) l (account f start 0 k ∷ older)

module _ (q0 : ℕ) (travel : Travel) where
  -- a tick or a run that leaves the bench `after`: with nothing in work there, the block has ended
  abbrev pub ticked : Book → Call → (after : Bench) → List Account → List Account
  ticked b c after older =
      comes_in after after.work b.waiting (newest (worked (working_ticks q0 travel b c) (fate_at after.at after.work)) older)

  abbrev pub accounts_after : Book → Call → List Account → List Account
  accounts_after b (Call.load k) older = opened b k (entry q0 travel b (Call.load k)).reply older
  accounts_after b Call.tick older = ticked b Call.tick (bench_tick q0 b.bench).after older
  accounts_after b (Call.run budget buffer) older = ticked b (Call.run budget buffer) (bench_run q0 b.bench budget buffer).after older
  accounts_after b Call.hold older = older
  accounts_after b Call.release older = older
  accounts_after b Call.stop older = unbegun Fate.stopped_waiting (work_end b.bench) b.waiting (newest (worked 0 Fate.was_stopped) older)

  -- the blocks that came into work or were stopped
  unfoldable pub ledger : List Account → Book → List Call → List Account
  ledger older b [] = older
  ledger older b (c ∷ cs) = ledger (accounts_after b c older) (entry q0 travel b c).next cs

  -- and those that wait: every accepted block
  abbrev pub accounts : List Call → List Account
  accounts cs =
      let b = closing q0 travel fresh_book cs in
      unbegun Fate.is_waiting (work_end b.bench) b.waiting (ledger [] fresh_book cs)

-- ---- 02 §3: "first come first cut": the blocks of the accounts, the oldest first, are those that loads took, in the order of the loads

unfoldable pub in_order : List Account → List Block
in_order [] = []
in_order (a ∷ older) = in_order older ++ (a.block ∷ [])

abbrev pub taken_by : Call → Reply → List Block
taken_by (Call.load k) (Reply.width bits) = k ∷ []
taken_by (Call.load k) (Reply.refused number) = []
taken_by (Call.load k) Reply.done = []
taken_by (Call.load k) (Reply.byte code) = []
taken_by (Call.load k) (Reply.ran report ticks bytes) = []
taken_by Call.tick r = []
taken_by (Call.run budget buffer) r = []
taken_by Call.hold r = []
taken_by Call.release r = []
taken_by Call.stop r = []

unfoldable pub taken : List Call → List Reply → List Block
taken [] rs = []
taken (c ∷ cs) [] = []
taken (c ∷ cs) (r ∷ rs) = taken_by c r ++ taken cs rs

-- ---- what demand 3 says of an account

-- 01, Feed divider: "A block of k cycles .., loaded at remainder r, ends on its working tick ⌈(k × q0 - r) / f⌉". 02 §2: "A block ends on
-- the tick that stepping by this rule gives; in a history that is its working tick ⌈(C × q0 - r) / (1,000 × f)⌉, C being the sum of its
-- charges." 02 §3, of a block that waited: r is "the remainder then", when it comes into work.
abbrev pub block_ticks : (q0 r : ℕ) (start : Point) → Block → ℕ
block_ticks q0 r start b = end_tick (block_charges start b * q0) (added_by b) r

-- 01: "The remainder goes over to the next block.": r and what these ticks add, less its charges times q0
abbrev pub block_leaves : (q0 r : ℕ) (start : Point) → Block → ℕ
block_leaves q0 r start b = r + block_ticks q0 r start b * added_by b - block_charges start b * q0

-- "The working ticks that the feed gives are the number under "Feed divider"."
abbrev pub ticks_given : (q0 : ℕ) → Account → ℕ
ticks_given q0 a = block_ticks q0 a.remainder a.start a.block

-- "The commanded end is the one given at load."
abbrev pub RightFate : (q0 : ℕ) → Account → Fate → Type 0
RightFate q0 a Fate.is_waiting = a.ticks ≡ 0
RightFate q0 a Fate.in_work = a.ticks < ticks_given q0 a
RightFate q0 a (Fate.ended_at p) = (a.ticks ≡ ticks_given q0 a) × (p ≡ a.block.end)
RightFate q0 a Fate.was_stopped = a.ticks < ticks_given q0 a
RightFate q0 a Fate.stopped_waiting = a.ticks ≡ 0

abbrev pub Right : (q0 : ℕ) → Account → Type 0
Right q0 a = RightFate q0 a a.fate

-- the feed gives every block a working tick at least: one that has had none, as while it waits, has not ended
abbrev pub Given : (q0 : ℕ) → Account → Type 0
Given q0 a = 1 ≤ ticks_given q0 a

-- at the place where a block is cut, or is to be cut, none of load's questions has a no
abbrev pub AcceptedThere : (q0 : ℕ) → Travel → Account → Type 0
AcceptedThere q0 t a = load_no q0 t true a.start a.block ≡ 0

abbrev pub Every : (Account → Type 0) → List Account → Type 0
Every P [] = Unit {0}
Every P (a ∷ older) = P a × Every P older

-- "in a history": no block comes into work there at a remainder that pays for a cycle. A sound record may hold one, and a block that begins
-- with it can need more ticks than that number, for each cycle takes one.
abbrev pub BeginsBelow : (q0 : ℕ) → Account → Type 0
BeginsBelow q0 a = a.remainder < straight * q0

-- 01, Feed divider: "A block of k cycles (q for a line, the number of visited points for an arc)". C sums up the charges of the steps
-- between its points: an arc's are those of its walk.
pub record CountedArc (start end : Point) (turn : Turn) (centre : Offset) (k : ℕ) (point : ℕ → Point) : Type 0 where
  pub ends : EndsOn start end turn centre k
  pub walk : (c : ℕ) → WalkedTo start turn centre c (point c)

abbrev pub CountedAlong : (start : Point) → Block → Path → Type 0
CountedAlong start b Path.Line = Unit {0}
CountedAlong start b (Path.Arc turn centre) =
    let p = Path.Arc turn centre in CountedArc start b.end turn centre (cycles_along start b p) (point_along start b p)

abbrev pub Counted : Account → Type 0
Counted a = CountedAlong a.start a.block a.block.path
