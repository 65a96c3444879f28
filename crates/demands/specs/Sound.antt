-- 02 §3: "A sound record has this figure right, only waiting blocks that would be accepted in turn, and none waiting when nothing is in
-- work." What 01 asks of the rest of the record is in Bench.
use Rattle.std.specs.Prelude.{◌≡◌, List, [], ◌∷◌, ◌+◌, ◌≤◌, length}
use Rattle.plane.specs.declared.point.Point.{Point}
use Rattle.block.specs.declared.Block.{Block}
use Rattle.block.specs.Chain.{end_after, chain_cycles, root_of}
use Rattle.queue.specs.declared.Waiting.{Waiting}
use Rattle.queue.specs.Queue as queue
use Rattle.work.specs.declared.Work.{Work}
use Rattle.work.specs.Work.{cycles_left, end_of}
use Rattle.work.specs.Work.{root_in}
use Rattle.settings.specs.declared.Settings.{Settings}
use Rattle.machine.specs.declared.Machine.{Machine}
use Rattle.settings.specs.Settings.{feed_unit}
use Rattle.demands.specs.Asked.{AllYes}
use Rattle.demands.specs.Bench.{BenchSound}
use Rattle.demands.specs.Block.{block_questions}

-- "only waiting blocks that would be accepted in turn": load's questions, of each block from the end of the one before it. 10, whether
-- fewer than 16 wait, had a yes for every one of 16 at most.
abbrev pub AcceptedInTurn : Settings → (start : Point) → List Block → Type 0
AcceptedInTurn s start [] = Unit {0}
AcceptedInTurn s start (b ∷ later) = AllYes (block_questions feed_unit (Unit {0}) s start b) × AcceptedInTurn s (end_after start b) later

-- each keeps its own root
abbrev pub RootsKept : (start : Point) → List Waiting → Type 0
RootsKept start [] = Unit {0}
RootsKept start (w ∷ later) = (w.root ≡ root_of start w.block) × RootsKept (end_after start w.block) later

-- where the block in work ends; the point where nothing is in work
abbrev pub work_end : Machine → Point
work_end m = end_of m.bench.at m.bench.work

pub record Sound (m : Machine) : Type 0 where
  pub bench : BenchSound m.bench
  -- "The machine shall hold up to 16 blocks after the one in work"
  pub most : m.queue.len ≤ 16
  pub waiting : AcceptedInTurn m.bench.settings (work_end m) (queue.waiting m.queue)
  pub idle : m.bench.work ≡ Work.Nothing → m.queue.len ≡ 0
  -- "The record keeps the cycles still to do over the block in work and all waiting."
  pub figure : m.left ≡ cycles_left m.bench.at m.bench.work + chain_cycles (work_end m) (queue.waiting m.queue)
  -- numbers that 02 does not name, by which the count is made without a root
  pub root : m.root ≡ root_in m.bench.work
  pub roots : RootsKept (work_end m) (queue.places m.queue)
  -- every array of the code has its sixteen places
  pub places : length m.queue.blocks ≡ 16
