-- 02 §3, Sixteen blocks waiting: what an accepted load does with its block, and what a tick does for the blocks that wait.
use Rattle.std.specs.Prelude.{◌≡◌, ◌≢◌, List, [], ◌∷◌, ◌++◌}
use Rattle.plane.specs.declared.point.Point.{Point}
use Rattle.block.specs.declared.Block.{Block}
use Rattle.queue.specs.Queue.{waiting, pushed_of, waiting_at}
use Rattle.work.specs.declared.Work.{Work}
use Rattle.work.specs.Work.{begun_of}
use Rattle.bench.specs.declared.Ticked.{Ticked as BenchTicked}
use Rattle.machine.specs.declared.Machine.{Machine}
use Rattle.machine.specs.declared.Ticked.{Ticked}
use Rattle.machine.specs.Machine.{machine_of}
use Rattle.machine.specs.Calls.{beginning, going_on}
use Rattle.demands.specs.Questions.{next_start}

-- a block that no question refused, which in work is `work`, and the record after it
pub record Taken (m : Machine) (b : Block) (work : Work) (m' : Machine) : Type 0 where
  -- with nothing in work it comes into work, the point and the remainder as they are
  pub begins : m.bench.work ≡ Work.Nothing → m' ≡ machine_of (beginning m.bench work) m.queue
  -- "The machine shall hold up to 16 blocks after the one in work, first come first cut.": else it waits, behind all others
  pub waits : m.bench.work ≢ Work.Nothing → m' ≡ machine_of m.bench (pushed_of m.queue (waiting_at (next_start m) b))
  pub last : m.bench.work ≢ Work.Nothing → waiting m'.queue ≡ waiting m.queue ++ (b ∷ [])

-- the record m' where a block has ended at this point, behind which those of the list waited: "When a block ends, the first waiting one
-- becomes the one in work"
abbrev pub ComesIn : (at : Point) → List Block → Machine → Type 0
ComesIn at [] m' = (m'.bench.work ≡ Work.Nothing) × (waiting m'.queue ≡ [])
ComesIn at (b ∷ later) m' = (m'.bench.work ≡ (begun_of at b).work) × (waiting m'.queue ≡ later)

-- a tick does with the bench what Does says, and then, where its block has ended, the next one comes into work; it does nothing for that
-- one, which has "the remainder then"
abbrev pub TicksAs : (Does : BenchTicked → Type 0) → Machine → Ticked → Type 0
TicksAs Does m r =
    (t : BenchTicked) × Does t × (r ≡ going_on m t)
    × (t.bench.work ≡ Work.Nothing → ComesIn t.bench.at (waiting m.queue) r.machine)
    × (r.machine.bench.remainder ≡ t.bench.remainder)
