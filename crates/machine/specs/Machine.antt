-- 02 §3, Sixteen blocks waiting: the record of a bench and a queue, with its figure; a fresh one; where the next block starts.
use Rattle.std.specs.Prelude.{List, ℕ, ◌+◌}
use Rattle.plane.specs.declared.point.Point.{Point}
use Rattle.block.specs.declared.Block.{Block}
use Rattle.block.specs.Chain.{chain_end, chain_cycles}
use Rattle.queue.specs.declared.Queue.{Queue}
use Rattle.queue.specs.Queue.{waiting, empty_queue}
use Rattle.work.specs.declared.Work.{Work}
use Rattle.work.specs.Work.{cycles_left, end_of}
use Rattle.work.specs.Work.{root_in}
use Rattle.settings.specs.declared.Settings.{Settings}
use Rattle.bench.specs.declared.Bench.{Bench}
use Rattle.bench.specs.Bench.{fresh_of as fresh_bench}
use Rattle.machine.specs.declared.Machine.{Machine}

-- "the cycles still to do over the block in work and all waiting", counted afresh; of a line in work by the q that it keeps, which a sound
-- bench has right
unfoldable pub to_do : (at : Point) → Work → List Block → ℕ
to_do at w l = cycles_left at w + chain_cycles (end_of at w) l

-- the record of a bench and the blocks that wait: "The record keeps the cycles still to do over the block in work and all waiting."
unfoldable pub machine_of : Bench → Queue → Machine
machine_of k q = record { bench = k; root = root_in k.work; left = to_do k.at k.work (waiting q); queue = q }

-- 01: "A fresh machine stands at (0, 0), idle, not held, remainder 0."
abbrev pub fresh_of : Settings → Machine
fresh_of s = machine_of (fresh_bench s) empty_queue

-- "start from the end of the last waiting block, else of the block in work, else from the point"
abbrev pub start_of : Bench → Queue → Point
start_of k q = chain_end (end_of k.at k.work) (waiting q)
