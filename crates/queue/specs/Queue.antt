-- 02 §3, Sixteen blocks waiting: "The machine shall hold up to 16 blocks after the one in work, first come first cut."
use Rattle.std.specs.Prelude.{List, [], ◌∷◌, ◌++◌, ◌+◌, ◌-◌, pos, length, take, drop, set, get_or, replicate}
use Rattle.plane.specs.declared.point.Point.{Point}
use Rattle.block.specs.declared.Block.{Block}
use Rattle.block.specs.declared.Path.{Path}
use Rattle.block.specs.Chain.{end_after, root_of}
use Rattle.queue.specs.declared.Waiting.{Waiting}
use Rattle.queue.specs.declared.Queue.{Queue}

-- ---- the blocks that wait, the first to be cut first

-- those in the first places; what the places after them hold is free
abbrev pub places : Queue → List Waiting
places q = take q.len q.blocks

abbrev pub blocks_of : List Waiting → List Block
blocks_of [] = []
blocks_of (w ∷ l) = w.block ∷ blocks_of l

abbrev pub waiting : Queue → List Block
waiting q = blocks_of (places q)

-- ---- an empty queue, a block more, the first one less

-- what a place holds that no block has come into
abbrev pub blank : Waiting
blank = record { block = record { path = Path.Line; end = record { x = pos 0; y = pos 0 }; feed = 0 }; root = 0 }

unfoldable pub empty_queue : Queue
empty_queue = record { blocks = replicate 16 blank; len = 0 }

unfoldable pub pushed_of : Queue → Waiting → Queue
pushed_of q w = record { blocks = set q.blocks q.len w; len = q.len + 1 }

abbrev pub first_of : Queue → Waiting
first_of q = get_or q.blocks 0 blank

-- each block moves up a place, and the last place becomes blank
unfoldable pub popped_of : Queue → Queue
popped_of q = record { blocks = drop 1 q.blocks ++ (blank ∷ []); len = q.len - 1 }

-- ---- the queue that holds just these behind a block that ends at from, its other places blank: so a history's queue is told by the blocks
-- that wait

abbrev pub waiting_at : (start : Point) → Block → Waiting
waiting_at start b = record { block = b; root = root_of start b }

unfoldable pub rooted : (start : Point) → List Block → List Waiting
rooted start [] = []
rooted start (b ∷ l) = waiting_at start b ∷ rooted (end_after start b) l

unfoldable pub queue_of : (from : Point) → List Block → Queue
queue_of from l = record { blocks = rooted from l ++ replicate (16 - length l) blank; len = length l }
