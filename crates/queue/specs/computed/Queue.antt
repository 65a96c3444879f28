-- The test of a queue: blocks accepted in turn, each with its root.
use Rattle.std.specs.Prelude.{Bool, true, ◌&&◌, List, [], ◌∷◌, ℕ, leb, eqb, length}
use Rattle.plane.specs.declared.point.Point.{Point}
use Rattle.plane.specs.declared.travel.Travel.{Travel}
use Rattle.block.specs.Chain.{end_after, root_of}
use Rattle.block.specs.computed.Chain.{chain_accepted}
use Rattle.queue.specs.declared.Waiting.{Waiting}
use Rattle.queue.specs.declared.Queue.{Queue}
use Rattle.queue.specs.Queue.{places, waiting}

-- each keeps its own root, from the end of the one before
unfoldable pub roots_right : (start : Point) → List Waiting → Bool
roots_right start [] = true
roots_right start (w ∷ l) = eqb w.root (root_of start w.block) && roots_right (end_after start w.block) l

-- "only waiting blocks that would be accepted in turn", behind a block that ends at from; and "up to 16". Every array has 16 places, so the
-- code need not ask that.
unfoldable pub queue_sound : (q0 : ℕ) → Travel → (from : Point) → Queue → Bool
queue_sound q0 t from q =
    eqb (length q.blocks) 16 && (leb q.len 16 && (chain_accepted q0 t from (waiting q) && roots_right from (places q)))
