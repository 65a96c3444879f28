-- The test of a queue as the code makes it: from block to block, taking each one's cycles off a count that must come to 0.
use Rattle.std.specs.Prelude.{Bool, true, Option, Some, None, cond, ◌&&◌, List, [], ◌∷◌, ℕ, ◌-◌, leb, eqb}
use Rattle.plane.specs.declared.point.Point.{Point}
use Rattle.plane.specs.declared.travel.Travel.{Travel}
use Rattle.block.specs.Block.{block_cycles}
use Rattle.block.specs.Questions.{load_no}
use Rattle.block.specs.Chain.{end_after, root_of}
use Rattle.queue.specs.declared.Waiting.{Waiting}

-- one that waits, and the count before it
abbrev pub fits : (q0 : ℕ) → Travel → (start : Point) → Waiting → (count : ℕ) → Bool
fits q0 t start w count =
    eqb (load_no q0 t true start w.block) 0 && (eqb w.root (root_of start w.block) && leb (block_cycles start w.block) count)

-- what is left of the count without its cycles
unfoldable pub taken_off : (q0 : ℕ) → Travel → (start : Point) → Waiting → (count : ℕ) → Option ℕ
taken_off q0 t start w count = cond (fits q0 t start w count) (Some (count - block_cycles start w.block)) None

unfoldable pub chain_holds : (q0 : ℕ) → Travel → (start : Point) (count : ℕ) → List Waiting → Bool
chain_holds q0 t start count [] = eqb count 0
chain_holds q0 t start count (w ∷ l) =
    fits q0 t start w count && chain_holds q0 t (end_after start w.block) (count - block_cycles start w.block) l
