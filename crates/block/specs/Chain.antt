-- 02 §3, Sixteen blocks waiting: a chain of blocks, each of which starts where the one before it ends.
use Rattle.std.specs.Prelude.{List, [], ◌∷◌, ℕ, ◌+◌}
use Rattle.plane.specs.declared.point.Point.{Point}
use Rattle.circle.specs.Circle.{quarter_of}
use Rattle.line.specs.Line.{line_cycles}
use Rattle.block.specs.declared.Block.{Block}
use Rattle.block.specs.declared.Path.{Path}
use Rattle.block.specs.Block.{square_of, block_cycles}

-- where a block ends that starts here: at its own end, of whatever kind it is (02 §6's arcs will hold a Z that is their start's)
abbrev pub end_after : (start : Point) → Block → Point
end_after start b = b.end

-- where the last of a chain ends; the start itself where there is none
unfoldable pub chain_end : (start : Point) → List Block → Point
chain_end start [] = start
chain_end start (b ∷ l) = chain_end (end_after start b) l

-- "the cycles still to do over .. all waiting"
unfoldable pub chain_cycles : (start : Point) → List Block → ℕ
chain_cycles start [] = 0
chain_cycles start (b ∷ l) = block_cycles start b + chain_cycles (end_after start b) l

-- ---- the root of a block, by which its cycles are known without taking one: q of a line, the cycles of a quarter turn of an arc

abbrev pub root_along : (start : Point) → Block → Path → ℕ
root_along start b Path.Line = line_cycles start b.end
root_along start b (Path.Arc turn centre) = quarter_of (square_of centre)

unfoldable pub root_of : (start : Point) → Block → ℕ
root_of start b = root_along start b b.path
