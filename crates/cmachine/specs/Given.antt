-- A block as a caller in C gives it.
use Rattle.std.specs.Prelude.{ℤ}
use Rattle.circle.specs.declared.plane.Turn.{Turn}
use Rattle.block.specs.declared.Block.{Block}
use Rattle.block.specs.declared.Path.{Path}
use Rattle.encoding.specs.Words.{count_of}

-- an arc by its way round and its centre seen from the start
abbrev pub arc_path : Turn → (i j : ℤ) → Path
arc_path turn i j = Path.Arc turn (record { x = i; y = j })

-- the block of a load; a negative feed number is 0, which question 11 refuses
abbrev pub block_given : Path → (x y feed : ℤ) → Block
block_given path x y feed = record { path = path; end = record { x = x; y = y }; feed = count_of feed }
