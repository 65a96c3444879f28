-- 01, "The check program": the listing of a job.
use Rattle.std.specs.Prelude.{List, [], ◌∷◌, ◌++◌, ℕ, ◌+◌, length}
use Rattle.block.specs.declared.Path.{Path}
use Rattle.block.specs.Block.{block_cycles, block_width}
use Rattle.book.specs.Ledger.{block_ticks, block_leaves}
use Rattle.row.specs.declared.lines.Kind.{Kind}
use Rattle.row.specs.Lines.{header_line, block_line, total_line, refused_line}
use Rattle.job.specs.Job.{Made, End, Job}

-- "L or A"
abbrev pub path_kind : Path → Kind
path_kind Path.Line = Kind.Line
path_kind (Path.Arc turn centre) = Kind.Arc

abbrev pub made_cycles : Made → ℕ
made_cycles m = block_cycles m.start m.block

-- "Fields: block number, text line, L or A, cycles, absolute end, register width"
abbrev pub made_line : (number : ℕ) → Made → List ℕ
made_line n m =
    block_line n m.text_line (path_kind m.block.path) (made_cycles m) m.block.end.x m.block.end.y
    (block_width m.start m.block)

-- numbered from n on
unfoldable pub rows : (n : ℕ) → List Made → List ℕ
rows n [] = []
rows n (m ∷ ms) = made_line n m ++ rows (n + 1) ms

unfoldable pub all_cycles : List Made → ℕ
all_cycles [] = 0
all_cycles (m ∷ ms) = made_cycles m + all_cycles ms

-- 02 §2: "in a history that is its working tick ⌈(C × q0 - r) / (1,000 × f)⌉". A job is cut from a fresh machine on, so this is the number
-- of working ticks of each block, r the remainder at its load.
abbrev pub made_ticks : (q0 r : ℕ) → Made → ℕ
made_ticks q0 r m = block_ticks q0 r m.start m.block

-- "remainder kept"
abbrev pub made_leaves : (q0 r : ℕ) → Made → ℕ
made_leaves q0 r m = block_leaves q0 r m.start m.block

-- the ticks of all blocks, the first of which is loaded at remainder r
unfoldable pub all_ticks : (q0 r : ℕ) → List Made → ℕ
all_ticks q0 r [] = 0
all_ticks q0 r (m ∷ ms) = made_ticks q0 r m + all_ticks q0 (made_leaves q0 r m) ms

-- "the last line gives blocks, cycles and ticks"; "At a refusal the rows so far stand and the last line is `line 3 refused 15` with its own
-- numbers."
abbrev pub last_line : (q0 : ℕ) → List Made → End → List ℕ
last_line q0 ms End.complete = total_line (length ms) (all_cycles ms) (all_ticks q0 0 ms)
last_line q0 ms (End.refused n number) = refused_line n number

abbrev pub job_listing : (q0 : ℕ) → Job → List ℕ
job_listing q0 j = header_line ++ (rows 1 j.blocks ++ last_line q0 j.blocks j.end)
