-- A buffer that a line is written into, from a place on.
use Rattle.std.specs.Prelude.{ℕ, ◌+◌, Bool, cond, List, ◌++◌, length, take, drop, leb, None, Some}
use Rattle.std.specs.declared.option.Option.{Option}
use Rattle.row.specs.declared.lines.BlockRow.{BlockRow}
use Rattle.row.specs.Lines.{block_line}

-- the bytes that hold every line of the listing
abbrev pub line_room : ℕ
line_room = 160

-- room for every line of the listing, whichever is written, from the place on
abbrev pub has_room : (buffer : List ℕ) (at : ℕ) → Bool
has_room buffer at = leb (at + line_room) (length buffer)

-- what stood before the place, the line, and what stood after it
unfoldable pub placed : (line buffer : List ℕ) (at : ℕ) → List ℕ
placed line buffer at = take at buffer ++ line ++ drop (at + length line) buffer

-- with room the line is placed; else the buffer is as it was
abbrev pub buffer_after : (line buffer : List ℕ) (at : ℕ) → List ℕ
buffer_after line buffer at = cond (has_room buffer at) (placed line buffer at) buffer

abbrev pub place_after : (line buffer : List ℕ) (at : ℕ) → Option ℕ
place_after line buffer at = cond (has_room buffer at) (Some (at + length line)) None

-- the row of a block
abbrev pub row_of : BlockRow → List ℕ
row_of r = block_line r.block r.line r.kind r.cycles r.x r.y r.bits
