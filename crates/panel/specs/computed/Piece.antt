-- One call of the panel's check, for any state of it, any scratch buffer and any piece: what it answers, and what the buffers then hold.
use Rattle.std.specs.Prelude.{◌≡◌, Bool, true, false, cond, ◌&&◌, List, [], ◌++◌, ℕ, ◌+◌, ◌-◌, ◌≤◌, min, eqb, leb, ltb, length, take}
use Rattle.row.specs.computed.Buffer.{line_room, has_room, placed}
use Rattle.row.specs.Lines.{header_line, refused_line}
use Rattle.words.specs.computed.Scan.{first_line}
use Rattle.bench.specs.declared.Bench.{Bench}
use Rattle.reader.specs.computed.Reader.{longest_text, longest_line}
use Rattle.tally.specs.declared.Tally.{Tally}
use Rattle.tally.specs.computed.Tally.{listed_of, tally_from}
use Rattle.job.specs.declared.Stage.{Stage}
use Rattle.job.specs.computed.Check.{LastRow, last_row, totals}
use Rattle.panel.specs.declared.PanelCheck.{PanelCheck}
use Rattle.panel.specs.declared.Told.{Told}
use Rattle.panel.specs.declared.Come.{Come}
use Rattle.panel.specs.declared.PieceRead.{PieceRead}

-- 02 §5: "a scratch buffer of 81 bytes"
abbrev pub scratch_bytes : ℕ
scratch_bytes = longest_line + 1

abbrev pub check_at : Stage → (left held : ℕ) → Tally → PanelCheck
check_at stage left held t = record { stage = stage; left = left; held = held; tally = t }

unfoldable pub start_of : Bench → PanelCheck
start_of m = check_at Stage.Header longest_text 0 (tally_from m)

-- ---- the line that is being read

-- what the scratch buffer holds of it; a number beyond 81 counts as 81
abbrev pub held_in : (held : ℕ) (scratch : List ℕ) → List ℕ
held_in held scratch = take (min held scratch_bytes) scratch

-- the bytes of a piece that are of it: up to its LF, the end of the piece, or the last that the text may have
abbrev pub taken_of : (left : ℕ) (piece : List ℕ) → List ℕ
taken_of left piece = first_line (take left piece)

-- with these bytes more, as much of it as the scratch buffer takes: a longer line is counted, not kept
abbrev pub kept_of : (held : ℕ) (scratch bytes : List ℕ) → List ℕ
kept_of held scratch bytes = take scratch_bytes (held_in held scratch ++ bytes)

-- ---- what a call does

-- the row that it hands out, the bytes of the piece that it takes, what the scratch buffer then holds of a line, and the check after it
pub record Handed : Type 0 where
  pub row : List ℕ
  pub took : ℕ
  pub line : List ℕ
  pub check : PanelCheck

abbrev pub stage_after : (over : Bool) → Stage
stage_after true = Stage.Over
stage_after false = Stage.Lines

-- a line that has come to its end, after which the text may have so many bytes more; an LF, which only made-up bytes of the scratch buffer
-- can have, would end it before
abbrev pub line_handed : Tally → (left took : ℕ) (line : List ℕ) → Handed
line_handed t left took line =
    let g = listed_of t (first_line line) in
    record { row = g.bytes; took = took; line = []; check = check_at (stage_after g.over) left 0 g.tally }

-- the last row
abbrev pub last_handed : LastRow → Tally → (left took : ℕ) → Handed
last_handed last t left took = record { row = last_row last t; took = took; line = []; check = check_at Stage.Over left 0 t }

-- 02 §5: "30 follows with the line holding that byte". Counts that no text has get no row.
abbrev pub too_long : LastRow
too_long lines blocks cycles ticks = cond (leb lines longest_text) (refused_line (lines + 1) 30) []

-- a line that goes on in the next piece
abbrev pub wait_handed : Tally → (left took : ℕ) (line : List ℕ) → Handed
wait_handed t left took line = record { row = []; took = took; line = line; check = check_at Stage.Lines left (length line) t }

-- Where a byte stands behind those taken, it is a byte too many, or the LF of the line; else the piece is used up, and where it was the
-- last a line that lacks its LF ends there, or the text does.
abbrev pub come_of : (more : Bool) (left : ℕ) (last : Bool) (held : ℕ) → Come
come_of more left last held =
    cond more (cond (eqb left 0) Come.TooMany (Come.Line 1)) (cond last (cond (eqb held 0) Come.End (Come.Line 0)) Come.Wait)

abbrev pub handed_for : Come → Tally → (left took : ℕ) (line : List ℕ) → Handed
handed_for Come.TooMany t left took line = last_handed too_long t left took
handed_for Come.End t left took line = last_handed totals t left took
handed_for Come.Wait t left took line = wait_handed t left took line
handed_for (Come.Line lf) t left took line = line_handed t (left - lf) (took + lf) line

-- so many bytes are taken, with which these of the line have come
abbrev pub handed_after : PanelCheck → (piece : List ℕ) (last : Bool) (took : ℕ) (line : List ℕ) → Handed
handed_after c piece last took line =
    let left = c.left - took in
    handed_for (come_of (ltb took (length piece)) left last (length line)) c.tally left took line

abbrev pub lines_handed : PanelCheck → (scratch piece : List ℕ) (last : Bool) → Handed
lines_handed c scratch piece last =
    let taken = taken_of c.left piece in handed_after c piece last (length taken) (kept_of c.held scratch taken)

abbrev pub handed_at : Stage → PanelCheck → (scratch piece : List ℕ) (last : Bool) → Handed
handed_at Stage.Header c scratch piece last =
    let line = held_in c.held scratch in
    record { row = header_line; took = 0; line = line; check = check_at Stage.Lines c.left (length line) c.tally }
handed_at Stage.Lines c scratch piece last = lines_handed c scratch piece last
handed_at Stage.Over c scratch piece last = record { row = []; took = 0; line = []; check = c }

unfoldable pub piece_of : PanelCheck → (scratch piece : List ℕ) (last : Bool) → Handed
piece_of c scratch piece last = handed_at c.stage c scratch piece last

-- ---- what it answers

abbrev pub tell_of : Stage → Told
tell_of Stage.Header = Told.More
tell_of Stage.Lines = Told.More
tell_of Stage.Over = Told.Over

abbrev pub read_by : Handed → PieceRead
read_by h = record { told = tell_of h.check.stage; took = h.took; wrote = length h.row; check = h.check }

abbrev pub short_of : PanelCheck → PieceRead
short_of c = record { told = Told.Short; took = 0; wrote = 0; check = c }

-- The answer, the scratch buffer and the one for rows after it. 02 §5: "What that buffer then holds is free, at a refusal too": of `free`
-- nothing is said but the bytes of a line that goes on.
pub record Hands (h : Handed) (old : List ℕ) (f : PieceRead) (free new : List ℕ) : Type 0 where
  pub read : f ≡ read_by h
  pub short : length h.row ≤ line_room
  pub rows : new ≡ placed h.row old 0
  pub line : take (length h.line) free ≡ h.line

-- a scratch buffer of 81 bytes, and room for a row
abbrev pub fits : (scratch old : List ℕ) → Bool
fits scratch old = leb scratch_bytes (length scratch) && has_room old 0

pub data ReadsPiece (c : PanelCheck) (scratch piece : List ℕ) (last : Bool) (old : List ℕ) (f : PieceRead)
    (free new : List ℕ) : Type 0 where
  short : fits scratch old ≡ false → f ≡ short_of c → free ≡ scratch → new ≡ old → ReadsPiece c scratch piece last old f free new
  read : fits scratch old ≡ true → Hands (piece_of c scratch piece last) old f free new → ReadsPiece c scratch piece last old f free new

-- ---- within a call

-- whatever the scratch buffer holds
abbrev pub HandsAny : Handed → (old : List ℕ) → PieceRead → (new : List ℕ) → Type 0
HandsAny h old f new = (free : List ℕ) → Hands h old f free new

-- the scratch buffer holds these bytes, so many
pub record Keeps (line : List ℕ) (count : ℕ) (new : List ℕ) : Type 0 where
  pub size : count ≡ length line
  pub front : take count new ≡ line
