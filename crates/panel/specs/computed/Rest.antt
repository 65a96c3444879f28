-- What a panel's check has still to hand out, byte by byte, for any state of it, any scratch buffer and any rest of the text.
use Rattle.std.specs.Prelude.{◌≡◌, Bool, true, false, List, [], ◌∷◌, ◌++◌, ℕ, zero, suc, ◌+◌, ◌*◌, ◌≤◌, eqb}
use Rattle.row.specs.Lines.{header_line}
use Rattle.words.specs.computed.Scan.{first_line}
use Rattle.settings.specs.declared.Settings.{Settings}
use Rattle.reader.specs.computed.Reader.{longest_text}
use Rattle.tally.specs.declared.Tally.{Tally}
use Rattle.tally.specs.computed.Tally.{RowGiven, listed_of}
use Rattle.job.specs.declared.Stage.{Stage}
use Rattle.job.specs.computed.Check.{unless, last_row, rows_from, Reached}
use Rattle.panel.specs.declared.PanelCheck.{PanelCheck}
use Rattle.panel.specs.computed.Listing.{panel_listing}
use Rattle.panel.specs.computed.Piece.{scratch_bytes, held_in, too_long}

-- a last line that lacks its LF; none where the text ends with one
abbrev pub unended : (line : List ℕ) → List (List ℕ)
unended [] = []
unended (b ∷ l) = first_line (b ∷ l) ∷ []

-- a row, and what comes after it
abbrev pub row_then : RowGiven → (Tally → List ℕ) → List ℕ
row_then g later = g.bytes ++ unless g.over (later g.tally)

abbrev pub at_lf : (lf : Bool) → (row on : List ℕ) → List ℕ
at_lf true row on = row
at_lf false row on = on

-- of a text that may have so many bytes more, and of which these bytes of a line have come: the rows, and the last row
unfoldable pub rows_on : Tally → (left : ℕ) → (line rest : List ℕ) → List ℕ
rows_on t left line [] = rows_from t (unended line)
rows_on t zero line (b ∷ rest) = last_row too_long t
rows_on t (suc left) line (b ∷ rest) =
    at_lf (eqb b 10) (row_then (listed_of t (first_line line)) (λ t'. rows_on t' left [] rest)) (rows_on t left (line ++ (b ∷ [])) rest)

abbrev pub lines_rest : PanelCheck → (scratch rest : List ℕ) → List ℕ
lines_rest c scratch rest = rows_on c.tally c.left (held_in c.held scratch) rest

abbrev pub rest_at : Stage → PanelCheck → (scratch rest : List ℕ) → List ℕ
rest_at Stage.Header c scratch rest = header_line ++ lines_rest c scratch rest
rest_at Stage.Lines c scratch rest = lines_rest c scratch rest
rest_at Stage.Over c scratch rest = []

unfoldable pub rest_of : PanelCheck → (scratch rest : List ℕ) → List ℕ
rest_of c scratch rest = rest_at c.stage c scratch rest

-- whatever the text, and whatever the scratch buffer holds, what is to come is the panel's listing
abbrev pub Lists : Settings → PanelCheck → Type 0
Lists s c = (scratch text : List ℕ) → rest_of c scratch text ≡ panel_listing s text

-- ---- at most so many calls are left, if each has room and brings a byte or the end of the text

abbrev pub calls_at : Stage → (left held : ℕ) → ℕ
calls_at Stage.Header left held = 2 + (2 * left + held)
calls_at Stage.Lines left held = 1 + (2 * left + held)
calls_at Stage.Over left held = 0

abbrev pub calls_left : PanelCheck → ℕ
calls_left c = calls_at c.stage c.left c.held

-- what every check keeps that a start reaches, whatever the texts: so its numbers fit in words
pub record ReachedPanel (c : PanelCheck) : Type 0 where
  pub left : c.left ≤ longest_text
  pub held : c.held ≤ scratch_bytes
  pub tally : Reached c.left c.tally
