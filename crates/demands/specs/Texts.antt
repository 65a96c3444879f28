-- Demand 2, texts: "A job text means the blocks that document 01 gives it."
use Rattle.std.specs.Prelude.{◌≡◌, Bool, true, false, ◌↔◌, List, [], ◌∷◌, ◌++◌, ℕ, ◌+◌, ◌≤◌, ◌<◌, pos, length, take, drop}
use Rattle.std.specs.Borrow.{Bor, MutBor}
use contract.Lifetimes.{Lfts}
use Rattle.plane.specs.declared.point.Point.{Point}
use Rattle.settings.specs.declared.Settings.{Settings}
use Rattle.settings.specs.Settings.{feed_unit, capacity_of}
use Rattle.bench.specs.declared.Bench.{Bench}
use Rattle.bench.specs.Bench.{fresh_of}
use Rattle.words.specs.declared.line.Line.{Line}
use Rattle.words.specs.Meaning.{Means}
use Rattle.reader.specs.declared.Reader.{Reader}
use Rattle.reader.specs.Reader.{unknown, reader_after}
use Rattle.book.specs.Ledger.{CountedAlong}
use Rattle.job.specs.declared.Check.{Check}
use Rattle.job.specs.declared.Filled.{Filled}
use Rattle.job.specs.Text.{lines_of}
use Rattle.job.specs.Job.{Made, End}
use Rattle.job.specs.computed.Job.{job_at}
use Rattle.job.specs.Listing.{job_listing}
use Rattle.job.specs.Check.{is_over}
use Rattle.job.specs.computed.Check.{Fills, check_from}
use Rattle.demands.specs.Asked.{FirstNo, AllYes}
use Rattle.demands.specs.Bench.{settings_questions}
use Rattle.demands.specs.Questions.{line_block, makes_block, text_questions}

-- ---- the lines of a text, from number n on, read at a point with a G and an F known, mean these blocks, and end so. "Each block is loaded
-- once the one before has ended": it starts at the point, and nothing is in work then, so that 10 always has a yes. Feed numbers are in
-- u-ths of a pulse per minute.

pub data LinesMean (u : ℕ) (s : Settings) : (n : ℕ) (at : Point) (known : Reader) → List (List ℕ) → List Made → End → Type 0 where
  over : {n : ℕ} {at : Point} {k : Reader} → LinesMean u s n at k [] [] End.complete
  -- "At a refusal the rows so far stand", and no line after it is read
  refused : {n : ℕ} {at : Point} {k : Reader} {bytes : List ℕ} {lines : List (List ℕ)} (l : Line) → Means bytes l → (number : ℕ)
      → FirstNo (text_questions u (Unit {0}) k s at bytes l) number
      → LinesMean u s n at k (bytes ∷ lines) [] (End.refused n number)
  -- "G and F count from their own line until changed"
  nothing : {n : ℕ} {at : Point} {k : Reader} {bytes : List ℕ} {lines : List (List ℕ)} {made : List Made} {end : End} (l : Line)
      → Means bytes l
      → AllYes (text_questions u (Unit {0}) k s at bytes l) → makes_block u k s.scale at l ≡ false
      → LinesMean u s (n + 1) at (reader_after k l.words) lines made end
      → LinesMean u s n at k (bytes ∷ lines) made end
  block : {n : ℕ} {at : Point} {k : Reader} {bytes : List ℕ} {lines : List (List ℕ)} {made : List Made} {end : End} (l : Line)
      → Means bytes l
      → AllYes (text_questions u (Unit {0}) k s at bytes l) → makes_block u k s.scale at l ≡ true
      → LinesMean u s (n + 1) (line_block u k s.scale at l).end (reader_after k l.words) lines made end
      → LinesMean u s n at k (bytes ∷ lines) (record { text_line = n; start = at; block = line_block u k s.scale at l } ∷ made) end

-- what a text means. "A fresh machine stands at (0, 0)", and nothing is known before its first line.
pub data TextMeans (u : ℕ) (s : Settings) (text : List ℕ) : List Made → End → Type 0 where
  -- "is the text at most 65,536 bytes (asked once, line 1)? 30."
  long : 65536 < length text → TextMeans u s text [] (End.refused 1 30)
  read : {made : List Made} {end : End} → length text ≤ 65536
      → LinesMean u s 1 (record { x = pos 0; y = pos 0 }) unknown (lines_of text) made end → TextMeans u s text made end

-- the cycles that the listing shows of a block: of an arc those of its walk to the end
abbrev pub EveryCounted : List Made → Type 0
EveryCounted [] = Unit {0}
EveryCounted (b ∷ later) = CountedAlong b.start b.block b.block.path × EveryCounted later

-- ---- the listing, as it is handed out

-- what a fill does to a buffer: later bytes keep their contents, and one that has room gets at least a byte until all is handed out
pub record Filling (room : ℕ) (old new : List ℕ) (len : ℕ) (over : Bool) : Type 0 where
  pub fits : len ≤ length old
  pub later : drop len new ≡ drop len old
  pub progress : room ≤ length old → over ≡ false → 1 ≤ len

-- what has been handed out is the front of the whole, and all of it once the end is told
pub record FrontOf (whole bytes : List ℕ) (EndTold : Type 0) : Type 0 where
  pub rest : List ℕ
  pub front : bytes ++ rest ≡ whole
  pub all : EndTold → rest ≡ []

-- the check of a job that begins at this machine
abbrev pub Starts : Bench → Check → Type 0
Starts m c = c ≡ check_from m

-- fill, lent the text and the buffer out, may return f and leave the buffer as out'
abbrev pub FillsCheck : Lfts 2 → Check → (text : Bor (List ℕ)) (out out' : MutBor (List ℕ)) → Filled → Type 0
FillsCheck κs c text out out' f = Fills c text.now out.now f out'.now

-- is_over may answer r
abbrev pub TellsOver : Check → Bool → Type 0
TellsOver c r = r ≡ is_over c

-- fills of one text, one after the other, into buffers of any length and contents, lead from the check c to d and hand these bytes out
pub data RowsOut (text : List ℕ) (c : Check) : List ℕ → Check → Type 0 where
  none : RowsOut text c [] c
  fill : {bytes : List ℕ} {d : Check} → RowsOut text c bytes d
      → (κs : Lfts 2) (lent : Bor (List ℕ)) (out out' : MutBor (List ℕ)) (f : Filled)
      → lent.now ≡ text → FillsCheck κs d lent out out' f → RowsOut text c (bytes ++ take f.len out'.now) f.check

pub record EveryText : Type 0 where
  -- `job_at` is what a text means by the unit u, and it means nothing else
  pub means : (u : ℕ) (s : Settings) (text : List ℕ) (made : List Made) (end : End)
      → TextMeans u s text made end ↔ (job_at u s text ≡ record { blocks = made; end = end })
  pub counts : (s : Settings) (text : List ℕ) → EveryCounted (job_at feed_unit s text).blocks
  -- 160 bytes hold every row
  pub fill : (κs : Lfts 2) (c : Check) (text : Bor (List ℕ)) (out out' : MutBor (List ℕ)) (f : Filled) → FillsCheck κs c text out out' f
      → Filling 160 out.now out'.now f.len (is_over f.check)
  -- "The check program": whoever fills a check that began at a fresh machine gets the listing of this job, to the byte
  pub listing : (s : Settings) → AllYes (settings_questions s) → (c : Check) → Starts (fresh_of s) c → (text bytes : List ℕ) (d : Check)
      → RowsOut text c bytes d → FrontOf (job_listing (capacity_of s) (job_at feed_unit s text)) bytes (TellsOver d true)
