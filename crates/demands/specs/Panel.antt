-- 02 §5, "Checking on the panel": what the panel lists of a text, and its check's calls, which are handed the text in pieces.
use Rattle.std.specs.Prelude.{◌≡◌, Bool, true, false, ◌⊎◌, ◌↔◌, List, [], ◌++◌, ℕ, suc, ◌+◌, ◌-◌, ◌≤◌, ◌<◌, pos, length, take, drop}
use Rattle.std.specs.Borrow.{Bor, MutBor}
use contract.Lifetimes.{Lfts}
use Rattle.settings.specs.declared.Settings.{Settings}
use Rattle.settings.specs.Settings.{feed_unit, capacity_of}
use Rattle.bench.specs.declared.Bench.{Bench}
use Rattle.bench.specs.Bench.{fresh_of}
use Rattle.reader.specs.Reader.{unknown}
use Rattle.job.specs.Job.{Made, End}
use Rattle.job.specs.computed.Job.{job_at}
use Rattle.job.specs.Listing.{job_listing}
use Rattle.panel.specs.declared.PanelCheck.{PanelCheck}
use Rattle.panel.specs.declared.Told.{Told}
use Rattle.panel.specs.declared.PieceRead.{PieceRead}
use Rattle.panel.specs.Whole.{lfs_in, whole_lines}
use Rattle.panel.specs.computed.Listing.{panel_job}
use Rattle.panel.specs.computed.Over.{is_over}
use Rattle.panel.specs.computed.Piece.{start_of, ReadsPiece}
use Rattle.demands.specs.Asked.{AllYes}
use Rattle.demands.specs.Bench.{settings_questions}
use Rattle.demands.specs.Texts.{LinesMean, TextMeans, EveryCounted, FrontOf}

-- ---- what the panel lists

-- these lines from the first on, read from a fresh machine
abbrev pub FromStart : Settings → (lines : List (List ℕ)) → List Made → End → Type 0
FromStart s lines made end = LinesMean feed_unit s 1 (record { x = pos 0; y = pos 0 }) unknown lines made end

pub data PanelMeans (s : Settings) (text : List ℕ) : List Made → End → Type 0 where
  -- "For a text of at most 65,536 bytes the listing equals the old one in every byte."
  short : {made : List Made} {end : End} → length text ≤ 65536 → TextMeans feed_unit s text made end → PanelMeans s text made end
  -- "For a longer one the rows of the whole lines before byte 65,537 come first." One of these may be refused,
  refused : {made : List Made} {n number : ℕ} → 65536 < length text → FromStart s (whole_lines text) made (End.refused n number)
      → PanelMeans s text made (End.refused n number)
  -- "Unless one of those was refused, 30 follows with the line holding that byte, whose other faults don't count."
  long : {made : List Made} → 65536 < length text → FromStart s (whole_lines text) made End.complete
      → PanelMeans s text made (End.refused (length (whole_lines text) + 1) 30)

-- ---- its calls, by their contracts

-- the check that begins at this bench
abbrev pub StartsPanel : Bench → PanelCheck → Type 0
StartsPanel m c = c ≡ start_of m

-- read, lent a scratch buffer, a piece and a buffer for rows, may return f and leave the buffers as free and rows'
abbrev pub ReadsPanel : Lfts 3 → PanelCheck
    → (scratch free : MutBor (List ℕ)) (piece : Bor (List ℕ)) (last : Bool) (rows rows' : MutBor (List ℕ)) → PieceRead
    → Type 0
ReadsPanel κs c scratch free piece last rows rows' f =
    ReadsPiece c scratch.now piece.now last rows.now f free.now rows'.now

-- is_over may answer r
abbrev pub TellsPanelOver : PanelCheck → Bool → Type 0
TellsPanelOver c r = r ≡ is_over c

-- what a call with buffers that are long enough does to them: of the piece its first bytes are taken, those of "one line at a time", so
-- that only the last of them may be an LF; a row goes to the front of the buffer for rows, and its later bytes keep their contents. What
-- the scratch buffer then holds is free.
pub record Reading (piece rows rows' : List ℕ) (f : PieceRead) : Type 0 where
  pub took : f.took ≤ length piece
  pub line : lfs_in (take (f.took - 1) piece) ≡ 0
  pub wrote : f.wrote ≤ 160
  pub later : drop f.wrote rows' ≡ drop f.wrote rows
  pub more : f.told ≡ Told.More → TellsPanelOver f.check false
  pub over : f.told ≡ Told.Over → TellsPanelOver f.check true
  pub told : (f.told ≡ Told.More) ⊎ (f.told ≡ Told.Over)

-- with a buffer that is too short nothing changes, and the call says so
pub record Unread (c : PanelCheck) (scratch free rows rows' : List ℕ) (f : PieceRead) : Type 0 where
  pub read : f ≡ record { told = Told.Short; took = 0; wrote = 0; check = c }
  pub scratch_kept : free ≡ scratch
  pub rows_kept : rows' ≡ rows

-- "a scratch buffer of 81 bytes", and room for a row
abbrev pub LongEnough : (scratch rows : List ℕ) → Type 0
LongEnough scratch rows = (81 ≤ length scratch) × (160 ≤ length rows)

-- Calls one after the other lead from the check c at the text's first byte to the check d at what is left of it, and hand these bytes out.
-- Each gets a piece of what is left, cut anywhere, none of it too; it is told that the text ends with it only where nothing follows; and
-- what it did not take is left for the next. The buffer for rows may be another each time. So may the scratch buffer, but that its first
-- bytes are those that the call before left there, as many as the check says.
pub data RowsRead (text : List ℕ) (c : PanelCheck) : (left scratch bytes : List ℕ) (d : PanelCheck) → Type 0 where
  none : (scratch : List ℕ) → RowsRead text c text scratch [] c
  read : {left before bytes : List ℕ} {d : PanelCheck} → RowsRead text c left before bytes d
      → (κs : Lfts 3) (scratch free : MutBor (List ℕ)) (piece : Bor (List ℕ)) (last : Bool) (rows rows' : MutBor (List ℕ))
      (f : PieceRead) (rest : List ℕ)
      → take d.held scratch.now ≡ take d.held before → piece.now ++ rest ≡ left → (last ≡ true → rest ≡ [])
      → ReadsPanel κs d scratch free piece last rows rows' f
      → RowsRead text c (drop f.took piece.now ++ rest) free.now (bytes ++ take f.wrote rows'.now) f.check

-- so many calls on a check, none of them after its end, each with buffers that are long enough and with a byte or the end of the text
pub data CallsOn : PanelCheck → (calls : ℕ) → Type 0 where
  none : {c : PanelCheck} → CallsOn c 0
  read : {c : PanelCheck} {n : ℕ} (κs : Lfts 3) (scratch free : MutBor (List ℕ)) (piece : Bor (List ℕ)) (last : Bool)
      (rows rows' : MutBor (List ℕ))
      (f : PieceRead)
      → TellsPanelOver c false → LongEnough scratch.now rows.now → (length piece.now ≡ 0 → last ≡ true)
      → ReadsPanel κs c scratch free piece last rows rows' f → CallsOn f.check n → CallsOn c (suc n)

pub record EveryPanel : Type 0 where
  -- `panel_job` is what the panel lists of a text, and it is nothing else
  pub means : (s : Settings) (text : List ℕ) (made : List Made) (end : End)
      → PanelMeans s text made end ↔ (panel_job s text ≡ record { blocks = made; end = end })
  pub counts : (s : Settings) (text : List ℕ) → EveryCounted (panel_job s text).blocks
  -- "For a text of at most 65,536 bytes the listing equals the old one in every byte."
  pub same : (s : Settings) (text : List ℕ) → length text ≤ 65536
      → job_listing (capacity_of s) (panel_job s text) ≡ job_listing (capacity_of s) (job_at feed_unit s text)
  -- any call answers, on any check whatever
  pub read : (κs : Lfts 3) (c : PanelCheck) (scratch free : MutBor (List ℕ)) (piece : Bor (List ℕ)) (last : Bool)
      (rows rows' : MutBor (List ℕ)) (f : PieceRead)
      → ReadsPanel κs c scratch free piece last rows rows' f → LongEnough scratch.now rows.now
      → Reading piece.now rows.now rows'.now f
  pub short : (κs : Lfts 3) (c : PanelCheck) (scratch free : MutBor (List ℕ)) (piece : Bor (List ℕ)) (last : Bool)
      (rows rows' : MutBor (List ℕ)) (f : PieceRead)
      → ReadsPanel κs c scratch free piece last rows rows' f → (length scratch.now < 81) ⊎ (length rows.now < 160)
      → Unread c scratch.now free.now rows.now rows'.now f
  -- whoever hands a text to a check that began at a fresh machine, however it is cut, gets the panel's listing, to the byte
  pub listing : (s : Settings) → AllYes (settings_questions s) → (c : PanelCheck) → StartsPanel (fresh_of s) c
      → (text left scratch bytes : List ℕ) (d : PanelCheck) → RowsRead text c left scratch bytes d
      → FrontOf (job_listing (capacity_of s) (panel_job s text)) bytes (TellsPanelOver d true)
  -- and comes to its end: a loop that hands over a byte, or the end of the text, at each call cannot hang
  pub ends : (m : Bench) (c : PanelCheck) → StartsPanel m c → (n : ℕ) → CallsOn c n → n ≤ 131074
