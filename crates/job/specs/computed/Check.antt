-- The check as it goes, and what its contracts say: `Lists` of a step, `Fills` of a buffer. What is left to hand out is the listing.
use Rattle.std.specs.Prelude.{◌≡◌, Bool, true, false, cond, List, [], ◌∷◌, ◌++◌, ℕ, ◌+◌, ◌-◌, ◌*◌, ◌^◌, ◌≤◌, ◌<◌, leb, length, take, drop}
use Rattle.std.specs.Prelude.{Option, Some, None}
use Rattle.row.specs.computed.Buffer.{line_room, placed}
use Rattle.row.specs.computed.Long.{low_limit, long_of}
use Rattle.row.specs.Lines.{header_line, total_line, refused_line}
use Rattle.work.specs.Work.{is_nothing}
use Rattle.bench.specs.declared.Bench.{Bench}
use Rattle.bench.specs.computed.Bench.{sound_of}
use Rattle.settings.specs.declared.Settings.{Settings}
use Rattle.reader.specs.computed.Reader.{longest_text}
use Rattle.reader.specs.declared.Feed.{Feed}
use Rattle.tally.specs.declared.Tally.{Tally}
use Rattle.tally.specs.computed.Tally.{most_block_cycles, most_block_ticks, listed_of}
use Rattle.tally.specs.computed.Tally.{tally_from as tally_start}
use Rattle.job.specs.declared.Stage.{Stage}
use Rattle.job.specs.declared.Check.{Check}
use Rattle.job.specs.declared.Step.{Step}
use Rattle.job.specs.declared.Filled.{Filled}
use Rattle.job.specs.Text.{lines_of}
use Rattle.job.specs.computed.Listing.{listing_of}
use Rattle.job.specs.Check.{is_over}

unfoldable pub check_from : Bench → Check
check_from m = record { stage = Stage.Header; at = 0; tally = tally_start m }

-- ---- what is still to come

abbrev pub unless : (over : Bool) → List ℕ → List ℕ
unless true rest = []
unless false rest = rest

-- the last row, by what was counted till then
abbrev pub LastRow : Type 0
LastRow = (lines blocks cycles ticks : ℕ) → List ℕ

abbrev pub last_row : LastRow → Tally → List ℕ
last_row last t = last t.lines t.blocks t.cycles (long_of t.ticks)

-- the rows of these text lines, and then the last row; a refused line has the last row itself
unfoldable pub rows_then : LastRow → Tally → (lines : List (List ℕ)) → List ℕ
rows_then last t [] = last_row last t
rows_then last t (l ∷ ls) = let g = listed_of t l in g.bytes ++ unless g.over (rows_then last g.tally ls)

-- of a text that is read to its end
abbrev pub totals : LastRow
totals lines blocks cycles ticks = total_line blocks cycles ticks

abbrev pub rows_from : Tally → (lines : List (List ℕ)) → List ℕ
rows_from t ls = rows_then totals t ls

-- 01: "is the text at most 65,536 bytes (asked once, line 1)? 30."
abbrev pub lines_rest : Check → (text : List ℕ) → List ℕ
lines_rest c text = cond (leb (length text) longest_text) (rows_from c.tally (lines_of (drop c.at text))) (refused_line 1 30)

abbrev pub rest_at : Stage → Check → (text : List ℕ) → List ℕ
rest_at Stage.Header c text = header_line ++ lines_rest c text
rest_at Stage.Lines c text = lines_rest c text
rest_at Stage.Over c text = []

unfoldable pub rest_of : Check → (text : List ℕ) → List ℕ
rest_of c text = rest_at c.stage c text

-- whatever the text, what is to come is its listing
abbrev pub Lists : Settings → Check → Type 0
Lists s c = (text : List ℕ) → rest_of c text ≡ listing_of s text

-- ---- what every check keeps that a start reaches, whatever the texts: so its numbers fit in words

abbrev pub FeedSmall : Option Feed → Type 0
FeedSmall None = Unit {0}
FeedSmall (Some f) = (f.millimetres < 10 ^ 7) × (f.thousandths < 1000)

-- the machine is sound and at rest, and the counts are some that the lines of a text and one more can make
pub record Reached (at : ℕ) (t : Tally) : Type 0 where
  pub sound : sound_of t.bench ≡ true
  pub free : t.bench.held ≡ false
  pub idle : is_nothing t.bench.work ≡ true
  pub feed : FeedSmall t.reader.feed
  pub near : at ≤ longest_text + 1
  pub lines : t.lines ≤ longest_text + 1
  pub blocks : t.blocks ≤ t.lines
  pub cycles : t.cycles ≤ most_block_cycles * t.lines
  pub high : t.ticks.high ≤ t.lines
  pub low : t.ticks.low < low_limit

abbrev pub Keeps : (before after : Check) → Type 0
Keeps c d = Reached c.at c.tally → Reached d.at d.tally

-- ---- what a call hands out

abbrev pub last_of : Check → (next : ℕ) → Step
last_of c next = record { next = next; check = record { stage = Stage.Over; at = c.at; tally = c.tally } }

-- a step, of which at most so many are left
abbrev pub steps_left : Stage → (at size : ℕ) → ℕ
steps_left Stage.Header at size = 2 + size
steps_left Stage.Lines at size = 1 + (size - at)
steps_left Stage.Over at size = 0

-- the next of what is to come, written from `at` on
pub record Steps (c : Check) (text old : List ℕ) (at : ℕ) (s : Step) (new : List ℕ) : Type 0 where
  pub line : List ℕ
  pub room : length line ≤ line_room
  pub buffer : new ≡ placed line old at
  pub next : s.next ≡ at + length line
  pub bytes : line ++ rest_of s.check text ≡ rest_of c text
  pub keeps : Keeps c s.check
  pub fewer : steps_left s.check.stage s.check.at (length text) < steps_left c.stage c.at (length text)

-- A buffer's first bytes are the next of the listing, and its later ones keep their contents. How many rows it takes is free; one that
-- holds a row takes at least one byte, until all is handed out.
pub record Fills (c : Check) (text old : List ℕ) (f : Filled) (new : List ℕ) : Type 0 where
  pub bytes : take f.len new ++ rest_of f.check text ≡ rest_of c text
  pub later : drop f.len new ≡ drop f.len old
  pub room : f.len ≤ length old
  pub onward : line_room ≤ length old → is_over f.check ≡ false → 1 ≤ f.len
  pub keeps : Keeps c f.check

-- a budget and a buffer that no block exceeds
abbrev pub enough : ℕ
enough = most_block_ticks
