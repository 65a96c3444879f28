-- 01, Questions, "Job text": what a text means, line by line, as it is computed. It knows no machine: "Each block is loaded once the one
-- before has ended", so a line is read where the last block ends, with nothing in work. It is said over the unit u of feed numbers, so that
-- a text has a job by 01's (u 1) and one by 02 §4's (u 1,000).
use Rattle.std.specs.Prelude.{true, cond, List, [], ◌∷◌, ℕ, zero, suc, ◌+◌, leb, pos, length}
use Rattle.plane.specs.declared.point.Point.{Point}
use Rattle.block.specs.declared.Block.{Block}
use Rattle.block.specs.Questions.{load_no}
use Rattle.letters.specs.declared.word.Words.{Words}
use Rattle.words.specs.computed.Meaning.{meaning_of}
use Rattle.settings.specs.declared.Settings.{Settings}
use Rattle.settings.specs.Settings.{feed_unit, capacity_at}
use Rattle.reader.specs.declared.Reader.{Reader}
use Rattle.reader.specs.computed.Reader.{longest_text, line_no}
use Rattle.reader.specs.Reader.{reader_after, moving, block_at}
use Rattle.reader.specs.Reader.{goes_nowhere}
use Rattle.reader.specs.Reader.{unknown}
use Rattle.job.specs.Text.{lines_of}
use Rattle.job.specs.Job.{End, Job}

-- ---- one line

-- what a line asks, and the G and F known after it: no block, a block, or a refusal with its number
pub data Asks : Type 0 where
  nothing : (known : Reader) → Asks
  makes : (known : Reader) (block : Block) → Asks
  refuses : (number : ℕ) → Asks

-- "Then load's questions."
abbrev pub load_asks : (known : Reader) → Block → (number : ℕ) → Asks
load_asks k b zero = Asks.makes k b
load_asks k b (suc n) = Asks.refuses (suc n)

-- "nor does a straight line to the point where it stands, and then 10 to 13 are not put"
abbrev pub block_asks : (u : ℕ) → Settings → (at : Point) (known : Reader) → Block → Asks
block_asks u s at k b =
    cond (goes_nowhere b.end at b.path) (Asks.nothing k) (load_asks k b (load_no (capacity_at u s) s.travel true at b))

-- "A line without X, Y, I, J makes no block"
abbrev pub words_ask : (u : ℕ) → Settings → (at : Point) (known : Reader) → Words → (number : ℕ) → Asks
words_ask u s at k ws zero = cond (moving ws) (block_asks u s at k (block_at u s.scale k ws at)) (Asks.nothing k)
words_ask u s at k ws (suc n) = Asks.refuses (suc n)

-- the line's bytes without their LF
unfoldable pub line_asks : (u : ℕ) → Settings → (at : Point) (known : Reader) → (line : List ℕ) → Asks
line_asks u s at k line =
    let l = meaning_of line in
    let k' = reader_after k l.words in
    words_ask u s at k' l.words (line_no s.scale k' (length line) l)

-- ---- the job

-- the next line is read where this one leaves the table
abbrev pub read_on : (text_line : ℕ) (at : Point) → Asks → (rest : Point → Reader → Job) → Job
read_on n at (Asks.nothing k) rest = rest at k
read_on n at (Asks.makes k b) rest =
    let j = rest b.end k in record { blocks = record { text_line = n; start = at; block = b } ∷ j.blocks; end = j.end }
read_on n at (Asks.refuses number) rest = record { blocks = []; end = End.refused n number }

unfoldable pub job_from_at : (u : ℕ) → Settings → (text_line : ℕ) (at : Point) (known : Reader) → (lines : List (List ℕ)) → Job
job_from_at u s n at k [] = record { blocks = []; end = End.complete }
job_from_at u s n at k (l ∷ ls) = read_on n at (line_asks u s at k l) (λ at' k'. job_from_at u s (n + 1) at' k' ls)

-- "A fresh machine stands at (0, 0)", and nothing is known before its first line.
abbrev pub job_of_lines : (u : ℕ) → Settings → (lines : List (List ℕ)) → Job
job_of_lines u s lines = job_from_at u s 1 (record { x = pos 0; y = pos 0 }) unknown lines

-- "is the text at most 65,536 bytes (asked once, line 1)? 30."
-- Tied: `means` of `EveryText`.
unfoldable pub job_at : (u : ℕ) → Settings → (text : List ℕ) → Job
job_at u s text =
    cond (leb (length text) longest_text)
    (job_of_lines u s (lines_of text))
    (record { blocks = []; end = End.refused 1 30 })

-- ---- by 02 §4's unit

abbrev pub job_from : Settings → (text_line : ℕ) (at : Point) (known : Reader) → (lines : List (List ℕ)) → Job
job_from s n at k ls = job_from_at feed_unit s n at k ls

abbrev pub job_of : Settings → (text : List ℕ) → Job
job_of s text = job_at feed_unit s text
