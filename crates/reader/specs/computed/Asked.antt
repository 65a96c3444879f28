-- 01, Questions, "Job text": what a line asks at a place, before load's questions. The place is where the next block starts. 02 §3: "what
-- a text line leaves out, start from the end of the last waiting block, else of the block in work, else from the point; a straight text
-- line to that place makes no block."
use Rattle.std.specs.Prelude.{cond, ℕ, zero, suc, leb}
use Rattle.plane.specs.declared.point.Point.{Point}
use Rattle.block.specs.declared.Block.{Block}
use Rattle.letters.specs.declared.word.Words.{Words}
use Rattle.settings.specs.Settings.{feed_unit}
use Rattle.words.specs.declared.line.Line.{Line}
use Rattle.reader.specs.declared.Reader.{Reader}
use Rattle.reader.specs.declared.asked.ToLoad.{ToLoad}
use Rattle.reader.specs.declared.asked.Asked.{Asked}
use Rattle.reader.specs.Reader.{reader_after, moving, block_at}
use Rattle.reader.specs.computed.Reader.{line_no}
use Rattle.reader.specs.Reader.{goes_nowhere}
use Rattle.reader.specs.computed.Reader.{longest_line, line_no}
use Rattle.reader.specs.Reader.{reader_after}

abbrev pub asked : ToLoad → Reader → Asked
asked a k = record { asks = a; reader = k }

-- "nor does a straight line to the point where it stands, and then 10 to 13 are not put"
abbrev pub block_asked : (place : Point) → Block → ToLoad
block_asked place b = cond (goes_nowhere b.end place b.path) ToLoad.Nothing (ToLoad.Block b)

-- "A line without X, Y, I, J makes no block"; "A refused line leaves the known G and F .. as before it."
abbrev pub asked_with : (p : ℕ) → (before after : Reader) → (place : Point) → Words → (number : ℕ) → Asked
asked_with p k k' place ws zero = asked (cond (moving ws) (block_asked place (block_at feed_unit p k' ws place)) ToLoad.Nothing) k'
asked_with p k k' place ws (suc n) = asked (ToLoad.Refused (suc n)) k

-- a line of so many bytes, which say this; what is known after it, unless load refuses the block
unfoldable pub asked_of : (p : ℕ) → Reader → (place : Point) → (bytes : ℕ) → Line → Asked
asked_of p k place bytes l = let k' = reader_after k l.words in asked_with p k k' place l.words (line_no p k' bytes l)

-- the number that bytes with an LF get
abbrev pub broken_no : (bytes : ℕ) → ℕ
broken_no bytes = cond (leb bytes longest_line) 32 31
