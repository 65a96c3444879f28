-- The tick bytes of a job: those of each block's run to its end, one after the other. And what of them is still to come, for any state and
-- any text.
use Rattle.std.specs.Prelude.{◌≡◌, Bool, true, false, cond, List, [], ◌∷◌, ◌++◌, ℕ, ◌+◌, ◌-◌, ◌≤◌, ◌<◌, leb, length, take, drop}
use Rattle.bench.specs.declared.Bench.{Bench}
use Rattle.settings.specs.declared.Settings.{Settings}
use Rattle.bench.specs.Bench.{fresh_of}
use Rattle.bench.specs.computed.Run.{run_of}
use Rattle.reader.specs.declared.Reader.{Reader}
use Rattle.reader.specs.declared.text_line.Read.{Read}
use Rattle.reader.specs.computed.TextLine.{read_line_of}
use Rattle.reader.specs.computed.Reader.{longest_text}
use Rattle.reader.specs.Reader.{unknown}
use Rattle.job.specs.Text.{lines_of}
use Rattle.job.specs.computed.Check.{enough}
use Rattle.job.specs.computed.Check.{unless}
use Rattle.stream.specs.declared.Stream.{Stream}
use Rattle.stream.specs.declared.Filled.{Filled}

-- ---- the tick bytes of a text

-- a run to the end of what is in work, and then what follows at the machine that it leaves
abbrev pub run_then : Bench → (rest : Bench → List ℕ) → List ℕ
run_then m rest = let x = run_of m enough enough in x.bytes ++ rest x.ran.bench

abbrev pub is_refused : Read → Bool
is_refused Read.Nothing = false
is_refused (Read.Loaded bits) = false
is_refused (Read.Refused number) = true

-- 01, The check program: "Each block is loaded once the one before has ended, remainder kept." A refused line is the last.
unfoldable pub bytes_from : Bench → Reader → (lines : List (List ℕ)) → List ℕ
bytes_from m k [] = []
bytes_from m k (l ∷ ls) = let r = read_line_of k m l in unless (is_refused r.answer) (run_then r.bench (λ m'. bytes_from m' r.reader ls))

-- "is the text at most 65,536 bytes (asked once, line 1)? 30."
abbrev pub lines_bytes : Bench → Reader → (at : ℕ) (text : List ℕ) → List ℕ
lines_bytes m k at text = cond (leb (length text) longest_text) (bytes_from m k (lines_of (drop at text))) []

-- from a machine made fresh with these settings
unfoldable pub tick_bytes_of : Settings → (text : List ℕ) → List ℕ
tick_bytes_of s text = lines_bytes (fresh_of s) unknown 0 text

-- ---- what is still to come

unfoldable pub stream_from : Bench → Stream
stream_from m = record { over = false; at = 0; reader = unknown; bench = m }

-- the bytes of the block in work, and of those that the lines make from `at` on
unfoldable pub rest_of : Stream → (text : List ℕ) → List ℕ
rest_of t text = unless t.over (run_then t.bench (λ m. lines_bytes m t.reader t.at text))

-- whatever the text, what is to come are its tick bytes
abbrev pub Tells : Settings → Stream → Type 0
Tells s t = (text : List ℕ) → rest_of t text ≡ tick_bytes_of s text

-- ---- what a call hands out

abbrev pub ended_of : Stream → Stream
ended_of t = record { over = true; at = t.at; reader = t.reader; bench = t.bench }

abbrev pub at_machine : Stream → Bench → Stream
at_machine t m = record { over = t.over; at = t.at; reader = t.reader; bench = m }

-- a line that is read, of which at most so many are left
abbrev pub lines_left : Stream → (size : ℕ) → ℕ
lines_left t size = cond t.over 0 (1 + (size - t.at))

pub record NextLine (t : Stream) (text : List ℕ) (r : Stream) : Type 0 where
  pub rest : rest_of r text ≡ lines_bytes t.bench t.reader t.at text
  pub fewer : lines_left r (length text) < lines_left t (length text)

-- A buffer's first bytes are the next tick bytes, and its later ones keep their contents. How many it takes is free; one that holds a byte
-- takes at least one, until all is handed out.
pub record Fills (t : Stream) (text old : List ℕ) (f : Filled) (new : List ℕ) : Type 0 where
  pub bytes : take f.len new ++ rest_of f.stream text ≡ rest_of t text
  pub later : drop f.len new ≡ drop f.len old
  pub room : f.len ≤ length old
  pub onward : 1 ≤ length old → f.stream.over ≡ false → 1 ≤ f.len
