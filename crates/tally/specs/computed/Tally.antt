-- What a text line adds to a listing, for any tally whatever. Crate `job` says what the listing of a whole text is.
use Rattle.std.specs.Prelude.{◌≡◌, Bool, true, false, cond, not, ◌&&◌, List, [], ℕ, ◌+◌, ◌*◌, ◌≤◌, leb, ltb, length}
use Rattle.row.specs.declared.lines.Kind.{Kind}
use Rattle.std.specs.declared.option.Option.{Option}
use Rattle.std.specs.Option.{unwrap_or}
use Rattle.row.specs.computed.Buffer.{line_room, has_room, placed}
use Rattle.row.specs.computed.Long.{low_limit, long_of, none_counted, plus_of}
use Rattle.row.specs.Lines.{block_line, total_line, refused_line}
use Rattle.work.specs.declared.Work.{Work}
use Rattle.bench.specs.declared.Bench.{Bench}
use Rattle.finish.specs.computed.Finish.{finish_of}
use Rattle.reader.specs.declared.Reader.{Reader}
use Rattle.reader.specs.declared.text_line.Read.{Read}
use Rattle.reader.specs.computed.Reader.{longest_text}
use Rattle.reader.specs.Reader.{unknown}
use Rattle.reader.specs.computed.TextLine.{read_line_of}
use Rattle.tally.specs.declared.Tally.{Tally}
use Rattle.tally.specs.declared.Listed.{Listed}

-- nothing known, nothing read
unfoldable pub tally_from : Bench → Tally
tally_from m = record { reader = unknown; bench = m; lines = 0; blocks = 0; cycles = 0; ticks = none_counted }

-- what a text line gives: the bytes of its row, whether the listing is over, and the tally after it
pub record RowGiven : Type 0 where
  pub bytes : List ℕ
  pub over : Bool
  pub tally : Tally

-- the code's answer, and the buffer after it: the row stands from `at` on, and no row is longer than `line_room`
pub record Gives (g : RowGiven) (old : List ℕ) (at : ℕ) (r : Listed) (new : List ℕ) : Type 0 where
  pub short : length g.bytes ≤ line_room
  pub buffer : new ≡ placed g.bytes old at
  pub next : r.next ≡ at + length g.bytes
  pub over : r.over ≡ g.over
  pub tally : r.tally ≡ g.tally

-- the place after a line; the line's own where it was not written
abbrev pub place_after_row : Option ℕ → (at : ℕ) → ℕ
place_after_row place at = unwrap_or place at

-- no block has more cycles
abbrev pub most_block_cycles : ℕ
most_block_cycles = 8000000

-- nor more ticks: its charges are at most 9,400,000,000, q0 is at most 1,200,000,000, and a tick adds at least 1,000
abbrev pub most_block_ticks : ℕ
most_block_ticks = 11280000000000000

-- A text has no more lines than bytes, so its cycles fit in 64 bits. Its ticks need not, so they are a long count: a block adds less than
-- 10^18 and carries at most one, so the high part is at most the lines.
unfoldable pub counts_right : Tally → Bool
counts_right t =
    leb t.lines longest_text
    && (leb t.blocks t.lines
    && (leb t.cycles (most_block_cycles * t.lines) && (leb t.ticks.high t.lines && ltb t.ticks.low low_limit)))

abbrev pub kind_of : Work → Kind
kind_of Work.Nothing = Kind.Line
kind_of (Work.Line l) = Kind.Line
kind_of (Work.Arc a) = Kind.Arc

-- 01, The check program: "Each block is loaded once the one before has ended, remainder kept."
unfoldable pub block_listed : Tally → Reader → (loaded : Bench) → (bits : ℕ) → RowGiven
block_listed t k m bits =
    let f = finish_of m in
    record {
      bytes = block_line (t.blocks + 1) (t.lines + 1) (kind_of m.work) f.cycles f.bench.at.x f.bench.at.y bits;
      over = false;
      tally = record {
        reader = k;
        bench = f.bench;
        lines = t.lines + 1;
        blocks = t.blocks + 1;
        cycles = t.cycles + f.cycles;
        ticks = plus_of t.ticks f.ticks;
      };
    }

-- "At a refusal the rows so far stand and the last line is `line 3 refused 15` with its own numbers."
abbrev pub listed_with : Tally → Reader → Bench → Read → RowGiven
listed_with t k m Read.Nothing =
    record {
      bytes = [];
      over = false;
      tally =
          record { reader = k; bench = m; lines = t.lines + 1; blocks = t.blocks; cycles = t.cycles; ticks = t.ticks };
    }
listed_with t k m (Read.Loaded bits) = block_listed t k m bits
listed_with t k m (Read.Refused number) = record { bytes = refused_line (t.lines + 1) number; over = true; tally = t }

-- "the last line gives blocks, cycles and ticks"
abbrev pub total_of : Tally → List ℕ
total_of t = total_line t.blocks t.cycles (long_of t.ticks)

-- a tally that no text can reach gets no row
unfoldable pub listed_of : Tally → (line : List ℕ) → RowGiven
listed_of t line =
    let r = read_line_of t.reader t.bench line in
    cond (counts_right t)
    (listed_with t r.reader r.bench r.answer)
    (record { bytes = []; over = true; tally = t })

-- without room for a row nothing is read
abbrev pub read_of : Tally → (line old : List ℕ) (at : ℕ) → RowGiven
read_of t line old at = cond (has_room old at) (listed_of t line) (record { bytes = []; over = false; tally = t })

-- the code's answer about a line, and the buffer after it
abbrev pub Reads : Tally → (line old : List ℕ) (at : ℕ) → Listed → (new : List ℕ) → Type 0
Reads t line old at r new = Gives (read_of t line old at) old at r new

-- how many bytes the line has, behind which its LF stands and the next one begins; 0 where no next one is to be read
abbrev pub bytes_read : Tally → (line old : List ℕ) (at : ℕ) → ℕ
bytes_read t line old at = cond (has_room old at && not (read_of t line old at).over) (length line) 0

-- ---- inner functions' answers

abbrev pub unread_of : Tally → (at : ℕ) (over : Bool) → Listed
unread_of t at over = record { next = at; over = over; bytes = 0; tally = t }

abbrev pub passed_of : Tally → Reader → Bench → (bytes at : ℕ) → Listed
passed_of t k m bytes at = record { next = at; over = false; bytes = bytes; tally = (listed_with t k m Read.Nothing).tally }
