-- The rows that the tally hands out, line by line, are the listing of the job.
use Rattle.std.specs.Prelude.{◌≡◌, false, List, [], ◌∷◌, ◌++◌, ℕ, suc, ◌+◌, ◌≤◌, length}
use Rattle.std.proofs.Math.Path.{refl, ap}
use Rattle.std.proofs.Common.{sym, append_assoc, append-nil, arith}
use Rattle.block.specs.declared.Block.{Block}
use Rattle.block.specs.declared.Path.{Path}
use Rattle.block.specs.Block.{block_width}
use Rattle.row.specs.Lines.{refused_line}
use Rattle.row.specs.computed.Long.{long_of, plus_of}
use Rattle.row.specs.laws.Long.{Adds, plus_adds}
use Rattle.work.specs.Work.{work_along, begun_of}
use Rattle.settings.specs.Settings.{capacity_of}
use Rattle.bench.specs.Bench.{moved_of}
use Rattle.bench.specs.computed.Calls.{load_of}
use Rattle.finish.specs.laws.Record.{AtRest, cycles_most, ticks_most}
use Rattle.reader.specs.computed.Reader.{longest_text}
use Rattle.reader.specs.declared.Reader.{Reader}
use Rattle.reader.specs.declared.text_line.ReadLine.{ReadLine}
use Rattle.reader.specs.computed.TextLine.{read_line_of}
use Rattle.tally.specs.declared.Tally.{Tally}
use Rattle.tally.specs.computed.Tally.{kind_of, listed_with, block_listed}
use Rattle.tally.specs.laws.Counts.{Counts, counts_test}
use Rattle.tally.specs.laws.Read.{listed}
use Rattle.job.specs.computed.Job.{Asks, read_on, job_from_at, job_from}
use Rattle.job.specs.Job.{Made, End, Job}
use Rattle.job.specs.Listing.{path_kind, made_line, rows, all_cycles, all_ticks}
use Rattle.job.specs.computed.Check.{unless, LastRow, rows_then}
use Rattle.job.specs.laws.Ended.{Accepted, Low, ended_of, ended, ended_rests, ended_ticks, ended_left, ended_low}
use Rattle.job.specs.laws.Asks.{Read-as, load_accepted, line_asks_lem}

-- the last row of a job of so many text lines, after blocks with these totals
abbrev pub last_after : LastRow → (lines blocks cycles ticks q0 r : ℕ) → List Made → End → List ℕ
last_after last lines blocks cycles ticks q0 r ms End.complete =
    last lines (blocks + length ms) (cycles + all_cycles ms) (ticks + all_ticks q0 r ms)
last_after last lines blocks cycles ticks q0 r ms (End.refused n number) = refused_line n number

abbrev pub last_of : LastRow → (lines : ℕ) → Tally → List Made → End → List ℕ
last_of last lines t =
    last_after last lines t.blocks t.cycles (long_of t.ticks) (capacity_of t.bench.settings) t.bench.remainder

abbrev pub listing_after : LastRow → (lines : ℕ) → Tally → Job → List ℕ
listing_after last lines t j = rows (t.blocks + 1) j.blocks ++ last_of last lines t j.blocks j.end

pub last_same : (last : LastRow) {n a b c n' a' b' c' : ℕ} → n ≡ n' → a ≡ a' → b ≡ b' → c ≡ c' → last n a b c ≡ last n' a' b' c'
last_same last o p q r = rw (o, p, q, r)

-- ---- a line that makes a block

module _ (t : Tally) (k : Reader) (b : Block) (i : AtRest t.bench) (low : Low t.bench) (ok : Accepted t.bench b) where
  abbrev made : Made
  made = record { text_line = t.lines + 1; start = t.bench.at; block = b }

  abbrev next : Tally
  next =
      let f = ended_of t.bench b in
      record {
        reader = k;
        bench = f.bench;
        lines = t.lines + 1;
        blocks = t.blocks + 1;
        cycles = t.cycles + f.cycles;
        ticks = plus_of t.ticks f.ticks;
      }

  kind_loaded : kind_of (load_of t.bench b).bench.work ≡ path_kind b.path
  unfolding begun_of moved_of
  kind_loaded = rw (load_accepted t.bench i.sound i.idle b ok) (by b.path)
    where
      by : (p : Path) → kind_of (work_along t.bench.at b p) ≡ path_kind p
      by Path.Line = refl
      by (Path.Arc turn centre) = refl

  block_given_lem : block_listed t k (load_of t.bench b).bench (block_width t.bench.at b)
      ≡ record { bytes = made_line (t.blocks + 1) made; over = false; tally = next }
  unfolding block_listed moved_of
  block_given_lem = rw (ended t.bench i b ok, kind_loaded)

  ticks_added : Counts t → Adds t.ticks (ended_of t.bench b).ticks next.ticks
  ticks_added c =
      let short = rw (ended t.bench i b ok) at (ticks_most (load_of t.bench b).bench) in
      plus_adds t.ticks (ended_of t.bench b).ticks c.low (omega arith)

  counted : Counts t → t.lines + 1 ≤ longest_text → Counts next
  counted c most =
      let few = rw (ended t.bench i b ok) at (cycles_most (load_of t.bench b).bench) in
      record {
        lines = omega arith;
        blocks = omega (arith, c.blocks);
        cycles = omega (arith, c.cycles);
        high = omega (arith, c.high, (ticks_added c).carried);
        low = (ticks_added c).low;
      }

  module _ (last : LastRow) (lines : ℕ) (c : Counts t) where
    last_next : (ms : List Made) (end : End) → last_of last lines next ms end ≡ last_of last lines t (made ∷ ms) end
    unfolding all_cycles all_ticks moved_of
    last_next ms End.complete =
        let sum = (ticks_added c).sum in
        let many = ended_ticks t.bench i b ok low in
        let left = ap (λ (r : ℕ). all_ticks (capacity_of t.bench.settings) r ms) (ended_left t.bench i b ok low) in
        last_same last refl (omega arith) (omega arith) (omega arith)
    last_next ms (End.refused n number) = refl

    listed_next : (j : Job) → made_line (t.blocks + 1) made ++ listing_after last lines next j
        ≡ listing_after last lines t (record { blocks = made ∷ j.blocks; end = j.end })
    unfolding rows
    listed_next j =
        rw (last_next j.blocks j.end)
        (sym (append_assoc (made_line (t.blocks + 1) made) (rows (t.blocks + 1 + 1) j.blocks)
        (last_of last lines t (made ∷ j.blocks) j.end)))

-- ---- any line

-- with whatever last row, after so many text lines in all
abbrev pub Lists : LastRow → (lines : ℕ) → List (List ℕ) → Tally → Type 0
Lists last lines ls t = AtRest t.bench → Low t.bench → Counts t → t.lines + length ls ≡ lines → lines ≤ longest_text
    → rows_then last t ls
    ≡ listing_after last lines t (job_from t.bench.settings (t.lines + 1) t.bench.at t.reader ls)

by_line : (last : LastRow) (lines : ℕ) (t : Tally) (ls : List (List ℕ)) → AtRest t.bench → Low t.bench → Counts t
    → t.lines + suc (length ls) ≡ lines → lines ≤ longest_text
    → ((t' : Tally) → Lists last lines ls t')
    → {a : Asks} {r : ReadLine} → Read-as t.bench t.reader a r
    → (let g = listed_with t r.reader r.bench r.answer in g.bytes ++ unless g.over (rows_then last g.tally ls))
    ≡ listing_after last lines t
    (read_on (t.lines + 1) t.bench.at a (λ at k. job_from t.bench.settings (t.lines + 1 + 1) at k ls))
unfolding rows moved_of
by_line last lines t ls i low c all most rest (Read-as.nothing k) =
    rest (record { reader = k; bench = t.bench; lines = t.lines + 1; blocks = t.blocks; cycles = t.cycles; ticks = t.ticks }) i low
    (record {
      lines = omega arith;
      blocks = omega (arith, c.blocks);
      cycles = omega (arith, c.cycles);
      high = omega (arith, c.high);
      low = c.low;
    })
    (omega arith)
    most
by_line last lines t ls i low c all most rest (Read-as.makes k b ok) =
    let j = ended_rests t.bench i b ok in
    let later = rest (next t k b i low ok) j (ended_low t.bench i b ok low) (counted t k b i low ok c (omega arith))
    (omega arith) most in
    rw (block_given_lem t k b i low ok, later)
    (listed_next t k b i low ok last lines c (job_from t.bench.settings (t.lines + 1 + 1) b.end k ls))
by_line last lines t ls i low c all most rest (Read-as.refuses n) = append-nil (refused_line (t.lines + 1) n)

pub lists : (last : LastRow) (lines : ℕ) (ls : List (List ℕ)) (t : Tally) → Lists last lines ls t
unfolding rows_then job_from_at rows all_cycles all_ticks
lists last lines [] t i low c all most = last_same last (omega arith) (omega arith) (omega arith) (omega arith)
lists last lines (l ∷ ls) t i low c all most =
    rw (listed t l (counts_test t c) {r = read_line_of t.reader t.bench l} refl)
    (by_line last lines t ls i low c all most (lists last lines ls) (line_asks_lem t.bench t.reader i.sound i.idle l))
