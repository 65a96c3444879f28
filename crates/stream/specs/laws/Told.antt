-- A stream that has just begun has the text's tick bytes to hand out; there are as many, and they mark as many cycles, as the listing's
-- last line says.
use Rattle.std.specs.Prelude.{◌≡◌, refl, Bool, true, false, cond, List, [], ◌∷◌, ◌++◌, ℕ, ◌+◌, leb, pos, drop}
use Rattle.std.proofs.Math.Path.{sym, ap}
use Rattle.std.proofs.Common.{◌∙◌, arith}
use Rattle.std.proofs.Math.ListN.{length, length-append}
use Rattle.plane.specs.Byte.{cycles_marked}
use Rattle.block.specs.declared.Block.{Block}
use Rattle.bench.specs.declared.Bench.{Bench}
use Rattle.bench.specs.declared.Ran.{Ran}
use Rattle.settings.specs.declared.Settings.{Settings}
use Rattle.settings.specs.Settings.{capacity_of}
use Rattle.settings.specs.computed.Settings.{settings_no}
use Rattle.bench.specs.Bench.{moved_of, fresh_of}
use Rattle.bench.specs.computed.Calls.{load_of}
use Rattle.bench.specs.computed.Run.{run_of}
use Rattle.bench.specs.laws.Run.{ticks_are}
use Rattle.finish.specs.laws.Record.{AtRest}
use Rattle.reader.specs.declared.Reader.{Reader}
use Rattle.reader.specs.declared.text_line.ReadLine.{ReadLine}
use Rattle.reader.specs.computed.Reader.{longest_text}
use Rattle.reader.specs.Reader.{unknown}
use Rattle.job.specs.Text.{lines_of}
use Rattle.job.specs.Job.{Made, End}
use Rattle.job.specs.computed.Job.{Asks, read_on, job_from_at, job_at, job_from, job_of}
use Rattle.job.specs.computed.Check.{enough}
use Rattle.job.specs.computed.Check.{unless}
use Rattle.job.specs.Listing.{all_cycles, all_ticks}
use Rattle.job.specs.laws.Ended.{Accepted, Low, ended_of, ended_rests, ended_run, ended_cycles, ended_ticks, ended_left, ended_low}
use Rattle.job.specs.laws.Listing.{fresh_rests, fresh_low}
use Rattle.job.specs.laws.Asks.{Read-as, line_asks_lem}
use Rattle.stream.specs.computed.Stream.{run_then, is_refused, bytes_from, lines_bytes, tick_bytes_of, stream_from, rest_of, Tells}
use Rattle.stream.specs.laws.Pieces.{still_idle, nothing_left}

pub stream_tells : (s : Settings) → Tells s (stream_from (fresh_of s))
unfolding rest_of stream_from tick_bytes_of fresh_of
stream_tells s text = nothing_left (fresh_of s) (λ (m : Bench). lines_bytes m unknown 0 text) (still_idle (fresh_of s) refl)

-- ---- ticks and cycles

pub marked_both : (a b : List ℕ) → cycles_marked (a ++ b) ≡ cycles_marked a + cycles_marked b
marked_both [] b = omega arith
marked_both (x ∷ a) b = omega (arith, marked_both a b)

pub record Counts (q0 r : ℕ) (ms : List Made) (bytes : List ℕ) : Type 0 where
  pub ticks : length bytes ≡ all_ticks q0 r ms
  pub cycles : cycles_marked bytes ≡ all_cycles ms

none : (q0 r : ℕ) → Counts q0 r [] []
unfolding all_ticks all_cycles
none q0 r = record { ticks = refl; cycles = refl }

-- the bytes of a block in front
module _ (m : Bench) (n : ℕ) (b : Block) (i : AtRest m) (low : Low m) (ok : Accepted m b) (rest : Bench → List ℕ) where
  counts_block : {ms : List Made} → Counts (capacity_of m.settings) (ended_of m b).bench.remainder ms (rest (ended_of m b).bench)
      → Counts (capacity_of m.settings) m.remainder (record { text_line = n; start = m.at; block = b } ∷ ms)
      (run_then (load_of m b).bench rest)
  unfolding all_ticks all_cycles moved_of
  counts_block {ms} c =
      let x = run_of (load_of m b).bench enough enough in
      let ran = ended_run m i b ok in
      let many : length x.bytes ≡ (ended_of m b).ticks = sym (ticks_are (load_of m b).bench enough enough)
      ∙ ap (λ (r : Ran). r.ticks) ran in
      let given = ended_ticks m i b ok low in
      let kept = ap (λ (r : ℕ). all_ticks (capacity_of m.settings) r ms) (ended_left m i b ok low) in
      let left : x.ran.bench ≡ (ended_of m b).bench = ap (λ (r : Ran). r.bench) ran in
      rw left
      (record {
        ticks = omega (arith, length-append x.bytes (rest (ended_of m b).bench), many, c.ticks);
        cycles = omega (arith, marked_both x.bytes (rest (ended_of m b).bench), ended_cycles m i b ok, c.cycles);
      })

abbrev pub Told : List (List ℕ) → Type 0
Told ls = (n : ℕ) (m : Bench) (k : Reader) → AtRest m → Low m
    → Counts (capacity_of m.settings) m.remainder (job_from m.settings n m.at k ls).blocks (bytes_from m k ls)

by_line : (m : Bench) (n : ℕ) (k : Reader) (ls : List (List ℕ)) → AtRest m → Low m → Told ls → {a : Asks} {r : ReadLine} → Read-as m k a r
    → Counts (capacity_of m.settings) m.remainder (read_on n m.at a (λ at k'. job_from m.settings (n + 1) at k' ls)).blocks
    (unless (is_refused r.answer) (run_then r.bench (λ m'. bytes_from m' r.reader ls)))
unfolding moved_of
by_line m n k ls i low rest (Read-as.nothing known) =
    rw (nothing_left m (λ (m' : Bench). bytes_from m' known ls) (still_idle m i.idle)) (rest (n + 1) m known i low)
by_line m n k ls i low rest (Read-as.makes known b ok) =
    counts_block m n b i low ok (λ m'. bytes_from m' known ls)
    (rest (n + 1) (ended_of m b).bench known (ended_rests m i b ok) (ended_low m i b ok low))
by_line m n k ls i low rest (Read-as.refuses number) = none (capacity_of m.settings) m.remainder

lines_told : (ls : List (List ℕ)) → Told ls
unfolding bytes_from job_from_at
lines_told [] n m k i low = none (capacity_of m.settings) m.remainder
lines_told (l ∷ ls) n m k i low = by_line m n k ls i low (lines_told ls) (line_asks_lem m k i.sound i.idle l)

-- of a whole text, from a machine made fresh
pub bytes_told_lem : (s : Settings) → settings_no s ≡ 0 → (text : List ℕ)
    → Counts (capacity_of s) 0 (job_of s text).blocks (tick_bytes_of s text)
unfolding tick_bytes_of job_at fresh_of
bytes_told_lem s passed text = by (leb (length text) longest_text)
  where
    by : (short : Bool)
        → Counts (capacity_of s) 0 (cond short (job_from s 1 (record { x = pos 0; y = pos 0 }) unknown (lines_of text))
        (record { blocks = []; end = End.refused 1 30 })).blocks
        (cond short (bytes_from (fresh_of s) unknown (lines_of (drop 0 text))) [])
    by true = lines_told (lines_of text) 1 (fresh_of s) unknown (fresh_rests s passed) (fresh_low s passed)
    by false = none (capacity_of s) 0
