-- Where the job stands among its tick bytes: a block is in work while some are left, and the point is what those before add up to.
use Rattle.std.specs.Prelude.{◌≡◌, refl, Bool, cond, List, [], ◌∷◌, ◌++◌, ℕ, ◌+◌, ◌-◌, ◌≤◌, ◌<◌, leb, ltb, ℤ, ◌+ℤ◌, length, drop, take}
use Rattle.std.proofs.Common.{sym, subst, ◌∙◌, length-append, ltb-true, ltb-false}
use Rattle.std.proofs.Math.Path.{ap}
use Rattle.std.proofs.Math.Bool.{true, false}
use native.Mathlib.Omega.{arith}
use Rattle.std.proofs.Math.IntN.{pos}
use Rattle.std.proofs.Math.Seq.{take-nil, take-append-add}
use Rattle.std.proofs.lemmas.List.{take-append-le}
use Rattle.question.specs.laws.Ask.{passed as all_asked}
use Rattle.whole.specs.laws.Difference.{ring, var, num, ◌⊕◌}
use Rattle.plane.specs.declared.point.Point.{Point}
use Rattle.plane.specs.Byte.{code_x, code_y}
use Rattle.block.specs.declared.Block.{Block}
use Rattle.settings.specs.declared.Settings.{Settings}
use Rattle.settings.specs.Settings.{capacity_of}
use Rattle.settings.specs.computed.Settings.{settings_no, ask_settings}
use Rattle.bench.specs.declared.Bench.{Bench}
use Rattle.bench.specs.declared.Answered.{Answered}
use Rattle.bench.specs.declared.Ran.{Ran}
use Rattle.bench.specs.Bench.{moved_of, fresh_of}
use Rattle.bench.specs.computed.Calls.{make_of, load_of}
use Rattle.bench.specs.computed.Run.{Run, run_of}
use Rattle.bench.specs.laws.Run.{ticks_are}
use Rattle.book.specs.Sums.{pulses_in}
use Rattle.finish.specs.laws.Record.{AtRest, AtWork}
use Rattle.finish.specs.laws.Loaded.{loaded_at_work}
use Rattle.ahead.specs.computed.Ahead.{ticking_of}
use Rattle.ahead.specs.laws.Sums.{Leads, leads_none, leads_both}
use Rattle.reader.specs.declared.Reader.{Reader}
use Rattle.reader.specs.declared.text_line.ReadLine.{ReadLine}
use Rattle.reader.specs.computed.Reader.{longest_text}
use Rattle.reader.specs.Reader.{unknown}
use Rattle.job.specs.Text.{lines_of}
use Rattle.job.specs.computed.Job.{Asks, job_of}
use Rattle.job.specs.Listing.{all_ticks}
use Rattle.job.specs.computed.Check.{enough}
use Rattle.job.specs.computed.Check.{unless}
use Rattle.job.specs.laws.Ended.{Accepted, ended_rests, ended_run}
use Rattle.job.specs.laws.Listing.{fresh_rests}
use Rattle.job.specs.laws.Asks.{Read-as, line_asks_lem, load_accepted}
use Rattle.stream.specs.computed.Stream.{run_then, is_refused, bytes_from, tick_bytes_of}
use Rattle.stream.specs.laws.Pieces.{still_idle, nothing_left}
use Rattle.stream.specs.laws.Told.{bytes_told_lem}
use Rattle.seek.specs.declared.Found.{Found}
use Rattle.seek.specs.declared.Sought.{Sought}
use Rattle.seek.specs.computed.Seek.{answer, after_block, after_line, seek_from, seek_of}
use Rattle.seek.specs.laws.Bytes.{first_lead, all_lead}

-- after n of so many ticks: fewer than all, or all, and so many more
abbrev pub Counts : Found → (n all ticks : ℕ) → Type 0
Counts Found.InWork n all ticks = n < all
Counts Found.Over n all ticks = n ≡ all + ticks
Counts (Found.Refused number) n all ticks = n ≡ all + ticks

pub record Stands (from : Point) (n : ℕ) (bytes : List ℕ) (a : Sought) : Type 0 where
  pub leads : Leads from (take n bytes) a.bench.at
  pub counts : Counts a.found n (length bytes) a.ticks

no_bytes : (at : Point) (n : ℕ) → Leads at (take n []) at
no_bytes at n = subst (λ (bytes : List ℕ). Leads at bytes at) (sym (take-nil n)) (leads_none at)

-- with so many ticks in front
counts_after : (f : Found) (done n all ticks : ℕ) → Counts f n all ticks → Counts f (done + n) (done + all) ticks
counts_after Found.InWork done n all ticks c = omega arith
counts_after Found.Over done n all ticks c = omega arith
counts_after (Found.Refused number) done n all ticks c = omega arith

-- ---- a block that a machine at rest accepts, in front of what follows

module _ (m : Bench) (i : AtRest m) (b : Block) (ok : Accepted m b) (block line n : ℕ) (bytes : Bench → List ℕ)
    (later : (n : ℕ) → Bench → Sought) where
  abbrev loaded : Bench
  loaded = (load_of m b).bench

  works : AtWork loaded
  works = loaded_at_work m i b (rw i.idle ok)

  abbrev run : Run
  run = run_of loaded enough enough

  long : run.ran.ticks ≡ length run.bytes
  long = ticks_are loaded enough enough

  starts : loaded.at ≡ m.at
  unfolding moved_of
  starts = ap (λ (a : Answered). a.bench.at) (load_accepted m i.sound i.idle b ok)

  rests : AtRest run.ran.bench
  rests = subst AtRest (sym (ap (λ (r : Ran). r.bench) (ended_run m i b ok))) (ended_rests m i b ok)

  abbrev others : List ℕ
  others = bytes run.ran.bench

  -- the block is in work
  here : n < run.ran.ticks → Stands loaded.at n (run.bytes ++ others) (answer Found.InWork block line n (ticking_of n loaded).bench)
  here more =
      let few : n ≤ length run.bytes = omega (arith, long) in
      record {
        leads = rw (take-append-le n run.bytes others few) (first_lead loaded works n few);
        counts = omega (arith, length-append run.bytes others, long);
      }

  -- or it has ended
  past : run.ran.ticks ≤ n
      → (let k = n - run.ran.ticks in
      Stands run.ran.bench.at k others (later k run.ran.bench)
      → Stands loaded.at n (run.bytes ++ others) (later k run.ran.bench))
  past all rest =
      let k = n - run.ran.ticks in
      let a = later k run.ran.bench in
      let t = length run.bytes in
      let sum : t + k ≡ n = omega (arith, long) in
      subst (λ (j : ℕ). Stands loaded.at j (run.bytes ++ others) a) sum
      (record {
        leads = rw (take-append-add run.bytes others k) (leads_both (all_lead loaded works) rest.leads);
        counts = rw (length-append run.bytes others) (counts_after a.found t k (length others) a.ticks rest.counts);
      })

  block_stands : ((k : ℕ) (m' : Bench) → AtRest m' → Stands m'.at k (bytes m') (later k m'))
      → Stands m.at n (run_then loaded bytes) (after_block block line n loaded later)
  block_stands rest =
      subst (λ (p : Point). Stands p n (run_then loaded bytes) (after_block block line n loaded later)) starts
      (by (ltb n run.ran.ticks) refl)
    where
      by : (more : Bool) → ltb n run.ran.ticks ≡ more
          → Stands loaded.at n (run.bytes ++ others)
          (cond more (answer Found.InWork block line n (ticking_of n loaded).bench) (later (n - run.ran.ticks) run.ran.bench))
      by true more = here (ltb-true n run.ran.ticks more)
      by false all = past (ltb-false n run.ran.ticks all) (rest (n - run.ran.ticks) run.ran.bench rests)

-- ---- the lines of a job

abbrev Standing : List (List ℕ) → Type 0
Standing ls =
    (blocks lines n : ℕ) (m : Bench) (k : Reader) → AtRest m → Stands m.at n (bytes_from m k ls) (seek_from blocks lines n m k ls)

by_line : (blocks line n : ℕ) (m : Bench) (k : Reader) (ls : List (List ℕ)) → AtRest m → Standing ls
    → {a : Asks} {r : ReadLine} → Read-as m k a r
    → Stands m.at n (unless (is_refused r.answer) (run_then r.bench (λ m'. bytes_from m' r.reader ls)))
    (after_line blocks line n r.bench r.answer (λ blocks' n' m'. seek_from blocks' line n' m' r.reader ls))
by_line blocks line n m k ls i rest (Read-as.nothing known) =
    rw (nothing_left m (λ (m' : Bench). bytes_from m' known ls) (still_idle m i.idle)) (rest blocks line n m known i)
by_line blocks line n m k ls i rest (Read-as.makes known b ok) =
    block_stands m i b ok (blocks + 1) line n (λ m'. bytes_from m' known ls) (λ n' m'. seek_from (blocks + 1) line n' m' known ls)
    (λ n' m' i'. rest (blocks + 1) line n' m' known i')
by_line blocks line n m k ls i rest (Read-as.refuses number) = record { leads = no_bytes m.at n; counts = omega arith }

lines_stand : (ls : List (List ℕ)) → Standing ls
unfolding bytes_from seek_from
lines_stand [] blocks lines n m k i = record { leads = no_bytes m.at n; counts = omega arith }
lines_stand (l ∷ ls) blocks lines n m k i = by_line blocks (lines + 1) n m k ls i (lines_stand ls) (line_asks_lem m k i.sound i.idle l)

-- ---- of a whole text

module _ (s : Settings) (passed : settings_no s ≡ 0) (text : List ℕ) (n : ℕ) where
  abbrev result : Sought
  result = seek_of s text n

  text_stands : Stands (record { x = pos 0; y = pos 0 }) n (tick_bytes_of s text) result
  unfolding seek_of tick_bytes_of make_of fresh_of
  text_stands = rw (all_asked (ask_settings s) passed) (by (leb (length text) longest_text))
    where
      by : (short : Bool)
          → Stands (record { x = pos 0; y = pos 0 }) n (cond short (bytes_from (fresh_of s) unknown (lines_of (drop 0 text))) [])
          (cond short (seek_from 0 0 n (fresh_of s) unknown (lines_of text)) (answer (Found.Refused 30) 0 1 n (fresh_of s)))
      by true = lines_stand (lines_of text) 0 0 n (fresh_of s) unknown (fresh_rests s passed)
      by false = record { leads = no_bytes (fresh_of s).at n; counts = omega arith }

  -- "Pulses sent are their codes, 1 as plus one and 2 as minus one": those of the first n tick bytes sum to the point, also where the job
  -- is over or a line is refused
  pub seek_adds_up : (let bytes = take n (tick_bytes_of s text) in
      (result.bench.at.x ≡ pulses_in code_x bytes) × (result.bench.at.y ≡ pulses_in code_y bytes))
  seek_adds_up = (text_stands.leads.x ∙ origin _, text_stands.leads.y ∙ origin _)
    where
      origin : (z : ℤ) → pos 0 +ℤ z ≡ z
      origin z = ring (num 0 ⊕ var z) (var z) (omega arith)

  -- a block is in work while tick bytes are left, of which there are as many as the listing's last line says
  pub seek_counts : Counts result.found n (all_ticks (capacity_of s) 0 (job_of s text).blocks) result.ticks
  seek_counts = rw (← (bytes_told_lem s passed text).ticks) text_stands.counts
