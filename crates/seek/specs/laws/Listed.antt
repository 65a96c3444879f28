-- The block in work has the number and the text line that the listing gives it.
use Rattle.std.specs.Prelude.{◌≡◌, Bool, true, false, cond, List, [], ◌∷◌, ℕ, suc, ◌+◌, ◌-◌, ◌<◌, leb, ltb, pos, length, drop, take}
use Rattle.std.proofs.Common.{sym, ap, subst, ◌∙◌, arith}
use Rattle.question.specs.laws.Ask.{passed as all_asked}
use Rattle.block.specs.declared.Block.{Block}
use Rattle.settings.specs.declared.Settings.{Settings}
use Rattle.settings.specs.computed.Settings.{settings_no, ask_settings}
use Rattle.bench.specs.declared.Bench.{Bench}
use Rattle.bench.specs.declared.Ran.{Ran}
use Rattle.bench.specs.Bench.{moved_of, fresh_of}
use Rattle.bench.specs.computed.Calls.{make_of, load_of}
use Rattle.bench.specs.computed.Run.{run_of}
use Rattle.finish.specs.laws.Record.{AtRest}
use Rattle.ahead.specs.computed.Ahead.{ticking_of}
use Rattle.reader.specs.declared.Reader.{Reader}
use Rattle.reader.specs.declared.text_line.ReadLine.{ReadLine}
use Rattle.reader.specs.computed.Reader.{longest_text}
use Rattle.reader.specs.Reader.{unknown}
use Rattle.job.specs.Text.{lines_of}
use Rattle.job.specs.Job.{Made, End}
use Rattle.job.specs.computed.Job.{Asks, read_on, job_from_at, job_at, job_from, job_of}
use Rattle.job.specs.computed.Check.{enough}
use Rattle.job.specs.laws.Ended.{Accepted, ended_of, ended_rests, ended_run}
use Rattle.job.specs.laws.Listing.{fresh_rests}
use Rattle.job.specs.laws.Asks.{Read-as, line_asks_lem}
use Rattle.seek.specs.declared.Found.{Found}
use Rattle.seek.specs.declared.Sought.{Sought}
use Rattle.seek.specs.computed.Seek.{answer, after_block, after_line, seek_from, seek_of}

-- the text lines of the blocks, in their order
abbrev pub text_lines : List Made → List ℕ
text_lines [] = []
text_lines (m ∷ ms) = m.text_line ∷ text_lines ms

-- a block in work is one of these, which have the numbers after `before`
abbrev pub Among : Found → (before block line : ℕ) → List Made → Type 0
Among Found.InWork before block line ms = (before < block) × (take 1 (drop (block - suc before) (text_lines ms)) ≡ line ∷ [])
Among Found.Over before block line ms = Unit {0}
Among (Found.Refused number) before block line ms = Unit {0}

abbrev Listed : Sought → (before : ℕ) → List Made → Type 0
Listed a before ms = Among a.found before a.block a.line ms

among_first : (before : ℕ) (m : Made) (ms : List Made) → Among Found.InWork before (before + 1) m.text_line (m ∷ ms)
among_first before m ms =
    let none : before + 1 - suc before ≡ 0 = omega arith in
    (omega arith, ap (λ (k : ℕ). take 1 (drop k (text_lines (m ∷ ms)))) none)

among_later : (f : Found) (before block line : ℕ) (m : Made) (ms : List Made) → Among f (before + 1) block line ms
    → Among f before block line (m ∷ ms)
among_later Found.InWork before block line m ms a =
    let one : block - suc before ≡ suc (block - suc (before + 1)) = omega (arith, a.0) in
    (omega (arith, a.0), ap (λ (k : ℕ). take 1 (drop k (text_lines (m ∷ ms)))) one ∙ a.1)
among_later Found.Over before block line m ms a = tt
among_later (Found.Refused number) before block line m ms a = tt

module _ (m : Bench) (i : AtRest m) (b : Block) (ok : Accepted m b) (blocks line n : ℕ) (later : (n : ℕ) → Bench → Sought) where
  abbrev made : Made
  made = record { text_line = line; start = m.at; block = b }

  abbrev loaded : Bench
  loaded = (load_of m b).bench

  abbrev x : Ran
  x = (run_of loaded enough enough).ran

  block_listed_lem : (ms : List Made) → ((k : ℕ) → Listed (later k (ended_of m b).bench) (blocks + 1) ms)
      → Listed (after_block (blocks + 1) line n loaded later) blocks (made ∷ ms)
  block_listed_lem ms rest = by (ltb n x.ticks)
    where
      by : (more : Bool)
          → (let here = answer Found.InWork (blocks + 1) line n (ticking_of n loaded).bench in
          Listed (cond more here (later (n - x.ticks) x.bench)) blocks (made ∷ ms))
      by true = among_first blocks made ms
      by false =
          let a = later (n - x.ticks) x.bench in
          let left = ap (λ (r : Ran). r.bench) (ended_run m i b ok) in
          among_later a.found blocks a.block a.line made ms
          (subst (λ (k : Bench). Listed (later (n - x.ticks) k) (blocks + 1) ms) (sym left) (rest (n - x.ticks)))

abbrev Listing : List (List ℕ) → Type 0
Listing ls =
    (blocks lines n : ℕ) (m : Bench) (k : Reader) → AtRest m
    → Listed (seek_from blocks lines n m k ls) blocks (job_from m.settings (lines + 1) m.at k ls).blocks

by_line : (blocks lines n : ℕ) (m : Bench) (k : Reader) (ls : List (List ℕ)) → AtRest m → Listing ls
    → {a : Asks} {r : ReadLine} → Read-as m k a r
    → Listed
    (after_line blocks (lines + 1) n r.bench r.answer (λ blocks' n' m'. seek_from blocks' (lines + 1) n' m' r.reader ls))
    blocks (read_on (lines + 1) m.at a (λ at k'. job_from m.settings (lines + 1 + 1) at k' ls)).blocks
unfolding moved_of
by_line blocks lines n m k ls i rest (Read-as.nothing known) = rest blocks (lines + 1) n m known i
by_line blocks lines n m k ls i rest (Read-as.makes known b ok) =
    block_listed_lem m i b ok blocks (lines + 1) n (λ n' m'. seek_from (blocks + 1) (lines + 1) n' m' known ls)
    (job_from m.settings (lines + 1 + 1) b.end known ls).blocks
    (λ n'. rest (blocks + 1) (lines + 1) n' (ended_of m b).bench known (ended_rests m i b ok))
by_line blocks lines n m k ls i rest (Read-as.refuses number) = tt

lines_listed : (ls : List (List ℕ)) → Listing ls
unfolding seek_from job_from_at
lines_listed [] blocks lines n m k i = tt
lines_listed (l ∷ ls) blocks lines n m k i = by_line blocks lines n m k ls i (lines_listed ls) (line_asks_lem m k i.sound i.idle l)

-- of a whole text
pub seek_listed : (s : Settings) → settings_no s ≡ 0 → (text : List ℕ) (n : ℕ)
    → (let a = seek_of s text n in Among a.found 0 a.block a.line (job_of s text).blocks)
unfolding seek_of job_at make_of fresh_of
seek_listed s passed text n = rw (all_asked (ask_settings s) passed) (by (leb (length text) longest_text))
  where
    by : (short : Bool)
        → Listed (cond short (seek_from 0 0 n (fresh_of s) unknown (lines_of text)) (answer (Found.Refused 30) 0 1 n (fresh_of s))) 0
        (cond short (job_from s 1 (record { x = pos 0; y = pos 0 }) unknown (lines_of text))
        (record { blocks = []; end = End.refused 1 30 })
        ).blocks
    by true = lines_listed (lines_of text) 0 0 n (fresh_of s) unknown (fresh_rests s passed)
    by false = tt
