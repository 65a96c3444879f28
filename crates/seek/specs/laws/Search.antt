-- A search between two lines, what a line makes of it, and that it finds what is sought.
use Rattle.std.specs.Prelude.{◌≡◌, refl, Bool, true, false, cond, List, ◌∷◌, ℕ, ◌+◌, ◌-◌, ◌≤◌, ltb}
use Rattle.std.proofs.Common.{true≢false, arith}
use Rattle.bench.specs.declared.Bench.{Bench}
use Rattle.bench.specs.computed.Run.{run_of}
use Rattle.ahead.specs.computed.Ahead.{ticking_of}
use Rattle.reader.specs.declared.Reader.{Reader}
use Rattle.reader.specs.declared.text_line.Read.{Read}
use Rattle.reader.specs.declared.text_line.ReadLine.{ReadLine}
use Rattle.reader.specs.computed.TextLine.{read_line_of}
use Rattle.job.specs.computed.Check.{enough}
use Rattle.seek.specs.declared.Found.{Found}
use Rattle.seek.specs.declared.Sought.{Sought}
use Rattle.seek.specs.declared.Search.{Search}
use Rattle.seek.specs.computed.Seek.{answer, after_block, after_line, seek_from}
use Rattle.seek.specs.computed.Search.{block_of}
use Rattle.seek.specs.computed.Search.{line_with}
use Rattle.seek.specs.computed.Search.{search_after}

-- ---- what the code's functions compute

-- ---- what is sought is found

-- what a search that goes on is still to find in these lines
abbrev pub to_find : Search → (lines : List (List ℕ)) → Sought
to_find s ls = let t = s.sought in seek_from t.block t.line t.ticks t.bench s.reader ls

abbrev pub outcome : Search → (lines : List (List ℕ)) → Sought
outcome s ls = cond s.decided s.sought (to_find s ls)

block_found : (s : Search) (k : Reader) (m : Bench) (ls : List (List ℕ))
    → (let b = s.sought.block + 1 in
    let l = s.sought.line + 1 in
    after_block b l s.sought.ticks m (λ n m'. seek_from b l n m' k ls) ≡ outcome (block_of s k m) ls)
unfolding block_of
block_found s k m ls = by (ltb s.sought.ticks (run_of m enough enough).ran.ticks)
  where
    by : (decided : Bool)
        → (let b = s.sought.block + 1 in
        let l = s.sought.line + 1 in
        let n = s.sought.ticks in
        let x = (run_of m enough enough).ran in
        let here = answer Found.InWork b l n (ticking_of n m).bench in
        let on = answer Found.Over b l (n - x.ticks) x.bench in
        cond decided here (seek_from b l (n - x.ticks) x.bench k ls)
        ≡ outcome (record { decided = decided; reader = k; sought = cond decided here on }) ls)
    by true = refl
    by false = refl

-- a line takes the first of the lines that are left
pub line_found : (s : Search) (l : List ℕ) (ls : List (List ℕ)) {r : ReadLine} → r ≡ read_line_of s.reader s.sought.bench l
    → to_find s (l ∷ ls) ≡ outcome (search_after s r) ls
unfolding seek_from
line_found s l ls {r} read = rw (← read) (by r.answer)
  where
    by : (a : Read)
        → (let t = s.sought in
        after_line t.block (t.line + 1) t.ticks r.bench a (λ b n m. seek_from b (t.line + 1) n m r.reader ls)
        ≡ outcome (line_with s r.reader r.bench a) ls)
    by Read.Nothing = refl
    by (Read.Loaded bits) = block_found s r.reader r.bench ls
    by (Read.Refused number) = refl

-- a line that is counted, with its block
pub record OneLineMore (s t : Search) : Type 0 where
  pub blocks : t.sought.block ≤ s.sought.block + 1
  pub lines : t.sought.line ≡ s.sought.line + 1
  pub going : t.decided ≡ false → (t.sought.found ≡ Found.Over) × (t.sought.left ≡ 0)

pub one_line_more : (s : Search) (r : ReadLine) → OneLineMore s (search_after s r)
unfolding block_of
one_line_more s r = by r.answer
  where
    block : (decided : Bool) (m n : Bench) (k : ℕ)
        → (let b = s.sought.block + 1 in
        let l = s.sought.line + 1 in
        OneLineMore s (record {
          decided = decided;
          reader = r.reader;
          sought = cond decided (answer Found.InWork b l s.sought.ticks m) (answer Found.Over b l k n);
        }))
    block true m n k = record { blocks = omega arith; lines = refl; going = λ e. absurd (true≢false e) }
    block false m n k = record { blocks = omega arith; lines = refl; going = λ e. (refl, refl) }

    by : (a : Read) → OneLineMore s (line_with s r.reader r.bench a)
    by Read.Nothing = record { blocks = omega arith; lines = refl; going = λ e. (refl, refl) }
    by (Read.Loaded bits) =
        let x = (run_of r.bench enough enough).ran in
        let n = s.sought.ticks in
        block (ltb n x.ticks) (ticking_of n r.bench).bench x.bench (n - x.ticks)
    by (Read.Refused number) = record { blocks = omega arith; lines = refl; going = λ e. absurd (true≢false e) }
