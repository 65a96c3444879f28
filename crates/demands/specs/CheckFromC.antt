-- The check of a job from C. It works at a bench alone, since "Each block is loaded once the one before has ended": in 19 words of that
-- bench and in 9 words of its progress.
use Rattle.std.specs.Prelude.{◌≡◌, List, [], ◌++◌, ℕ, ℤ, pos, take}
use Rattle.std.specs.Borrow.{Bor, MutBor}
use contract.Lifetimes.{Lfts}
use Rattle.settings.specs.declared.Settings.{Settings}
use Rattle.bench.specs.declared.Bench.{Bench}
use Rattle.machine.specs.declared.Answered.{Answered}
use Rattle.history.specs.CallContracts.{Makes}
use Rattle.job.specs.declared.Check.{Check}
use Rattle.job.specs.declared.Filled.{Filled}
use Rattle.job.specs.Check.{is_over}
use Rattle.encoding.specs.Words.{encode_of, mark_word, settings_of}
use Rattle.progress.specs.Progress.{encode_progress, check_in}
use Rattle.calls.specs.Calls.{answer_number}
use Rattle.calls.specs.computed.Calls.{tells, bench_made}
use Rattle.ccheck.specs.computed.Check.{start_progress, TellsFill}
use Rattle.demands.specs.Bench.{BenchSound}
use Rattle.demands.specs.Texts.{Starts, FillsCheck}

-- the words of the check c
pub record Tells (c : Check) (ws ps : List ℤ) : Type 0 where
  pub words : ws ≡ encode_of c.tally.bench
  pub progress : ps ≡ encode_progress c

-- a start may answer n
abbrev pub StartsFromC : Lfts 2 → (words words' progress progress' : MutBor (List ℤ)) (p w xlo xhi ylo yhi n : ℤ) → Type 0
StartsFromC κs words words' progress progress' p w xlo xhi ylo yhi n =
    let s = settings_of p w xlo xhi ylo yhi in (tells n words'.now ≡ bench_made s) × (progress'.now ≡ start_progress s)

-- the words of a check that begins at the bench of the machine that a make answers
abbrev pub StartedWords : Settings → (n : ℤ) (ws ps : List ℤ) → Type 0
StartedWords s n ws ps =
    (r : Answered) × Makes s r × (n ≡ answer_number r.answer) × (c : Check) × Starts r.machine.bench c × Tells c ws ps

-- a fill of the words, lent the text, may answer n
abbrev pub FillsFromC : Lfts 5
    → (ws ws' ps ps' : MutBor (List ℤ)) (text : Bor (List ℕ)) (out out' : MutBor (List ℕ)) (len len' : MutBor ℕ) (n : ℤ) → Type 0
FillsFromC κs ws ws' ps ps' text out out' len len' n =
    TellsFill ws.now ps.now text.now out.now n len'.now ws'.now ps'.now out'.now

-- the check's own fill: 1 once all is handed out, else 0
abbrev pub OwnFill : Check → (text : Bor (List ℕ)) (out out' : MutBor (List ℕ)) (n : ℤ) (len : ℕ) (ws' ps' : List ℤ) → Type 0
OwnFill c text out out' n len ws' ps' =
    (f : Filled) × ((κs : Lfts 2) → FillsCheck κs c text out out' f) × (n ≡ mark_word (is_over f.check)) × (len ≡ f.len)
    × Tells f.check ws' ps'

-- the words of a sound bench, and a check's progress at it
abbrev pub IsCheck : (ws ps : List ℤ) → Bench → Type 0
IsCheck ws ps k = BenchSound k × (ws ≡ encode_of k) × (ps ≡ encode_progress (check_in k ps))

-- fills of one text, one after the other, lead from these words to those, and hand these bytes out; n is what the last answered
pub data RowsOutToC (text : List ℕ) (ws ps : List ℤ) : List ℕ → (n : ℤ) → (ws' ps' : List ℤ) → Type 0 where
  none : RowsOutToC text ws ps [] (pos 0) ws ps
  fill : {bytes : List ℕ} {n : ℤ} {ws₁ ps₁ : List ℤ} → RowsOutToC text ws ps bytes n ws₁ ps₁ → (κs : Lfts 5)
      (words words' progress progress' : MutBor (List ℤ)) (lent : Bor (List ℕ)) (out out' : MutBor (List ℕ)) (len len' : MutBor ℕ) (n' : ℤ)
      → words.now ≡ ws₁ → progress.now ≡ ps₁ → lent.now ≡ text
      → FillsFromC κs words words' progress progress' lent out out' len len' n'
      → RowsOutToC text ws ps (bytes ++ take len'.now out'.now) n' words'.now progress'.now
