-- What the check's two calls answer in C and the words after them, for any words whatever.
use Rattle.std.specs.Prelude.{◌≡◌, Bool, true, false, ◌&&◌, List, ℕ, ℤ}
use Rattle.settings.specs.declared.Settings.{Settings}
use Rattle.bench.specs.computed.Calls.{make_of}
use Rattle.job.specs.declared.Check.{Check}
use Rattle.job.specs.computed.Check.{check_from, Fills}
use Rattle.job.specs.Check.{is_over}
use Rattle.encoding.specs.Words.{mark_word, encode_of}
use Rattle.encoding.specs.computed.Words.{bench_read, sound_words}
use Rattle.progress.specs.computed.Progress.{DecodedProgress}
use Rattle.progress.specs.Progress.{encode_progress}
use Rattle.progress.specs.computed.Progress.{decode_progress}
use Rattle.ccheck.specs.Check.{Refuses}

-- the progress of a check that begins at the bench that a make answers
abbrev pub start_progress : Settings → List ℤ
start_progress s = encode_progress (check_from (make_of s).bench)

-- the check that the words of a bench and of its progress tell, if they are a sound bench's and one's
abbrev pub check_told : (ws ps : List ℤ) → DecodedProgress
check_told ws ps = decode_progress (bench_read ws) ps

unfoldable pub is_check : (ws ps : List ℤ) → Bool
is_check ws ps = sound_words ws && (check_told ws ps).ok

-- those of the check c: the next of its rows, and the words of the check after them; 1 once all is handed out
pub record Hands (c : Check) (text old : List ℕ) (answer : ℤ) (len : ℕ) (ws' ps' : List ℤ) (new : List ℕ) : Type 0 where
  pub next : Check
  pub fills : Fills c text old (record { len = len; check = next }) new
  pub words : ws' ≡ encode_of next.tally.bench
  pub progress : ps' ≡ encode_progress next
  pub over : answer ≡ mark_word (is_over next)

-- what a fill tells, whatever the words
pub data TellsFill (ws ps : List ℤ) (text old : List ℕ) (answer : ℤ) (len : ℕ) (ws' ps' : List ℤ) (new : List ℕ) : Type 0 where
  check : is_check ws ps ≡ true → Hands (check_told ws ps).check text old answer len ws' ps' new
      → TellsFill ws ps text old answer len ws' ps' new
  no_check : is_check ws ps ≡ false → Refuses ws ps old answer len ws' ps' new → TellsFill ws ps text old answer len ws' ps' new
