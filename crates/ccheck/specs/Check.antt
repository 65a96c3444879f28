-- What a fill does on words that are no check.
use Rattle.std.specs.Prelude.{◌≡◌, List, ℕ, ℤ, negsuc}

-- words that are no check: 9, and nothing changed
pub record Refuses (ws ps : List ℤ) (old : List ℕ) (answer : ℤ) (len : ℕ) (ws' ps' : List ℤ) (new : List ℕ) : Type 0 where
  pub nine : answer ≡ negsuc 8
  pub none : len ≡ 0
  pub record_kept : ws' ≡ ws
  pub progress_kept : ps' ≡ ps
  pub buffer_kept : new ≡ old
