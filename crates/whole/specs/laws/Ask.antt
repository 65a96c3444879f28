-- Where no question was answered by no, each was answered by yes.
use Rattle.std.specs.Prelude.{◌≡◌, refl, Bool, true, false, ℕ, suc}
use Rattle.std.proofs.Common.{arith}
use Rattle.whole.specs.computed.Ask.{ask}

pub answered : {yes : Bool} {next : ℕ} (number : ℕ) → ask yes next (suc number) ≡ 0 → (yes ≡ true) × (next ≡ 0)
answered {yes = true} number e = (refl, e)
answered {yes = false} number e = absurd (omega arith)
