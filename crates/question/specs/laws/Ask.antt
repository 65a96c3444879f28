-- Where no question was answered by no, each was answered by yes.
use Rattle.std.specs.Prelude.{◌≡◌, refl, Bool, true, false, Result, Ok, Err, is_err, ⊤}
use Rattle.std.proofs.lemmas.Bool.{false≢true}
use Rattle.std.proofs.Common.{sym}
use Rattle.question.specs.declared.Question.{Question}
use Rattle.question.specs.Question.{ask, number_told}
use Rattle.question.specs.laws.Number.{number_some}

pub answered : {yes : Bool} (q : Question) (next : Result ⊤ Question) → number_told (ask yes next q) ≡ 0
    → (yes ≡ true) × (number_told next ≡ 0)
answered {yes = true} q next e = (refl, e)
answered {yes = false} q next e = absurd (number_some q e)

pub passed : (r : Result ⊤ Question) → number_told r ≡ 0 → r ≡ Ok tt
passed (Ok value) e = refl
passed (Err q) e = absurd (number_some q e)

-- the test of an answer that the code makes
pub none_told : {A : Type 0} (r : Result A Question) → is_err r ≡ false → number_told r ≡ 0
none_told (Ok value) e = refl
none_told (Err q) e = absurd (false≢true (sym e))

pub some_told : {A : Type 0} (r : Result A Question) → is_err r ≡ true → number_told r ≡ 0 → ⊥
some_told (Ok value) e none = false≢true e
some_told (Err q) e none = number_some q none
