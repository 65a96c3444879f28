-- Each question has a number of its own, which is not 0.
use Rattle.std.specs.Prelude.{◌≡◌, refl, cond, ℕ, eqb}
use Rattle.std.proofs.Common.{sym, ap, ◌∙◌, arith}
use Rattle.question.specs.declared.Question.{Question}
use Rattle.question.specs.Question.{number_of}

-- which question has a number, for the numbers that have one
abbrev question_at : ℕ → Question
question_at n =
    cond (eqb n 1) Question.Scale (
    cond (eqb n 2) Question.Clock (
    cond (eqb n 3) Question.Travel (
    cond (eqb n 9) Question.Sound (
    cond (eqb n 10) Question.Room (
    cond (eqb n 11) Question.Feed (
    cond (eqb n 12) Question.EndInTravel (
    cond (eqb n 13) Question.Moves (
    cond (eqb n 14) Question.Centre (
    cond (eqb n 15) Question.EndOnCircle (
    cond (eqb n 16) Question.VisitsInTravel (
    cond (eqb n 30) Question.TextLength (
    cond (eqb n 31) Question.LineLength (
    cond (eqb n 32) Question.Words (
    cond (eqb n 33) Question.LettersOnce (
    cond (eqb n 34) Question.Motion (
    cond (eqb n 35) Question.OnPulse (
    cond (eqb n 36) Question.MotionAndFeed (
    cond (eqb n 37) Question.CentreAsMotion (
    Question.LookLength)))))))))))))))))))

at_number : (q : Question) → question_at (number_of q) ≡ q
at_number Question.Scale = refl
at_number Question.Clock = refl
at_number Question.Travel = refl
at_number Question.Sound = refl
at_number Question.Room = refl
at_number Question.Feed = refl
at_number Question.EndInTravel = refl
at_number Question.Moves = refl
at_number Question.Centre = refl
at_number Question.EndOnCircle = refl
at_number Question.VisitsInTravel = refl
at_number Question.TextLength = refl
at_number Question.LineLength = refl
at_number Question.Words = refl
at_number Question.LettersOnce = refl
at_number Question.Motion = refl
at_number Question.OnPulse = refl
at_number Question.MotionAndFeed = refl
at_number Question.CentreAsMotion = refl
at_number Question.LookLength = refl

pub number_once : (p q : Question) → number_of p ≡ number_of q → p ≡ q
number_once p q e = sym (at_number p) ∙ ap question_at e ∙ at_number q

pub number_some : (q : Question) → number_of q ≡ 0 → ⊥
number_some Question.Scale e = absurd (omega arith)
number_some Question.Clock e = absurd (omega arith)
number_some Question.Travel e = absurd (omega arith)
number_some Question.Sound e = absurd (omega arith)
number_some Question.Room e = absurd (omega arith)
number_some Question.Feed e = absurd (omega arith)
number_some Question.EndInTravel e = absurd (omega arith)
number_some Question.Moves e = absurd (omega arith)
number_some Question.Centre e = absurd (omega arith)
number_some Question.EndOnCircle e = absurd (omega arith)
number_some Question.VisitsInTravel e = absurd (omega arith)
number_some Question.TextLength e = absurd (omega arith)
number_some Question.LineLength e = absurd (omega arith)
number_some Question.Words e = absurd (omega arith)
number_some Question.LettersOnce e = absurd (omega arith)
number_some Question.Motion e = absurd (omega arith)
number_some Question.OnPulse e = absurd (omega arith)
number_some Question.MotionAndFeed e = absurd (omega arith)
number_some Question.CentreAsMotion e = absurd (omega arith)
number_some Question.LookLength e = absurd (omega arith)
