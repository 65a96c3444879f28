-- Questions put one after the other give the number of the first no, or none.
use Rattle.std.specs.Prelude.{◌≡◌, refl, Bool, true, false, ◌↔◌, ℕ, zero, suc, Result, ⊤}
use Rattle.std.proofs.Common.{sym, ap, subst, ◌∙◌, inl, inr, arith}
use Rattle.std.proofs.lemmas.Bool.{false≢true}
use Rattle.question.specs.laws.Number.{number_some}
use Rattle.question.specs.Question.{ask as ask_question, number_of as question_number, number_told}
use Rattle.question.specs.declared.Question.{Question}
use Rattle.whole.specs.computed.Ask.{ask}
use Rattle.book.specs.Book.{Reply}
use Rattle.demands.specs.Asked.{Questions, none, question, and_then, FirstNo, AllYes, AsAsked}

-- 0 says that every question has a yes, another number that its question is the first with a no
abbrev pub Tells : Questions → ℕ → Type 0
Tells qs zero = AllYes qs
Tells qs (suc n) = FirstNo qs (suc n)

pub record Verdict (qs : Questions) (n : ℕ) : Type 0 where
  pub told : Tells qs n

onward : (holds : Type 0) (qs : Questions) (number n : ℕ) → holds → Tells qs n → Tells (question number holds qs) n
onward holds qs number zero y v = (y, v)
onward holds qs number (suc n) y v = inr (y, v)

-- one question, by its test, and then the others
pub asked : {holds : Type 0} {qs : Questions} {next : ℕ} (test : Bool) (number : ℕ) → (test ≡ true) ↔ holds → (holds → Verdict qs next)
    → Verdict (question (suc number) holds qs) (ask test next (suc number))
asked {holds} {qs} {next} true number is later = let y = is.0 refl in record { told = onward holds qs (suc number) next y (later y).told }
asked false number is later = record { told = inl (refl, λ y. false≢true (is.1 y)) }

-- the same of a question that a refusal names
pub questioned : {holds : Type 0} {qs : Questions} (test : Bool) (q : Question) (next : Result ⊤ Question) → (test ≡ true) ↔ holds
    → (holds → Verdict qs (number_told next)) → Verdict (question (question_number q) holds qs) (number_told (ask_question test next q))
questioned {holds} {qs} true q next is later = let y = is.0 refl
    in record { told = onward holds qs (question_number q) (number_told next) y (later y).told }
questioned {holds} {qs} false q next is later =
    record { told = by (question_number q) (number_some q) }
  where
    by : (n : ℕ) → (n ≡ 0 → ⊥) → Tells (question n holds qs) n
    by zero some = absurd (some refl)
    by (suc n) some = inl (refl, λ y. false≢true (is.1 y))

pub none_asked : Verdict none 0
none_asked = record { told = tt }

-- ---- these questions, and then those

abbrev pub or_else : ℕ → ℕ → ℕ
or_else zero k = k
or_else (suc n) k = suc n

after_all : (qs rs : Questions) (k : ℕ) → AllYes qs → Tells rs k → Tells (and_then qs rs) k
after_all none rs k a v = v
after_all (question number holds qs) rs k a v = onward holds (and_then qs rs) number k a.0 (after_all qs rs k a.1 v)

at_first : (qs rs : Questions) (n : ℕ) → FirstNo qs n → FirstNo (and_then qs rs) n
at_first none rs n f = absurd f
at_first (question number holds qs) rs n (inl f) = inl f
at_first (question number holds qs) rs n (inr f) = inr (f.0, at_first qs rs n f.1)

pub then_asked : {qs rs : Questions} {n k : ℕ} → Verdict qs n → Verdict rs k → Verdict (and_then qs rs) (or_else n k)
then_asked {qs} {rs} {n = zero} {k} v w = record { told = after_all qs rs k v.told w.told }
then_asked {qs} {rs} {n = suc n} v w = record { told = at_first qs rs (suc n) v.told }

-- ---- there is one verdict

pub first_once : (qs : Questions) (n k : ℕ) → FirstNo qs n → FirstNo qs k → n ≡ k
first_once none n k f g = absurd f
first_once (question number holds qs) n k (inl f) (inl g) = f.0 ∙ sym g.0
first_once (question number holds qs) n k (inl f) (inr g) = absurd (f.1 g.0)
first_once (question number holds qs) n k (inr f) (inl g) = absurd (g.1 f.0)
first_once (question number holds qs) n k (inr f) (inr g) = first_once qs n k f.1 g.1

pub not_both : (qs : Questions) (n : ℕ) → AllYes qs → FirstNo qs n → ⊥
not_both none n a f = f
not_both (question number holds qs) n a (inl f) = f.1 a.0
not_both (question number holds qs) n a (inr f) = not_both qs n a.1 f.1

-- a number that is 0 exactly where every question has a yes
pub passed : {qs : Questions} {n : ℕ} → Verdict qs n → (n ≡ 0) ↔ AllYes qs
passed {qs} {n = zero} v = (λ e. v.told, λ a. refl)
passed {qs} {n = suc n} v = (λ e. absurd (omega arith), λ a. absurd (not_both qs (suc n) a v.told))

-- ---- the answer by the number

abbrev pub is_refused : Reply → Bool
is_refused (Reply.refused n) = true
is_refused (Reply.done) = false
is_refused (Reply.width n) = false
is_refused (Reply.byte n) = false
is_refused (Reply.ran r n bs) = false

abbrev pub number_of : Reply → ℕ
number_of (Reply.refused n) = n
number_of (Reply.done) = 0
number_of (Reply.width n) = 0
number_of (Reply.byte n) = 0
number_of (Reply.ran r n bs) = 0

abbrev pub Says : ℕ → Reply → Type 0
Says zero r = is_refused r ≡ false
Says (suc n) r = r ≡ Reply.refused (suc n)

pub says_some : (n : ℕ) → (n ≡ 0 → ⊥) → Says n (Reply.refused n)
says_some zero some = absurd (some refl)
says_some (suc n) some = refl

pub judged : {qs : Questions} {reply : Reply} {Kept : Type 0} (n : ℕ) → Verdict qs n → Says n reply → ((n ≡ 0 → ⊥) → Kept)
    → AsAsked qs reply Kept
judged {qs} {reply} zero v s stays =
    let never : (k : ℕ) → reply ≡ Reply.refused k → ⊥ = λ k e. false≢true (sym s ∙ ap is_refused e) in
    record {
      cause = λ k. (λ e. absurd (never k e), λ f. absurd (not_both qs k v.told f));
      kept = λ k e. absurd (never k e);
      accepted = (λ f. v.told, λ a. never);
    }
judged {qs} {reply} (suc n) v s stays =
    record {
      cause = λ k.
          (λ e. subst (FirstNo qs) (ap number_of (sym s ∙ e)) v.told, λ f. s ∙ ap Reply.refused (first_once qs (suc n) k v.told f));
      kept = λ k e. stays (λ z. omega arith);
      accepted = (λ f. absurd (f (suc n) s), λ a. absurd (not_both qs (suc n) a v.told));
    }
