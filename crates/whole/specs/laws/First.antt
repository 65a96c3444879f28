-- What the first number that passes a test is: it passes, and every number that passes is at least as large.
use Rattle.std.specs.Prelude.{◌≡◌, refl, Bool, true, false, cond, ℕ, zero, suc, ◌+◌, ◌≤◌, ◌<◌, T}
use Rattle.std.proofs.Common.{sym, subst, le_antisymm, add-zero, eq-or-lt_of_le, arith, ⊎_elim}
use Rattle.whole.specs.First.{first_from}

pub record Least (test : ℕ → Bool) (r : ℕ) : Type 0 where
  pub passes : T (test r)
  pub least : (k : ℕ) → T (test k) → r ≤ k

pub unique : {test : ℕ → Bool} {r s : ℕ} → Least test r → Least test s → r ≡ s
unique {r = r} {s = s} p q = le_antisymm (p.least s q.passes) (q.least r p.passes)

-- the tries suffice where the last number tried passes
pub first_least : (test : ℕ → Bool) (tries k : ℕ) → T (test (k + tries)) → ((j : ℕ) → T (test j) → k ≤ j)
    → Least test (first_from test tries k)
unfolding first_from
first_least test zero k h below = record { passes = subst (λ (n : ℕ). T (test n)) (add-zero k) h; least = below }
first_least test (suc tries) k h below =
    by (test k) refl (λ above. first_least test tries (suc k) (subst (λ (n : ℕ). T (test n)) (omega arith) h) above)
  where
    by : (b : Bool) → test k ≡ b → (((j : ℕ) → T (test j) → suc k ≤ j) → Least test (first_from test tries (suc k)))
        → Least test (cond b k (first_from test tries (suc k)))
    by true e later = record { passes = subst T (sym e) tt; least = below }
    by false e later = later (λ j t. ⊎_elim (λ (q : k ≡ j). absurd (subst T e (subst (λ (n : ℕ). T (test n)) (sym q) t)))
        (λ (l : k < j). l) (eq-or-lt_of_le (below j t)))
