-- A digit more, the loop over the digits, and that the job begins within the text.
use Rattle.std.specs.Prelude.{◌≡◌, Bool, true, false, cond, List, [], ◌∷◌, ℕ, suc, ◌+◌, ◌-◌, ◌*◌, ◌/◌, ◌^◌, ◌≤◌, ◌<◌, eqb, length, drop}
use Rattle.std.specs.Prelude.{get_or, None, Some, ◌⊎◌}
use Rattle.std.proofs.Common.{inl, inr, sym, subst, ◌∙◌, arith, drop_of_length-le, drop-cons}
use Rattle.std.proofs.Math.Path.{ap}
use borrow.Author.Tests.{lt-leb, le-leb, lt-ltb, le-ltb, eq-eqb, ne_eqb}
use Rattle.std.specs.declared.option.Option.{Option}
use Rattle.jobwhere.specs.computed.Asked.{digit_pushed, if_pushed, asked_from, ticks_asked}

module _ (n b : ℕ) where
  pub push_other : (b < 48) ⊎ (57 < b) → None ≡ digit_pushed n b
  unfolding digit_pushed
  push_other (inl low) = rw (lt-leb 48 b low)
  push_other (inr high) = rw (le-leb 48 b (omega arith), lt-leb b 57 high)

  module _ (low : 48 ≤ b) (high : b ≤ 57) where
    pub push_large : (9223372036854775807 - (b - 48)) / 10 < n → None ≡ digit_pushed n b
    unfolding digit_pushed
    push_large large = rw (le-leb 48 b low, le-leb b 57 high, le-ltb (n * 10 + (b - 48)) (2 ^ 63) (omega arith))

    pub push_digit : n ≤ (9223372036854775807 - (b - 48)) / 10 → Some (n * 10 + (b - 48)) ≡ digit_pushed n b
    unfolding digit_pushed
    push_digit small = rw (le-leb 48 b low, le-leb b 57 high, lt-ltb (n * 10 + (b - 48)) (2 ^ 63) (omega arith))

-- the bytes before `at` are digits, which write n
pub record Asking (text : List ℕ) (n at : ℕ) : Type 0 where
  pub rest : asked_from n at (drop at text) ≡ ticks_asked text
  pub few : at ≤ 19

module _ {text : List ℕ} {n at : ℕ} (g : Asking text n at) where
  pub ask_end : length text ≤ at → None ≡ ticks_asked text
  unfolding asked_from
  ask_end end = rw (drop_of_length-le text end) at g.rest

  module _ (more : at < length text) where
    abbrev b : ℕ
    b = get_or text at 0

    cut : asked_from n at (b ∷ drop (suc at) text) ≡ ticks_asked text
    cut = ap (asked_from n at) (sym (drop-cons text at 0 more)) ∙ g.rest

    pub ask_empty : b ≡ 10 → at ≡ 0 → None ≡ ticks_asked text
    unfolding asked_from
    ask_empty lf none = rw (eq-eqb b 10 lf, eq-eqb at 0 none) at cut

    pub ask_ticks : b ≡ 10 → (at ≡ 0 → ⊥) → Some (n, at + 1) ≡ ticks_asked text
    unfolding asked_from
    ask_ticks lf some = rw (eq-eqb b 10 lf, ne_eqb at 0 some) at cut

    module _ (other : b ≡ 10 → ⊥) where
      pub ask_many : at ≡ 19 → None ≡ ticks_asked text
      unfolding asked_from
      ask_many most = rw (ne_eqb b 10 other, eq-eqb at 19 most) at cut

      module _ (few : at ≡ 19 → ⊥) {p : Option ℕ} (pushed : p ≡ digit_pushed n b) where
        abbrev after : Option ℕ → Option (ℕ × ℕ)
        after q = if_pushed q (λ k. asked_from k (at + 1) (drop (suc at) text))

        digit : after p ≡ ticks_asked text
        unfolding asked_from
        digit = ap after pushed ∙ rw (ne_eqb b 10 other, ne_eqb at 19 few) at cut

        pub ask_other : p ≡ None → None ≡ ticks_asked text
        ask_other is = sym (ap after is) ∙ digit

        pub ask_on : {k : ℕ} → p ≡ Some k → Asking text k (at + 1)
        ask_on {k} is =
            let next : at + 1 ≡ suc at = omega arith in
            record {
              rest = ap (λ (j : ℕ). asked_from k (at + 1) (drop j text)) next ∙ sym (ap after is) ∙ digit;
              few = omega (arith, g.few, few);
            }

-- ---- the job begins within the text

abbrev pub NumberWithin : (size : ℕ) → Option (ℕ × ℕ) → Type 0
NumberWithin size None = Unit {0}
NumberWithin size (Some (n, at)) = at ≤ size

pub asked_within : (s : List ℕ) (n digits : ℕ) → NumberWithin (digits + length s) (asked_from n digits s)
unfolding asked_from
asked_within [] n digits = tt
asked_within (b ∷ s) n digits = by (eqb b 10) (eqb digits 0) (eqb digits 19) (digit_pushed n b) (λ k. asked_within s k (digits + 1))
  where
    by : (lf none most : Bool) (p : Option ℕ) → ((k : ℕ) → NumberWithin (digits + 1 + length s) (asked_from k (digits + 1) s))
        → NumberWithin (digits + length (b ∷ s))
        (cond lf (cond none None (Some (n, digits + 1)))
        (cond most None (if_pushed p (λ k. asked_from k (digits + 1) s))))
    by true true most p later = tt
    by true false most p later = omega arith
    by false none true p later = tt
    by false none false None later = tt
    by false none false (Some k) later =
        let size : digits + 1 + length s ≡ digits + length (b ∷ s) = omega arith in
        subst (λ (m : ℕ). NumberWithin m (asked_from k (digits + 1) s)) size (later k)

pub begins : (text : List ℕ) → NumberWithin (length text) (ticks_asked text)
begins text =
    let size : 0 + length text ≡ length text = omega arith in
    subst (λ (m : ℕ). NumberWithin m (ticks_asked text)) size (asked_within text 0 0)
