-- The unit does not show: with due, feed and remainder all times u, a tick does a cycle just when it did, and a block ends on the same
-- tick. Only the remainder counts u times as much. 02 §4 rests on this one law of the divider.
use Rattle.std.specs.Prelude.{◌≡◌, refl, Bool, true, false, cond, leb}
use Rattle.std.proofs.Math.Path.{sym, ap}
use Rattle.std.proofs.Common.{◌∙◌, le_of_suc-le-suc, leb-true, leb-false, le-leb}
use Prim.Native.Nat.{ℕ, zero, suc, ◌+◌, ◌-◌, ◌*◌, ◌/◌, ◌≤◌, ◌<◌}
use Rattle.std.proofs.Math.Nat.{div-zero, mul-le-mul_left, lt_of_mul-lt-mul_left}
use native.Mathlib.Omega.{arith}
use Rattle.std.proofs.lemmas.Bool.{lt-leb}
use Rattle.divider.specs.declared.Fed.{Fed}
use Rattle.divider.specs.Divider.{fed_of, end_tick}
use Rattle.divider.specs.laws.Last.{Reaches, end_tick_lem}
use Rattle.divider.specs.laws.AddUp.{reaches_unique}

-- the tick, its remainder u times as much
abbrev pub times_fed : (u : ℕ) → Fed → Fed
times_fed u f = record { remainder = u * f.remainder; cycle = f.cycle }

-- a difference, both sides times u
pub times_minus : (u a b : ℕ) → u * a - u * b ≡ u * (a - b)
times_minus u a b = by (leb b a) refl
  where
    by : (t : Bool) → leb b a ≡ t → u * a - u * b ≡ u * (a - b)
    by true e =
        let over = leb-true b a e in
        let back : a - b + b ≡ a = omega arith in
        omega (arith, ap (λ (n : ℕ). u * n) back)
    by false e =
        let under = leb-false b a e in
        let less : a ≤ b = omega arith in
        let nil : a - b ≡ 0 = omega arith in
        omega (arith, mul-le-mul_left u less, ap (λ (n : ℕ). u * n) nil)

module _ (u : ℕ) (some : 1 ≤ u) where
  times_lt : (a b : ℕ) → a < b → u * a < u * b
  times_lt a b h = omega (arith, mul-le-mul_left u h)

  le_times : (a b : ℕ) → u * a ≤ u * b → a ≤ b
  le_times a b h = le_of_suc-le-suc (lt_of_mul-lt-mul_left u {m = a} {n = suc b} (omega arith))

  -- a test of two numbers, both times u
  pub leb_times : (a b : ℕ) → leb (u * a) (u * b) ≡ leb a b
  leb_times a b = by (leb a b) refl
    where
      by : (t : Bool) → leb a b ≡ t → leb (u * a) (u * b) ≡ t
      by true e = le-leb (u * a) (u * b) (mul-le-mul_left u (leb-true a b e))
      by false e = lt-leb (u * a) (u * b) (times_lt b a (leb-false a b e))

  pub one_times : (f : ℕ) → leb 1 (u * f) ≡ leb 1 f
  one_times f = by (leb 1 f) refl
    where
      by : (t : Bool) → leb 1 f ≡ t → leb 1 (u * f) ≡ t
      by true e = le-leb 1 (u * f) (omega (arith, mul-le-mul_left u (leb-true 1 f e)))
      by false e =
          let below = leb-false 1 f e in
          let nil : f ≡ 0 = omega arith in
          lt-leb 1 (u * f) (omega (arith, ap (λ (n : ℕ). u * n) nil))

  pub fed_times : (due a r : ℕ) → fed_of (u * due) (u * a) (u * r) ≡ times_fed u (fed_of due a r)
  fed_times due a r =
      let sum : u * r + u * a ≡ u * (r + a) = omega arith in
      rw (sum, leb_times due (r + a), times_minus u (r + a) due) (by (leb due (r + a)))
    where
      by : (t : Bool)
          → cond t (record { remainder = u * (r + a - due); cycle = true }) (record { remainder = u * (r + a); cycle = false })
          ≡ times_fed u (cond t (record { remainder = r + a - due; cycle = true }) (record { remainder = r + a; cycle = false }))
      by true = refl
      by false = refl

  reaches_times : {due a r t : ℕ} → Reaches due a r t → Reaches (u * due) (u * a) (u * r) t
  reaches_times {due} {a} {r} {t} e =
      record {
        reached = omega (arith, mul-le-mul_left u e.reached);
        first = λ s h. e.first s (le_times due (r + s * a) (omega arith));
      }

  -- and so does a block whose feed is 0, which no question lets through
  pub end_times : (due a r : ℕ) → end_tick (u * due) (u * a) (u * r) ≡ end_tick due a r
  unfolding end_tick
  end_times due zero r = ap (λ (n : ℕ). (u * due - u * r + (n - 1)) / n) none ∙ div-zero _ ∙ sym (div-zero (due - r + 0))
    where
      none : u * 0 ≡ 0
      none = omega arith
  end_times due (suc a) r =
      let feeds : 1 ≤ suc a = omega arith in
      reaches_unique (end_tick_lem (u * due) (u * suc a) (u * r) (omega (arith, mul-le-mul_left u feeds)))
      (reaches_times (end_tick_lem due (suc a) r feeds))
