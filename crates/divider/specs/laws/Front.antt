-- So many ticks, with the first of them taken off: what is left are the ticks after it, of the same cycles or of those after the first.
use Rattle.std.specs.Prelude.{◌≡◌}
use Rattle.std.proofs.Common.{ap}
use Prim.Native.Nat.{ℕ, zero, suc, ◌+◌, ◌-◌, ◌*◌, ◌≤◌, ◌<◌}
use Rattle.std.proofs.Math.Decide.{dec_le}
use native.Mathlib.Omega.{arith}
use Rattle.divider.specs.declared.Gone.{Gone}
use Rattle.divider.specs.laws.Ticks.{total, Ticked, total_first}

-- the dues of the cycles after the first
pub total_front : (d e : ℕ → ℕ) → ((c : ℕ) → e c ≡ d (suc c)) → (c : ℕ) → total d (suc c) ≡ d 0 + total e c
unfolding total
total_front d e later zero = omega arith
total_front d e later (suc c) = omega (arith, total_front d e later c, later c)

module _ (d : ℕ → ℕ) (a : ℕ) (some : 1 ≤ a) (each : (c : ℕ) → a ≤ d c) where
  -- no tick
  pub ticked_none : {r : ℕ} {s : Gone} → Ticked d a some each r 0 s → (s.cycles ≡ 0) × (s.remainder ≡ r)
  unfolding total
  ticked_none {r} {s} i = by s.cycles i.most i.adds_up
    where
      by : (c : ℕ) → c ≤ 0 → total d c + s.remainder ≡ r + 0 * a → (c ≡ 0) × (s.remainder ≡ r)
      by zero m e = omega arith
      by (suc c) m e = absurd (omega arith)

  -- the first tick does no cycle
  pub ticked_idle : {r t : ℕ} {s : Gone} → Ticked d a some each r (suc t) s → r + a < d 0 → Ticked d a some each (r + a) t s
  ticked_idle {r} {t} {s} i low =
      record {
        most = fewer s.cycles i.most i.adds_up;
        adds_up = omega (arith, i.adds_up);
        below = λ h. i.below (omega arith);
      }
    where
      fewer : (c : ℕ) → c ≤ suc t → total d c + s.remainder ≡ r + suc t * a → c ≤ t
      fewer zero m e = omega arith
      fewer (suc c) m e = by (dec_le (suc c) t)
        where
          by : Dec (suc c ≤ t) → suc c ≤ t
          by (yes h) = h
          by (no f) = let same : c ≡ t = omega arith in absurd (omega (arith, total_first d a some each c, ap (λ (n : ℕ). n * a) same))

  -- the first tick does a cycle and leaves `now`
  module _ (e : ℕ → ℕ) (each' : (c : ℕ) → a ≤ e c) (later : (c : ℕ) → e c ≡ d (suc c)) where
    pub ticked_cycle : {r t now : ℕ} {s : Gone} → Ticked d a some each r (suc t) s → d 0 + now ≡ r + a
        → (1 ≤ s.cycles) × Ticked e a some each' now t (record { cycles = s.cycles - 1; remainder = s.remainder })
    unfolding total
    ticked_cycle {r} {t} {now} {s} i fed = by s.cycles i.most i.adds_up i.below
      where
        by : (c : ℕ) → c ≤ suc t → total d c + s.remainder ≡ r + suc t * a → (c < suc t → s.remainder < d c)
            → (1 ≤ c) × Ticked e a some each' now t (record { cycles = c - 1; remainder = s.remainder })
        by zero m all low = absurd (omega (arith, low (omega arith)))
        by (suc c) m all low =
            let one : suc c - 1 ≡ c = omega arith in (
              omega arith,
              rw one
                  (record {
                    most = omega arith;
                    adds_up = omega (arith, total_front d e later c);
                    below = λ h. omega (arith, low (omega arith), later c);
                  }),
            )
