-- Cycles of different dues: what was done adds up, and the cycles done are the most that the sum pays for, at most one a tick.
use Rattle.std.specs.Prelude.{◌≡◌, refl, Bool, leb}
use Rattle.std.proofs.Common.{ap₂, le_antisymm, leb-true, leb-false}
use Rattle.std.proofs.Math.Bool.{true, false, cond}
use Prim.Native.Nat.{ℕ, zero, suc, ◌+◌, ◌-◌, ◌*◌, ◌≤◌, ◌<◌}
use Rattle.std.proofs.Math.Decide.{dec_le}
use native.Mathlib.Omega.{arith}
use Rattle.divider.specs.declared.Fed.{Fed}
use Rattle.divider.specs.declared.Gone.{Gone}
use Rattle.divider.specs.Divider.{fed_of}
use Rattle.divider.specs.computed.Divider.{gone_by, gone_of}

-- ---- one tick, for any remainder

pub data Tick (due a r : ℕ) : Fed → Type 0 where
  does_one : {rest : ℕ} → due + rest ≡ r + a → Tick due a r (record { remainder = rest; cycle = true })
  does_none : {rest : ℕ} → rest < due → rest ≡ r + a → Tick due a r (record { remainder = rest; cycle = false })

pub tick : (due a r : ℕ) → Tick due a r (fed_of due a r)
tick due a r = by (leb due (r + a)) refl
  where
    by : (b : Bool) → leb due (r + a) ≡ b
        → Tick due a r (cond b (record { remainder = r + a - due; cycle = true }) (record { remainder = r + a; cycle = false }))
    by true e = does_one {rest = r + a - due} (omega (arith, leb-true due (r + a) e))
    by false e = does_none (leb-false due (r + a) e) refl

-- a sound remainder stays sound: M is 1,414 × q0
pub stays_below : {due a r : ℕ} {f : Fed} (M : ℕ) → a ≤ due → due ≤ M → r < M → Tick due a r f → f.remainder < M
stays_below M l m h (does_one e) = omega arith
stays_below M l m h (does_none s e) = omega arith

-- ---- the dues of the first cycles

unfoldable pub total : (dues : ℕ → ℕ) (c : ℕ) → ℕ
total d zero = 0
total d (suc c) = total d c + d c

module _ (d : ℕ → ℕ) (a : ℕ) (some : 1 ≤ a) (each : (c : ℕ) → a ≤ d c) where
  pub total_more : (c n : ℕ) → total d c + n * a ≤ total d (c + n)
  unfolding total
  total_more c zero = let z : c + 0 ≡ c = omega arith in rw z (omega arith)
  total_more c (suc n) = let z : c + suc n ≡ suc (c + n) = omega arith in rw z (omega (arith, total_more c n, each (c + n)))

  pub total_le : (c k : ℕ) → c ≤ k → total d c ≤ total d k
  total_le c k h = let z : c + (k - c) ≡ k = omega arith in rw z at (by (k - c))
    where
      by : (n : ℕ) → total d c ≤ total d (c + n)
      by n = omega (arith, total_more c n)

  -- the first due, and a tick's sum at least for each later one
  pub total_first : (k : ℕ) → d 0 + k * a ≤ total d (suc k)
  unfolding total
  total_first zero = omega arith
  total_first (suc k) = omega (arith, total_first k, each (suc k))

  -- ---- so many ticks

  -- c is the least of the ticks and of the most cycles whose dues the sum holds
  pub record Counts (r t c : ℕ) : Type 0 where
    pub most : c ≤ t
    pub paid : total d c ≤ r + t * a
    pub no_more : c < t → r + t * a < total d (suc c)

  -- no other number is
  pub counts_unique : {r t c k : ℕ} → Counts r t c → Counts r t k → c ≡ k
  counts_unique {r} {t} {c} {k} x y = le_antisymm (at_most x y) (at_most y x)
    where
      at_most : {c k : ℕ} → Counts r t c → Counts r t k → c ≤ k
      at_most {c} {k} x y = by (dec_le c k)
        where
          by : Dec (c ≤ k) → c ≤ k
          by (yes h) = h
          by (no f) =
              let g : suc k ≤ c = omega arith in
              absurd (omega (arith, x.most, x.paid, y.no_more (omega (arith, x.most)), total_le (suc k) c g))

  -- the cycles are enough for k where the ticks and the sum are
  pub counts_by : {r t c : ℕ} (k : ℕ) → Counts r t c → k ≤ t → total d k ≤ r + t * a → k ≤ c
  counts_by {r} {t} {c} k x h p = by (dec_le k c)
    where
      by : Dec (k ≤ c) → k ≤ c
      by (yes g) = g
      by (no f) = let g : suc c ≤ k = omega arith in absurd (omega (arith, x.no_more (omega arith), total_le (suc c) k g))

  pub record Ticked (r t : ℕ) (s : Gone) : Type 0 where
    pub most : s.cycles ≤ t
    pub adds_up : total d s.cycles + s.remainder ≡ r + t * a
    pub below : s.cycles < t → s.remainder < d s.cycles

  ticked_on : {r t : ℕ} (s : Gone) {f : Fed} → Ticked r t s → Tick (d s.cycles) a s.remainder f
      → Ticked r (suc t) (gone_by s.cycles f)
  unfolding total
  ticked_on s i (does_one {rest} e) = record {
    most = omega (arith, i.most);
    adds_up = omega (arith, i.adds_up);
    below = λ h. omega (arith, i.below (omega arith), each (suc s.cycles));
  }
  ticked_on s i (does_none l e) = record {
    most = omega (arith, i.most);
    adds_up = omega (arith, i.adds_up);
    below = λ h. l;
  }

  pub ticked : (r t : ℕ) → Ticked r t (gone_of d a r t)
  unfolding gone_of total
  ticked r zero = record { most = omega arith; adds_up = omega arith; below = λ h. absurd (omega arith) }
  ticked r (suc t) = let s = gone_of d a r t in ticked_on s (ticked r t) (tick (d s.cycles) a s.remainder)

  pub counts : (r t : ℕ) → Counts r t (gone_of d a r t).cycles
  unfolding total
  counts r t =
      let i = ticked r t in
      record { most = i.most; paid = omega (arith, i.adds_up); no_more = λ h. omega (arith, i.adds_up, i.below h) }

  -- and the remainder is what they leave of the sum
  pub gone_is : (r t : ℕ) {c : ℕ} → Counts r t c → gone_of d a r t ≡ record { cycles = c; remainder = r + t * a - total d c }
  gone_is r t {c} x =
      let i = ticked r t in
      let same : (gone_of d a r t).cycles ≡ c = counts_unique (counts r t) x in
      let rest : (gone_of d a r t).remainder ≡ r + t * a - total d c = omega (arith, rw same at i.adds_up) in
      ap₂ (λ (n m : ℕ). record { cycles = n; remainder = m }) same rest

  -- one tick does one cycle at most
  pub one_more_lem : (r t : ℕ) → (gone_of d a r (suc t)).cycles ≤ suc (gone_of d a r t).cycles
  unfolding gone_of
  one_more_lem r t = let s = gone_of d a r t in by s.cycles (fed_of (d s.cycles) a s.remainder).cycle
    where
      by : (c : ℕ) (b : Bool) → cond b (suc c) c ≤ suc c
      by c true = omega arith
      by c false = omega arith
