-- The tick on which a block of cycles of different dues ends: for any remainder, from gap to gap, and in a history.
use Rattle.std.specs.Prelude.{◌≡◌, ℕ, zero, suc, ◌+◌, ◌-◌, ◌*◌, ◌≤◌, ◌<◌, max}
use Rattle.std.proofs.Common.{ap, div-lt_iff_lt-mul, lt_of_mul-lt-mul_right, lt_of_not-le, not-le_of_lt, lt-suc_self, le_antisymm}
use Rattle.std.proofs.Common.{le_of_suc-le-suc, mul-le-mul_right, arith}
use Rattle.std.proofs.Math.Nat.{lt-div-mul-add}
use Rattle.std.proofs.Math.Decide.{dec_le}
use Rattle.divider.specs.computed.Divider.{gone_of, last_tick}
use Rattle.divider.specs.Divider.{end_tick}
use Rattle.divider.specs.laws.Ticks.{total, counts, counts_by, total_le, total_first, one_more_lem}

-- ---- without division

-- the first tick by which the sum reaches the dues
pub record Reaches (due a r t : ℕ) : Type 0 where
  pub reached : due ≤ r + t * a
  pub first : (s : ℕ) → due ≤ r + s * a → t ≤ s

pub end_tick_lem : (due a r : ℕ) → 1 ≤ a → Reaches due a r (end_tick due a r)
unfolding end_tick
end_tick_lem due a r some = record {
  reached = omega (arith, lt-div-mul-add {a = due - r + (a - 1)} some);
  first = λ s h. le_of_suc-le-suc ((div-lt_iff_lt-mul some).1 (omega arith));
}

-- the first tick by which there were as many ticks as cycles and the sum reaches their dues
pub record EndsAt (due a r k t : ℕ) : Type 0 where
  pub enough : k ≤ t
  pub reached : due ≤ r + t * a
  pub first : (s : ℕ) → k ≤ s → due ≤ r + s * a → t ≤ s

pub unique : {due a r k t s : ℕ} → EndsAt due a r k t → EndsAt due a r k s → t ≡ s
unique {t = t} {s = s} p q = le_antisymm (p.first s q.enough q.reached) (q.first t p.enough p.reached)

pub last_tick_lem : (due a r k : ℕ) → 1 ≤ a → EndsAt due a r k (last_tick due a r k)
unfolding last_tick
last_tick_lem due a r k some = by (end_tick due a r) (end_tick_lem due a r some)
  where
    by : (t : ℕ) → Reaches due a r t → EndsAt due a r k (max k t)
    by t b =
        let more : t ≤ max k t = omega arith in
        record {
          enough = omega arith;
          reached = omega (arith, b.reached, mul-le-mul_right a more);
          first = λ s h g. omega (arith, b.first s g);
        }

-- a sum that is there already takes no tick, and the cycles alone count
pub last_paid : (due a r k : ℕ) → 1 ≤ a → due ≤ r → last_tick due a r k ≡ k
unfolding last_tick
last_paid due a r k some h = omega (arith, (end_tick_lem due a r some).first 0 (omega arith))

-- the sum on that tick, where the dues are at least what as many ticks add: the numbers of a block's end fit
pub last_most : (due a r k : ℕ) → 1 ≤ a → k * a ≤ due → r + last_tick due a r k * a ≤ due + a + r
last_most due a r k some least = by (last_tick due a r k) (last_tick_lem due a r k some)
  where
    by : (t : ℕ) → EndsAt due a r k t → r + t * a ≤ due + a + r
    by zero e = omega arith
    by (suc t) e = either (dec_le k t) (dec_le due (r + t * a))
      where
        either : Dec (k ≤ t) → Dec (due ≤ r + t * a) → r + suc t * a ≤ due + a + r
        either (yes h) (yes g) = absurd (not-le_of_lt (lt-suc_self t) (e.first t h g))
        either (no f) d = let same : suc t ≤ k = omega arith in omega (arith, mul-le-mul_right a same)
        either (yes h) (no f) = omega arith

-- ---- it is the tick on which the k-th cycle is done

module _ (d : ℕ → ℕ) (a : ℕ) (some : 1 ≤ a) (each : (c : ℕ) → a ≤ d c) (r k : ℕ) (cycles : 1 ≤ k) where
  pub not_before : (t : ℕ) → t < last_tick (total d k) a r k → (gone_of d a r t).cycles < k
  not_before t h = lt_of_not-le (λ g.
      let c = counts d a some each r t in
      let e = last_tick_lem (total d k) a r k some in
      not-le_of_lt h (e.first t (omega (arith, c.most)) (omega (arith, c.paid, total_le d a some each k (gone_of d a r t).cycles g))))

  pub by_then : k ≤ (gone_of d a r (last_tick (total d k) a r k)).cycles
  by_then =
      let t = last_tick (total d k) a r k in
      let e = last_tick_lem (total d k) a r k some in
      counts_by d a some each k (counts d a some each r t) e.enough e.reached

  pub at_end_lem : (gone_of d a r (last_tick (total d k) a r k)).cycles ≡ k
  at_end_lem = by (last_tick (total d k) a r k) (last_tick_lem (total d k) a r k some).enough not_before by_then
    where
      by : (t : ℕ) → k ≤ t → ((s : ℕ) → s < t → (gone_of d a r s).cycles < k) → k ≤ (gone_of d a r t).cycles → (gone_of d a r t).cycles ≡ k
      by zero l b h = absurd (omega arith)
      by (suc t) l b h = le_antisymm (omega (arith, one_more_lem d a some each r t, b t (lt-suc_self t))) h

  -- ---- in a history

  module _ (below : r < d 0) where
    -- the ticks that the sum takes are enough for one cycle each
    pub end_enough : k ≤ end_tick (total d k) a r
    end_enough = by k cycles (end_tick_lem (total d k) a r some)
      where
        by : (k : ℕ) → 1 ≤ k → Reaches (total d k) a r (end_tick (total d k) a r) → k ≤ end_tick (total d k) a r
        by zero l b = omega arith
        by (suc k) l b =
            lt_of_mul-lt-mul_right a {m = k} {n = end_tick (total d (suc k)) a r} (omega (arith, b.reached, total_first d a some each k))

    -- so the block ends on the tick that the document gives
    pub last_is_end : last_tick (total d k) a r k ≡ end_tick (total d k) a r
    unfolding last_tick
    last_is_end = omega (arith, end_enough)

-- ---- from cycle to cycle: g ticks without one, and then the cycle of this due, which leaves the remainder `rest`

pub record Due (due a r g rest : ℕ) : Type 0 where
  pub before : 1 ≤ g → r + g * a < due
  pub leaves : due + rest ≡ r + g * a + a

module _ {due a r g rest : ℕ} (x : Due due a r g rest) where
  -- for the last cycle
  pub end_one : EndsAt due a r 1 (g + 1)
  end_one = record { enough = omega arith; reached = omega (arith, x.leaves); first = by g x.before }
    where
      by : (g : ℕ) → (1 ≤ g → r + g * a < due) → (s : ℕ) → 1 ≤ s → due ≤ r + s * a → g + 1 ≤ s
      by zero b s l h = l
      by (suc g) b s l h = let z : suc g < s = lt_of_mul-lt-mul_right a {m = suc g} {n = s} (omega (arith, b (omega arith))) in omega arith

  -- for one that others follow: their dues are at least what as many ticks add
  pub end_more : {D k t : ℕ} → k * a ≤ D → EndsAt D a rest k t → EndsAt (due + D) a r (suc k) (g + 1 + t)
  end_more {D} {k} {t} most e =
      record {
        enough = omega (arith, e.enough);
        reached = omega (arith, x.leaves, e.reached);
        first = λ s l h. let z = late g x.before s l h in by s (s - (g + 1)) (split s z) z h;
      }
    where
      late : (g : ℕ) → (1 ≤ g → r + g * a < due) → (s : ℕ) → suc k ≤ s → due + D ≤ r + s * a → g + 1 + k ≤ s
      late zero b s l h = omega arith
      late (suc g) b s l h =
          let z : suc g + k < s = lt_of_mul-lt-mul_right a {m = suc g + k} {n = s} (omega (arith, b (omega arith))) in
          omega arith

      split : (s : ℕ) → g + 1 + k ≤ s → s ≡ g + 1 + (s - (g + 1))
      split s l = omega arith

      by : (s v : ℕ) → s ≡ g + 1 + v → g + 1 + k ≤ s → due + D ≤ r + s * a → g + 1 + t ≤ s
      by s v z l h = let all = ap (λ (c : ℕ). c * a) z in omega (arith, e.first v (omega arith) (omega (arith, x.leaves)))
