-- The document's end tick from what has added up: after n working ticks of a block, loaded at remainder r0, cycles with dues of D are done
-- and r is left.
use Rattle.std.specs.Prelude.{◌≡◌, ℕ, suc, ◌+◌, ◌-◌, ◌*◌, ◌≤◌, ◌<◌}
use Rattle.std.proofs.Common.{ap, lt_of_mul-lt-mul_right, le_antisymm, le_of_suc-le-suc, arith}
use Rattle.divider.specs.Divider.{end_tick}
use Rattle.divider.specs.laws.Last.{Reaches, end_tick_lem}

pub reaches_unique : {due a r t s : ℕ} → Reaches due a r t → Reaches due a r s → t ≡ s
reaches_unique {t = t} {s = s} p q = le_antisymm (p.first s q.reached) (q.first t p.reached)

module _ (due a r0 : ℕ) (some : 1 ≤ a) where
  ends : Reaches due a r0 (end_tick due a r0)
  ends = end_tick_lem due a r0 some

  -- before the last cycle fewer ticks than the end tick: `next` is the due of the next cycle
  pub fewer : (n D r next : ℕ) → D + r ≡ r0 + n * a → r < next → D + next ≤ due → n < end_tick due a r0
  fewer n D r next e below left = lt_of_mul-lt-mul_right a (omega (arith, ends.reached))

  -- with the last cycle, at less than one tick's sum beyond it, the end tick
  pub exactly : (n r : ℕ) → due + r ≡ r0 + n * a → r < a → n ≡ end_tick due a r0
  exactly n r e early =
      let here : Reaches due a r0 n = record {
        reached = omega arith;
        first = λ s h. le_of_suc-le-suc (lt_of_mul-lt-mul_right a {m = n} {n = suc s} (omega arith));
      } in
      reaches_unique here ends

  -- the ticks to the end, from there on
  pub rest : (n D r next left : ℕ) → D + r ≡ r0 + n * a → r < next → next ≤ left → D + left ≡ due
      → n + end_tick left a r ≡ end_tick due a r0
  rest n D r next left e below more all =
      let t = end_tick_lem left a r some in
      let there : Reaches due a r0 (n + end_tick left a r) = record {
        reached = omega (arith, t.reached);
        first = λ u h. first t u (u - n) (omega (arith, fewer n D r next e below (omega arith), ends.first u h)) h;
      } in
      reaches_unique there ends
    where
      first : Reaches left a r (end_tick left a r) → (u v : ℕ) → n + v ≡ u → due ≤ r0 + u * a → n + end_tick left a r ≤ u
      first t u v split h = omega (arith, t.first v (omega (arith, ap (λ (c : ℕ). c * a) split)))
