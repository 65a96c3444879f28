-- The cycles that are left to the block's end, and the ticks that they take: the bytes to write are known before the first.
use Rattle.std.specs.Prelude.{◌≡◌, ℕ, zero, suc, ◌+◌, ◌-◌, ◌*◌, ◌≤◌, ◌<◌, min}
use Rattle.std.proofs.Common.{mul-le-mul_right, arith}
use Rattle.divider.specs.computed.Divider.{last_tick}
use Rattle.divider.specs.laws.Last.{EndsAt, unique, last_tick_lem, end_one, end_more}
use Rattle.run.specs.declared.gap.Gap.{Gap}
use Rattle.run.specs.laws.Gap.{DueGap}

-- of a run of at most `most` ticks that writes n bytes, `done` are done and k cycles are left, whose dues add up to `due`: they end `end`
-- ticks on, before the tick `last` none ends the block, and where n is one more its last tick does
pub record Left (a most last n done due k r : ℕ) : Type 0 where
  pub end : ℕ
  pub ends : EndsAt due a r k end
  pub here : done ≤ last
  pub short : n ≤ most
  pub low : last ≤ n
  pub is_last : last ≡ min most (done + end - 1)
  pub is_n : n ≡ min most (done + end)

pub left_start : (a most due r k : ℕ) → 1 ≤ a → 1 ≤ k
    → Left a most (min most (last_tick due a r k - 1)) (min most (last_tick due a r k)) 0 due k r
left_start a most due r k some cycles = by (last_tick due a r k) (last_tick_lem due a r k some)
  where
    by : (t : ℕ) → EndsAt due a r k t → Left a most (min most (t - 1)) (min most t) 0 due k r
    by t e =
        record { end = t; ends = e; here = omega arith; short = omega arith; low = omega arith; is_last = omega arith; is_n = omega arith }

-- the next cycle has the due d, and the k after it add up to D
module _ {a most last n done d D k r : ℕ} {g : Gap} (some : 1 ≤ a) (x : DueGap d a r g) (each : k * a ≤ D) (none : k ≡ 0 → D ≡ 0)
    (l : Left a most last n done (d + D) (suc k) r) where
  one : k ≡ 0 → l.end ≡ g.ticks + 1
  one z =
      let e = l.ends in
      let alone : EndsAt d a r 1 l.end = record {
        enough = omega (arith, e.enough);
        reached = omega (arith, e.reached, none z);
        first = λ s h j. e.first s (omega arith) (omega (arith, none z));
      } in
      unique alone (end_one x)

  more : l.end ≡ g.ticks + 1 + last_tick D a g.remainder k
  more = unique l.ends (end_more x each (last_tick_lem D a g.remainder k some))

  -- a cycle before the tick `last` leaves one at least
  module _ (h : done + g.ticks < last) where
    pub left_some : 1 ≤ k
    left_some = by k one
      where
        by : (k : ℕ) → (k ≡ 0 → l.end ≡ g.ticks + 1) → 1 ≤ k
        by zero o = absurd (omega (arith, o (omega arith), l.is_last))
        by (suc k) o = omega arith

    pub left_turn : Left a most last n (done + g.ticks + 1) D k g.remainder
    left_turn = record {
      end = last_tick D a g.remainder k;
      ends = last_tick_lem D a g.remainder k some;
      here = omega arith;
      short = l.short;
      low = l.low;
      is_last = omega (arith, l.is_last, more);
      is_n = omega (arith, l.is_n, more);
    }

  -- with none before it the n ticks are all that was asked ..
  pub left_out : n ≤ last → last ≤ done + g.ticks → (n ≡ most) × (1 ≤ n - done → r + (n - done) * a < d)
  left_out m h =
      (omega (arith, l.is_n, l.is_last, l.ends.enough), λ j. omega (arith, x.before (omega (arith, ahead)), mul-le-mul_right a ahead))
    where
      ahead : n - done ≤ g.ticks
      ahead = omega (arith, l.low)

  -- .. or it is the one that ends the block
  pub left_end : last < n → last ≤ done + g.ticks → (done + g.ticks ≡ last) × (done + g.ticks + 1 ≡ n) × (k ≡ 0)
  left_end m h =
      let t = (last_tick_lem D a g.remainder k some).enough in
      omega (arith, l.is_n, l.is_last, l.ends.enough, more, t)
