-- Cycles that all have one due, as a line's: so many ticks by one division, for any remainder.
use Rattle.std.specs.Prelude.{◌≡◌, ℕ, zero, suc, ◌+◌, ◌-◌, ◌*◌, ◌/◌, ◌%◌, ◌≤◌, ◌<◌}
use Rattle.std.proofs.Common.{sym, div-add-mod', mod-lt, mul-le-mul_right, arith}
use Rattle.divider.specs.computed.Divider.{gone_of}
use Rattle.divider.specs.laws.Ticks.{total, Counts, gone_is}

pub total_same : (due c : ℕ) → total (λ _. due) c ≡ c * due
unfolding total
total_same due zero = omega arith
total_same due (suc c) = omega (arith, total_same due c)

pub each_paid : (due a r t : ℕ) → t ≤ (r + t * a) / due → t * due ≤ r + t * a
each_paid due a r t h = omega (arith, div-add-mod' (r + t * a) due, mul-le-mul_right due h)

module _ (due a r t : ℕ) (some : 1 ≤ a) (most : a ≤ due) where
  abbrev sum : ℕ
  sum = r + t * a

  counts_same : (c : ℕ) → c ≤ t → c * due ≤ sum → (c < t → sum < suc c * due) → Counts (λ _. due) a some (λ _. most) r t c
  counts_same c l p m = record {
    most = l;
    paid = omega (arith, total_same due c);
    no_more = λ h. omega (arith, total_same due (suc c), m h);
  }

  -- a cycle on every tick
  pub gone_each : t ≤ sum / due → record { cycles = t; remainder = sum - t * due } ≡ gone_of (λ _. due) a r t
  gone_each h =
      let p = each_paid due a r t h in
      rw (total_same due t) at (sym (gone_is (λ _. due) a some (λ _. most) r t (counts_same t (omega arith) p (λ l. absurd (omega arith)))))

  -- or as many as whole dues go into the sum
  pub gone_whole : sum / due ≤ t → record { cycles = sum / due; remainder = sum % due } ≡ gone_of (λ _. due) a r t
  gone_whole h =
      let q = div-add-mod' sum due in
      let left : sum % due ≡ sum - sum / due * due = omega (arith, q) in
      let c = counts_same (sum / due) h (omega (arith, q)) (λ l. omega (arith, q, mod-lt sum {m = due} (omega arith))) in
      rw left (rw (total_same due (sum / due)) at (sym (gone_is (λ _. due) a some (λ _. most) r t c)))
