-- Its numbers are small: the root that it takes is below 3,000,000.
use Rattle.std.proofs.Common.{◌≡◌, ℕ, ◌*◌, ◌/◌, ◌≤◌, arith}
use Rattle.whole.specs.Root.{nearest_root}
use Rattle.whole.specs.laws.Root.{nearest_least}
use Rattle.charges.proofs.search.across_near.Goals as goal

small : (k : ℕ) {r : ℕ} → r ≡ nearest_root (k / 262144) → k ≤ 1171396 * 2000000000000 → r ≤ 3000000
small k e h = omega (arith, nearest_least (k / 262144) 3000000 (omega arith))

pub overflow_mul-root : goal.overflow_mul-root
overflow_mul-root c =
    omega (arith, small c.saturating_sub.result c.nearest_root-root.ensures (omega (arith, c.requires, c.saturating_sub.ensures)))

pub overflow_add-toll : goal.overflow_add-toll
overflow_add-toll c =
    let root = small c.saturating_sub.result c.nearest_root-root.ensures (omega (arith, c.requires, c.saturating_sub.ensures)) in
    omega (arith, c.requires, root)

pub returns : goal.returns
returns c =
    omega (
      arith,
      c.requires,
      c.saturating_sub-2.ensures,
      small c.saturating_sub.result c.nearest_root-root.ensures (omega (arith, c.requires, c.saturating_sub.ensures)),
    )
