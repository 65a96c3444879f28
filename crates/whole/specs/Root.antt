-- The two roots that document 01 speaks of. `laws/Root.antt` proves that the tries suffice.
use Rattle.std.specs.Prelude.{ℕ, ◌+◌, ◌*◌, leb}
use Rattle.whole.specs.First.{first_from}

-- 01, Lines: "q is the least whole number with q² ≥ a² + b²"; s is the sum.
unfoldable pub least_root : ℕ → ℕ
least_root s = first_from (λ q. leb s (q * q)) s 0

-- 01, Arcs: "its m on an axis": the root of N to the nearest, which is the least r with N ≤ r² + r. No root lies halfway, since (r + 1/2)²
-- is never whole.
unfoldable pub nearest_root : ℕ → ℕ
nearest_root n = first_from (λ r. leb n (r * r + r)) n 0
