-- How far a sum of charges reaches.
use Rattle.std.specs.Prelude.{cond, ℕ, zero, suc, leb}

-- the most cycles, at most so many, whose charges the sum holds
unfoldable pub most_paid : (charges : ℕ → ℕ) (sum most : ℕ) → ℕ
most_paid C s zero = 0
most_paid C s (suc m) = cond (leb (C (suc m)) s) (suc m) (most_paid C s m)
