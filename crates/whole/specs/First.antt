-- The first number that passes a test: how "the least whole number with .." and "the fewest .." are said, so that they compute.
use Rattle.std.specs.Prelude.{Bool, cond, ℕ, zero, suc}

-- the first of k, k + 1, .. that passes, after at most so many tries
unfoldable pub first_from : (test : ℕ → Bool) (tries k : ℕ) → ℕ
first_from test zero k = k
first_from test (suc tries) k = let later = first_from test tries (suc k) in cond (test k) k later
