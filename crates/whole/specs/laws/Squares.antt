-- Squares of naturals: what `omega`, which takes a product of two variables for an unknown, has to be told.
use Rattle.std.specs.Prelude.{ℕ, ◌+◌, ◌*◌, ◌≤◌, ◌<◌}
use Rattle.std.proofs.Common.{ap, mul-le-mul, lt_of_not-le, not-le_of_lt, le_of_lt, arith}
use Rattle.std.proofs.Math.Nat.{le_dest}
use Rattle.std.proofs.Math.Decide.{dec_le}

pub square_le : {m n : ℕ} → m ≤ n → m * m ≤ n * n
square_le h = mul-le-mul h h

pub square_lt : (m n : ℕ) → m * m < n * n → m < n
square_lt m n h = lt_of_not-le (λ g. not-le_of_lt h (square_le g))

pub root_le : (m n : ℕ) → m * m ≤ n * n → m ≤ n
root_le m n h = by (dec_le m n)
  where
    step : n < m → m ≤ n
    step g = omega (arith, mul-le-mul g g)

    by : Dec (m ≤ n) → m ≤ n
    by (yes g) = g
    by (no f) = step (lt_of_not-le f)

-- one number further on
pub next_square : {m n : ℕ} → m < n → m * m + m + n ≤ n * n
next_square {m} {n} h = let d = le_dest h in omega (arith, ap (λ (t : ℕ). t * t) d.1, ap (λ (t : ℕ). m * t) d.1)

-- twice a product is at most the sum of the two squares
pub products : (a b : ℕ) → 2 * (a * b) ≤ a * a + b * b
products a b = by (dec_le a b)
  where
    ordered : (a b : ℕ) → a ≤ b → 2 * (a * b) ≤ a * a + b * b
    ordered a b h = let d = le_dest h in omega (arith, ap (λ (t : ℕ). t * t) d.1, ap (λ (t : ℕ). a * t) d.1)

    by : Dec (a ≤ b) → 2 * (a * b) ≤ a * a + b * b
    by (yes h) = ordered a b h
    by (no f) = omega (arith, ordered b a (le_of_lt (lt_of_not-le f)))
