-- A count in two parts, and its decimal by them: that of the high part and the eighteen digits of the low one.
use Rattle.std.specs.Prelude.{ℕ, zero, suc, ◌+◌, ◌-◌, ◌*◌, ◌/◌, ◌%◌, ◌^◌, cond, List, [], ◌∷◌, ◌++◌, ltb}
use Rattle.row.specs.declared.long.LongCount.{LongCount}
use Rattle.row.specs.Decimal.{digit}

abbrev pub low_limit : ℕ
low_limit = 10 ^ 18

-- what it counts, whatever the parts
abbrev pub long_of : LongCount → ℕ
long_of c = c.high * low_limit + c.low

abbrev pub long : (low high : ℕ) → LongCount
long l h = record { low = l; high = h }

abbrev pub none_counted : LongCount
none_counted = long 0 0

abbrev pub plus_of : LongCount → (more : ℕ) → LongCount
plus_of c n = cond (ltb (c.low + n) low_limit) (long (c.low + n) c.high) (long (c.low + n - low_limit) (c.high + 1))

-- the last k digits of a number, zeros too
unfoldable pub last_digits : (k n : ℕ) → List ℕ
last_digits zero n = []
last_digits (suc k) n = last_digits k (n / 10) ++ (digit (n % 10) ∷ [])
