-- Numbers as the listing prints them, in bytes. 01, The check program: "1 1 L 2237 1000 2000 11".
use Rattle.std.specs.Prelude.{ℕ, zero, suc, ◌+◌, ◌/◌, ◌%◌, cond, List, [], ◌∷◌, ◌++◌, ltb, ℤ, pos, negsuc}

-- a digit's byte; 48 is '0'
abbrev pub digit : ℕ → ℕ
digit d = 48 + d

-- A number below 10 is its digit; any other is the digits of its tens and then its last digit. Each digit takes one try.
abbrev pub digits_in : (tries n : ℕ) → List ℕ
digits_in zero n = []
digits_in (suc k) n = cond (ltb n 10) (digit n ∷ []) (digits_in k (n / 10) ++ (digit (n % 10) ∷ []))

-- Plain decimal: no sign, no leading zeros, and 0 is "0". No number n has more than n + 1 digits.
unfoldable pub decimal : ℕ → List ℕ
decimal n = digits_in (suc n) n

-- '-', byte 45, before a negative number; nothing before any other
unfoldable pub signed_decimal : ℤ → List ℕ
signed_decimal (pos n) = decimal n
signed_decimal (negsuc n) = 45 ∷ decimal (suc n)
