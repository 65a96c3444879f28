-- 01, Where each language form goes: "signed increments and positions, magnitude and sign parted and joined again".
use Rattle.std.specs.Prelude.{Bool, true, false, ℕ, ℤ, pos, negsuc, neg_ℤ}

abbrev pub is_negative : ℤ → Bool
is_negative (pos n) = false
is_negative (negsuc n) = true

-- magnitude m, negative where the flag says so
abbrev pub signed : (negative : Bool) (m : ℕ) → ℤ
signed true m = neg_ℤ (pos m)
signed false m = pos m
