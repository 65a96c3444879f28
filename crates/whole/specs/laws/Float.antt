-- Floats and bit patterns that are no NaN, by one comparison each: what code tests before it goes from one to the other.
use Rattle.std.specs.Prelude.{◌≡◌, Bool, true, not, ℕ, ◌%◌, ◌^◌, ◌≤◌, ◌<◌, T, Float}
use Rattle.std.proofs.Common.{sym, ◌∙◌, subst, arith, le-ltb}
use Rattle.std.specs.Float.{nan, inf, fin, binary64}
use Rattle.std.specs.Float.Ieee.{eq, is_nan, nan_bits}
use Rattle.std.specs.Float.Ieee.Bits.{nan_bits_above}

pub itself_no_nan : (x : Float) → eq x x ≡ true → T (not (is_nan x))
unfolding eq is_nan
itself_no_nan nan e = subst T (sym e) tt
itself_no_nan (inf s) e = tt
itself_no_nan (fin s m n) e = tt

-- infinity's pattern comes before those of NaN
pub pattern_no_nan : (n : ℕ) → n < 0x7ff0_0000_0000_0000 → T (not (nan_bits binary64 n))
pattern_no_nan n h =
    let small : n % 2 ^ 63 ≤ 0x7ff0_0000_0000_0000 = omega arith in
    subst (λ (b : Bool). T (not b)) (sym (nan_bits_above binary64 n ∙ le-ltb 0x7ff0_0000_0000_0000 (n % 2 ^ 63) small)) tt
