-- Sign and magnitude parted and joined again, and differences, as the code takes them; and offset binary, of which laws alone speak.
use Rattle.std.specs.Prelude.{ℕ, ◌^◌, ℤ, pos, nat_abs, ◌+ℤ◌, ◌-ℤ◌}
use Rattle.whole.specs.declared.sign.SignMagnitude.{SignMagnitude}
use Rattle.whole.specs.Sign.{is_negative, signed}

abbrev pub part_of : ℤ → SignMagnitude
part_of x = record { negative = is_negative x; magnitude = nat_abs x }

abbrev pub join_of : SignMagnitude → ℤ
join_of p = signed p.negative p.magnitude

-- the way from one whole number to another
abbrev pub difference_of : (from to : ℤ) → SignMagnitude
difference_of from to = part_of (to -ℤ from)

-- offset binary: no i64 is below -2^63, so the size is x + 2^63 itself
unfoldable pub offset_of : ℤ → ℕ
offset_of x = nat_abs (x +ℤ pos (2 ^ 63))
