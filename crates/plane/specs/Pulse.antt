-- 01, Ticks and runs: "code 0 none, 1 plus, 2 minus".
use Rattle.std.specs.Prelude.{Bool, true, false, cond, ℕ, zero, suc, ℤ, pos, negsuc, ◌+ℤ◌}
use Rattle.std.specs.Int.Signed.{lt_z}
use Rattle.plane.specs.declared.point.Point.{Point}
use Rattle.plane.specs.declared.pulse.Pulses.{Pulses}

-- the code of an axis that pulses or not, in a direction
abbrev pub code_of : (pulse negative : Bool) → ℕ
code_of false negative = 0
code_of true false = 1
code_of true true = 2

-- 01, The book of a history: "Pulses sent are their codes, 1 as plus one and 2 as minus one"
abbrev pub pulse_of : (code : ℕ) → ℤ
pulse_of zero = pos 0
pulse_of (suc zero) = pos 1
pulse_of (suc (suc zero)) = negsuc 0
pulse_of (suc (suc (suc n))) = pos 0

-- the position after the pulses of a cycle
abbrev pub shifted_of : Point → Pulses → Point
shifted_of at p = record { x = at.x +ℤ pulse_of p.x; y = at.y +ℤ pulse_of p.y }

-- the code that tells how a coordinate changed
unfoldable pub change_of : (before after : ℤ) → ℕ
change_of before after = cond (lt_z before after) 1 (cond (lt_z after before) 2 0)

abbrev pub pulses_between : (before after : Point) → Pulses
pulses_between before after = record { x = change_of before.x after.x; y = change_of before.y after.y }
