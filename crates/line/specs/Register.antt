-- Koren's register (source 000, "DDA integrator"), one for each axis of a line, over the magnitude a of the axis's increment.
use Rattle.std.specs.Prelude.{Bool, true, false, cond, ℕ, zero, suc, ◌+◌, ◌-◌, ◌/◌, leb}
use Rattle.line.specs.declared.register.Clocked.{Clocked}

-- Source 000: "The content of the y register is added to that of r ..", and on an overflow "an overflow pulse is applied by the integrator
-- at the output .. and the contents of r are reduced by q". Source 000 has r > q; 01 decides that reaching q counts.
abbrev pub clock_of : (q a r : ℕ) → Clocked
clock_of q a r = cond (leb q (r + a)) (record { register = r + a - q; pulse = true }) (record { register = r + a; pulse = false })

-- The register after c cycles. Half filling is source 003's: it begins with h, which "is q/2 rounded down" (01, Lines).
unfoldable pub register_of : (q a c : ℕ) → ℕ
register_of q a zero = q / 2
register_of q a (suc c) = (clock_of q a (register_of q a c)).register

-- whether cycle c + 1 pulses
unfoldable pub pulses_of : (q a c : ℕ) → Bool
pulses_of q a c = (clock_of q a (register_of q a c)).pulse
