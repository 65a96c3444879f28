-- 01, Ticks and runs: "A tick answers one byte (decimal): X code + 4 × Y code + 16 if a cycle was done + 32 if the block ended". How a byte
-- is made, and how it is read.
use Rattle.std.specs.Prelude.{Bool, cond, List, [], ◌∷◌, ℕ, ◌+◌, ◌*◌, ◌/◌, ◌%◌}
use Rattle.plane.specs.declared.pulse.Pulses.{Pulses}

-- ---- made

-- "X code + 4 × Y code"
abbrev pub both_codes : Pulses → ℕ
both_codes p = p.x + 4 * p.y

-- "+ 16 if a cycle was done + 32 if the block ended", of a tick that did a cycle; any other tick gives 0
abbrev pub with_marks : (codes : ℕ) (ended : Bool) → ℕ
with_marks codes ended = codes + 16 + cond ended 32 0

abbrev pub cycle_byte : Pulses → (ended : Bool) → ℕ
cycle_byte p ended = with_marks (both_codes p) ended

-- ---- read

abbrev pub code_x : (byte : ℕ) → ℕ
code_x b = b % 4

abbrev pub code_y : (byte : ℕ) → ℕ
code_y b = b / 4 % 4

abbrev pub cycle_mark : (byte : ℕ) → ℕ
cycle_mark b = b / 16 % 2

-- how many of these bytes mark a cycle
abbrev pub cycles_marked : List ℕ → ℕ
cycles_marked [] = 0
cycles_marked (b ∷ bs) = cycle_mark b + cycles_marked bs

abbrev pub end_mark : (byte : ℕ) → ℕ
end_mark b = b / 32 % 2
