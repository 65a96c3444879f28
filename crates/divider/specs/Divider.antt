-- 01, "Feed divider", as 02 §2, "Arcs cut too fast at 45 degrees", changes it: what a cycle takes off may differ from cycle to cycle. The
-- due of a cycle is its charge times q0; a tick adds 1,000 × f; r is the remainder. `work` and `book` say which charge it is.
use Rattle.std.specs.Prelude.{true, false, cond, ℕ, ◌+◌, ◌-◌, ◌*◌, ◌/◌, leb}
use Rattle.divider.specs.declared.Fed.{Fed}

-- 01: "Each working tick (block in work, not held) adds f to the remainder. If it then reaches or passes q0, q0 is taken off and one cycle
-- is done." 02 §2: "A tick adds 1,000 × f. A cycle is due when the remainder reaches its charge times q0, at most one a tick."
abbrev pub fed_of : (due added r : ℕ) → Fed
fed_of due a r = cond (leb due (r + a)) (record { remainder = r + a - due; cycle = true }) (record { remainder = r + a; cycle = false })

-- 02 §2: "A tick adds 1,000 × f."
abbrev pub added_at : (f : ℕ) → ℕ
added_at f = 1000 * f

-- ---- the end of a block, whose dues are together `due`

-- 02 §2: "in a history that is its working tick ⌈(C × q0 - r) / (1,000 × f)⌉, C being the sum of its charges"
unfoldable pub end_tick : (due added r : ℕ) → ℕ
end_tick due a r = (due - r + (a - 1)) / a
