-- 02 §2, "Arcs cut too fast at 45 degrees": what the cycles of a block are charged.
use Rattle.std.specs.Prelude.{cond, ℕ, zero, suc, ◌+◌, eqb}
use Rattle.plane.specs.declared.point.Point.{Point}
use Rattle.plane.specs.declared.pulse.Pulses.{Pulses}
use Rattle.plane.specs.Pulse.{pulses_between}
use Rattle.circle.specs.Charge.{straight, diagonal}
use Rattle.block.specs.declared.Block.{Block}
use Rattle.block.specs.declared.Path.{Path}
use Rattle.block.specs.Block.{block_cycles, block_point}

-- "From now on a straight arc step is charged 1,000 and a diagonal one 1,414.": a diagonal one sends a pulse on both axes
abbrev pub arc_step_charge : Pulses → ℕ
arc_step_charge p = cond (eqb p.x 0) straight (cond (eqb p.y 0) straight diagonal)

-- "Line cycles are charged 1,000.", whatever pulses they send
abbrev pub charge_by : Path → Pulses → ℕ
charge_by Path.Line p = straight
charge_by (Path.Arc turn centre) p = arc_step_charge p

-- the charge of the cycle after c cycles
unfoldable pub block_charge : (start : Point) → Block → (c : ℕ) → ℕ
block_charge start b c = charge_by b.path (pulses_between (block_point start b c) (block_point start b (c + 1)))

-- those of the first c cycles
unfoldable pub charges_to : (start : Point) → Block → (c : ℕ) → ℕ
charges_to start b zero = 0
charges_to start b (suc c) = charges_to start b c + block_charge start b c

-- "C being the sum of its charges"
abbrev pub block_charges : (start : Point) → Block → ℕ
block_charges start b = charges_to start b (block_cycles start b)
