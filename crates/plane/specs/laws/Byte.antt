-- A byte that tells pulses, a cycle and an end reads as these.
use Rattle.std.specs.Prelude.{◌≡◌, Bool, true, false, cond, ℕ, ◌≤◌}
use Rattle.std.proofs.Common.{arith}
use Rattle.plane.specs.declared.point.Point.{Point}
use Rattle.plane.specs.declared.pulse.Pulses.{Pulses}
use Rattle.plane.specs.Pulse.{pulses_between}
use Rattle.plane.specs.Byte.{cycle_byte, code_x, code_y, cycle_mark, end_mark}
use Rattle.plane.specs.laws.Pulse.{change_small}

pub record Told (p : Pulses) (ended : Bool) (byte : ℕ) : Type 0 where
  pub x : code_x byte ≡ p.x
  pub y : code_y byte ≡ p.y
  pub cycle : cycle_mark byte ≡ 1
  pub end : end_mark byte ≡ cond ended 1 0

pub told_codes : (p : Pulses) (ended : Bool) → p.x ≤ 2 → p.y ≤ 2 → Told p ended (cycle_byte p ended)
told_codes p true h k = record { x = omega arith; y = omega arith; cycle = omega arith; end = omega arith }
told_codes p false h k = record { x = omega arith; y = omega arith; cycle = omega arith; end = omega arith }

pub told : (from to : Point) (ended : Bool) → Told (pulses_between from to) ended (cycle_byte (pulses_between from to) ended)
told from to ended = told_codes (pulses_between from to) ended (change_small from.x to.x) (change_small from.y to.y)
