-- The pulses of a cycle, by the registers, lead from each point of a line to the next.
use Rattle.std.specs.Prelude.{◌≡◌, ℕ, ◌+◌, ◌≤◌, ◌<◌, ℤ, ◌+ℤ◌}
use Rattle.std.proofs.Common.{sym}
use Rattle.std.proofs.Math.IntN.{nat_abs, +ℤ_assoc}
use Rattle.whole.specs.Sign.{signed, is_negative}
use Rattle.plane.specs.declared.point.Point.{Point}
use Rattle.plane.specs.declared.point.Increments.{Increments}
use Rattle.plane.specs.declared.pulse.Pulses.{Pulses}
use Rattle.plane.specs.computed.Point.{increments_of}
use Rattle.plane.specs.Pulse.{code_of, pulse_of, shifted_of, pulses_between}
use Rattle.plane.specs.laws.Point.{same_point}
use Rattle.plane.specs.laws.Pulse.{bit, pulse_code, change_pulse}
use Rattle.line.specs.Line.{increment_x, increment_y, line_cycles, axis_moved, line_point}
use Rattle.line.specs.Register.{pulses_of}
use Rattle.line.specs.laws.Signed.{moved_next}
use Rattle.line.specs.laws.Cycles.{increment_x_lem, increment_y_lem}

module _ (start end : Point) (some : 0 < line_cycles start end) where
  -- the codes of cycle c + 1, by the registers
  abbrev pub codes : (c : ℕ) → Pulses
  codes c =
      let q = line_cycles start end in
      record {
        x = code_of (pulses_of q (nat_abs (increment_x start end)) c) (is_negative (increment_x start end));
        y = code_of (pulses_of q (nat_abs (increment_y start end)) c) (is_negative (increment_y start end));
      }

  -- the registers' pulses lead from each point to the next
  pub point_next : (c : ℕ) → line_point start end (c + 1) ≡ shifted_of (line_point start end c) (codes c)
  unfolding line_point
  point_next c = same_point (axis start.x (increment_x start end) (increment_x_lem start end))
      (axis start.y (increment_y start end) (increment_y_lem start end))
    where
      axis : (from a : ℤ) → nat_abs a ≤ line_cycles start end
          → from +ℤ axis_moved (line_cycles start end) a (c + 1)
          ≡ (from +ℤ axis_moved (line_cycles start end) a c) +ℤ pulse_of
          (code_of (pulses_of (line_cycles start end) (nat_abs a) c) (is_negative a))
      axis from a short =
          let q = line_cycles start end in
          let pulse = pulses_of q (nat_abs a) c in
          rw (moved_next q some a c short, pulse_code pulse (is_negative a))
          (sym (+ℤ_assoc from (axis_moved q a c) (signed (is_negative a) (bit pulse))))

  -- and are the pulses that the definition reads off the two points
  pub pulses_next : (c : ℕ) → pulses_between (line_point start end c) (line_point start end (c + 1)) ≡ codes c
  pulses_next c =
      let q = line_cycles start end in
      let p = line_point start end c in
      rw (point_next c)
      (λ i. record {
        x = change_pulse p.x (pulses_of q (nat_abs (increment_x start end)) c) (is_negative (increment_x start end)) i;
        y = change_pulse p.y (pulses_of q (nat_abs (increment_y start end)) c) (is_negative (increment_y start end)) i;
      })

-- the codes as the code computes them, from the increments between start and end and the q that the line keeps
pub codes_are : (start end : Point) (some : 0 < line_cycles start end) (c : ℕ) {w : Increments} {q : ℕ} → w ≡ increments_of start end
    → q ≡ line_cycles start end
    → record { x = code_of (pulses_of q w.x.magnitude c) w.x.negative; y = code_of (pulses_of q w.y.magnitude c) w.y.negative }
    ≡ codes start end some c
codes_are start end some c way own =
    λ i. record {
      x = code_of (pulses_of (own i) (way i).x.magnitude c) (way i).x.negative;
      y =
          code_of (pulses_of (own i) (way i).y.magnitude c) (way i).y.negative;
    }
