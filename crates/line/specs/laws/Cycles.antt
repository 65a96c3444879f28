-- The number of cycles: at least each increment, none for a line that goes nowhere, and bounded within travel.
use Rattle.std.specs.Prelude.{true, not, ◌≡◌, ◌+◌, ◌*◌, ◌≤◌, ◌<◌}
use Rattle.std.proofs.Common.{true≢false, sym, ap, ◌∙◌, zero-le, pos_of_ne-zero}
use native.Mathlib.Omega.{arith}
use Rattle.std.proofs.Math.IntN.{nat_abs, +ℤ_invr}
use Rattle.whole.specs.laws.Order.{no_way}
use Rattle.whole.specs.laws.Root.{least_root_lem, least_root_is}
use Rattle.whole.specs.laws.Squares.{square_le, root_le}
use Rattle.plane.specs.declared.point.Point.{Point}
use Rattle.whole.specs.laws.Test.{refuted}
use Rattle.plane.specs.Point.{equal_point}
use Rattle.plane.specs.laws.Point.{same_point, equal_point_lem, equal_itself}
use Rattle.line.specs.Line.{increment_x, increment_y, line_cycles, differ}

module _ (start end : Point) where
  pub increment_x_lem : nat_abs (increment_x start end) ≤ line_cycles start end
  unfolding line_cycles
  increment_x_lem = root_le _ _ (omega (
    arith,
    (least_root_lem (nat_abs (increment_x start end) * nat_abs (increment_x start end) + nat_abs (increment_y start end) * nat_abs
        (increment_y start end))).above,
  ))

  pub increment_y_lem : nat_abs (increment_y start end) ≤ line_cycles start end
  unfolding line_cycles
  increment_y_lem = root_le _ _ (omega (
    arith,
    (least_root_lem (nat_abs (increment_x start end) * nat_abs (increment_x start end) + nat_abs (increment_y start end) * nat_abs
        (increment_y start end))).above,
  ))

  -- 2,828,428 is the least root of 8 × 10¹²
  pub cycles_bound : nat_abs (increment_x start end) ≤ 2000000 → nat_abs (increment_y start end) ≤ 2000000 → line_cycles start end ≤ 2828428
  unfolding line_cycles
  cycles_bound h k = (least_root_lem _).least 2828428 (omega (arith, square_le h, square_le k))

  -- an end other than the start takes a cycle
  pub cycles_some : (start ≡ end → ⊥) → 0 < line_cycles start end
  cycles_some apart =
      pos_of_ne-zero (λ none. apart (same_point
      (no_way start.x end.x (omega (arith, increment_x_lem)))
      (no_way start.y end.y (omega (arith, increment_y_lem)))))

-- and the start itself takes none
pub cycles_none : (p : Point) → line_cycles p p ≡ 0
unfolding line_cycles
cycles_none p = sym (least_root_is (record { above = simp +ℤ_invr (omega arith); least = λ k h. zero-le }))

pub cycles_apart : (start end : Point) → 0 < line_cycles start end → start ≡ end → ⊥
cycles_apart start end some e = omega (arith, ap (line_cycles start) (sym e), cycles_none start)

-- question 13 as a fact
pub differ_apart : (start end : Point) → differ start end ≡ true → start ≡ end → ⊥
unfolding differ
differ_apart start end e same = true≢false (sym e ∙ ap not (ap (equal_point start) (sym same) ∙ equal_itself start))

pub apart_differ : (start end : Point) → (start ≡ end → ⊥) → differ start end ≡ true
unfolding differ
apart_differ start end apart = ap not (refuted (equal_point start end) (λ t. apart (equal_point_lem start end t)))
