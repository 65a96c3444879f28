-- A circle point is less than half a pulse from the circle.
use Rattle.std.specs.Prelude.{◌≡◌, ℕ, ◌+◌, ◌-◌, ◌*◌, ◌≤◌, ◌<◌, ℤ, pos, negsuc, neg_ℤ, nat_abs, ◌*ℤ◌, ◌<ℤ◌}
use Rattle.std.proofs.Common.{ap, inl, inr, mul-le-mul, arith}
use Rattle.whole.specs.laws.Difference.{Difference, natural, negated, added, multiplied}
use Rattle.whole.specs.laws.Order.{◌≺◌}
use Rattle.circle.specs.declared.plane.Offset.{Offset}
use Rattle.circle.specs.Circle.{square, squares, excess, Circle, past, Within}
use Rattle.circle.proofs.laws.Octant.{Octant, Quadrant}
use Rattle.circle.proofs.laws.Circle.{from_<ℤ, to_<ℤ, square_parts, excess_parts, circle_quadrant}

-- outside by f, 4 f = d + 1; and inside

squared : {m n : ℕ} → m ≡ n → m * m ≡ n * n
squared e = ap (λ (t : ℕ). t * t) e

-- f ≤ x - 1 and N = S - f leave N above f² + f
octant_out : {n x y : ℕ} (f d : ℕ) → Octant n x y → n + f ≡ x * x + y * y → d + 1 ≡ 4 * f → d * d < 16 * n
octant_out {x = x} f d o e k = let h : f + 1 ≤ x = omega arith in omega (arith, mul-le-mul h h, squared k)

octant_in : {n x y : ℕ} (f d : ℕ) → Octant n x y → n ≡ x * x + y * y + f → d + 1 ≡ 4 * f → d * d < 16 * (x * x + y * y)
octant_in {x = x} f d o e k = let h : f ≤ x = omega arith in omega (arith, mul-le-mul h h, squared k)

-- 4 f is a multiple of 4
quarter : (s n d : ℕ) → d + 1 + 4 * n ≡ 4 * s → (f : ℕ) × (n + f ≡ s) × (d + 1 ≡ 4 * f)
quarter s n d e = (s - n, omega arith, omega arith)

module _ {n x y : ℕ} where
  outside_by : Quadrant n x y → (d : ℕ) → d + 1 + 4 * n ≡ 4 * (x * x + y * y) → d * d < 16 * n
  outside_by (inl o) d e = let f = quarter (x * x + y * y) n d e in octant_out f.0 d o f.1 f.2
  outside_by (inr o) d e = let f = quarter (x * x + y * y) n d e in octant_out f.0 d o (omega (arith, f.1)) f.2

  inside_by : Quadrant n x y → (d : ℕ) → d + 1 + 4 * (x * x + y * y) ≡ 4 * n → d * d < 16 * (x * x + y * y)
  inside_by (inl o) d e = let f = quarter n (x * x + y * y) d e in octant_in f.0 d o (omega (arith, f.1)) f.2
  inside_by (inr o) d e = let f = quarter n (x * x + y * y) d e in omega (arith, octant_in f.0 d o (omega (arith, f.1)) f.2)

pub circle_within : {n : ℕ} (p : Offset) → Circle n p → Within 1 n p
circle_within {n} p c = record {
  outside = λ h. outer (past 1 F) (omega (arith, added (multiplied (natural 4) (excess_parts n p)) (negated (natural 1)))) (from_<ℤ h);
  inside =
      λ h.
      inner (past 1 (neg_ℤ F)) (omega (arith, added (multiplied (natural 4) (negated (excess_parts n p))) (negated (natural 1))))
      (from_<ℤ h);
}
  where
    F : ℤ
    F = excess n p

    S : ℕ
    S = nat_abs p.x * nat_abs p.x + nat_abs p.y * nat_abs p.y

    outer : (z : ℤ) → Difference z (4 * S) (4 * n + 1) → pos 0 ≺ z → square z <ℤ (pos 16 *ℤ pos n)
    outer (pos d) h g = to_<ℤ (pos (d * d)) (pos (16 * n)) (omega (arith, outside_by (circle_quadrant c) d (omega arith)))
    outer (negsuc d) h g = absurd (omega arith)

    inner : (z : ℤ) → Difference z (4 * n) (4 * S + 1) → pos 0 ≺ z → square z <ℤ (pos 16 *ℤ squares p)
    inner (pos d) h g =
        to_<ℤ (pos (d * d)) (pos 16 *ℤ squares p)
        (omega (
          arith,
          inside_by (circle_quadrant c) d (omega arith),
          multiplied (natural 16) (added (square_parts p.x) (square_parts p.y)),
        ))
    inner (negsuc d) h g = absurd (omega arith)
