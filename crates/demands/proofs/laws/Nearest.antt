-- A circle point is the nearest along its longer coordinate, over both signs, and only circle points are.
use Rattle.std.specs.Prelude.{◌⊎◌, ◌↔◌, ℕ, zero, suc, ◌+◌, ◌*◌, ◌≤◌, ◌<◌, ℤ, pos, negsuc, nat_abs, ◌+ℤ◌, ◌-ℤ◌, ◌*ℤ◌}
use Rattle.std.proofs.Common.{inl, inr, mul-le-mul, mul-le-mul_right, arith}
use Rattle.std.proofs.Math.Decide.{dec_le}
use Rattle.whole.specs.laws.Difference.{parts, natural, negated, added, multiplied, size_up, split, var, num, ◌⊕◌, ◌⊖◌, ◌⊗◌}
use Rattle.whole.specs.laws.Order.{◌≺◌, abs_neg}
use Rattle.circle.specs.declared.plane.Offset.{Offset}
use Rattle.circle.specs.Circle.{square, Circle}
use Rattle.circle.proofs.laws.Circle.{from_<ℤ, to_<ℤ, square_parts, circle_quadrant, quadrant_circle}
use Rattle.circle.proofs.laws.Octant.{Octant, Quadrant, some, below, above}
use Rattle.demands.specs.Arcs.{NearestAlong, LeastError}

-- ---- signs of a product

same_sign : (x w : ℤ) → pos 0 ≺ x *ℤ w → ((pos 0 ≺ x) × (pos 0 ≺ w)) ⊎ ((x ≺ pos 0) × (w ≺ pos 0))
same_sign (pos zero) (pos b) h = absurd (omega (arith, multiplied (parts (pos zero)) (parts (pos b))))
same_sign (pos (suc a)) (pos zero) h = absurd (omega (arith, multiplied (parts (pos (suc a))) (parts (pos zero))))
same_sign (pos (suc a)) (pos (suc b)) h = inl (omega arith, omega arith)
same_sign (pos a) (negsuc b) h = absurd (omega (arith, multiplied (parts (pos a)) (parts (negsuc b))))
same_sign (negsuc a) (pos b) h = absurd (omega (arith, multiplied (parts (negsuc a)) (parts (pos b))))
same_sign (negsuc a) (negsuc b) h = inr (omega arith, omega arith)

other_sign : (x w : ℤ) → x *ℤ w ≺ pos 0 → ((pos 0 ≺ x) × (w ≺ pos 0)) ⊎ ((x ≺ pos 0) × (pos 0 ≺ w))
other_sign (pos zero) (negsuc b) h = absurd (omega (arith, multiplied (parts (pos zero)) (parts (negsuc b))))
other_sign (pos (suc a)) (negsuc b) h = inl (omega arith, omega arith)
other_sign (pos a) (pos b) h = absurd (omega (arith, multiplied (parts (pos a)) (parts (pos b))))
other_sign (negsuc a) (pos zero) h = absurd (omega (arith, multiplied (parts (negsuc a)) (parts (pos zero))))
other_sign (negsuc a) (pos (suc b)) h = inr (omega arith, omega arith)
other_sign (negsuc a) (negsuc b) h = absurd (omega (arith, multiplied (parts (negsuc a)) (parts (negsuc b))))

-- ---- the middle, doubled, is beyond x or before it

out_size : (x z : ℤ) → pos 0 ≺ x *ℤ (z -ℤ x) → 2 * nat_abs x + 1 ≤ nat_abs (x +ℤ z)
out_size (pos a) z h = by (same_sign (pos a) (z -ℤ pos a) h)
  where
    by : ((pos 0 ≺ pos a) × (pos 0 ≺ z -ℤ pos a)) ⊎ ((pos a ≺ pos 0) × (z -ℤ pos a ≺ pos 0)) → 2 * a + 1 ≤ nat_abs (pos a +ℤ z)
    by (inl k) = let d = split (var z ⊖ var (pos a)) in let w = k.1 in omega (arith, size_up (added (natural a) (parts z)) (omega arith))
    by (inr k) = absurd (omega (arith, k.0))
out_size (negsuc a) z h = by (same_sign (negsuc a) (z -ℤ negsuc a) h)
  where
    by : ((pos 0 ≺ negsuc a) × (pos 0 ≺ z -ℤ negsuc a)) ⊎ ((negsuc a ≺ pos 0) × (z -ℤ negsuc a ≺ pos 0))
        → 2 * suc a + 1 ≤ nat_abs (negsuc a +ℤ z)
    by (inl k) = absurd (omega (arith, k.0))
    by (inr k) =
        let d = split (var z ⊖ var (negsuc a)) in
        let w = k.1 in
        omega (arith, size_up (negated (added (parts (negsuc a)) (parts z))) (omega arith), abs_neg (negsuc a +ℤ z))

in_size : (x z : ℤ) → x *ℤ (z -ℤ x) ≺ pos 0 → pos 0 ≺ x *ℤ (x +ℤ z) → nat_abs (x +ℤ z) + 1 ≤ 2 * nat_abs x
in_size (pos a) z h g = by (other_sign (pos a) (z -ℤ pos a) h) (same_sign (pos a) (pos a +ℤ z) g)
  where
    by : ((pos 0 ≺ pos a) × (z -ℤ pos a ≺ pos 0)) ⊎ ((pos a ≺ pos 0) × (pos 0 ≺ z -ℤ pos a))
        → ((pos 0 ≺ pos a) × (pos 0 ≺ pos a +ℤ z)) ⊎ ((pos a ≺ pos 0) × (pos a +ℤ z ≺ pos 0)) → nat_abs (pos a +ℤ z) + 1 ≤ 2 * a
    by (inl k) (inl l) =
        let d = split (var z ⊖ var (pos a)) in
        let s = added (natural a) (parts z) in
        let w = k.1 in
        let v = l.1 in
        omega (arith, size_up s (omega arith))
    by (inl k) (inr l) = absurd (omega (arith, l.0))
    by (inr k) l = absurd (omega (arith, k.0))
in_size (negsuc a) z h g = by (other_sign (negsuc a) (z -ℤ negsuc a) h) (same_sign (negsuc a) (negsuc a +ℤ z) g)
  where
    by : ((pos 0 ≺ negsuc a) × (z -ℤ negsuc a ≺ pos 0)) ⊎ ((negsuc a ≺ pos 0) × (pos 0 ≺ z -ℤ negsuc a))
        → ((pos 0 ≺ negsuc a) × (pos 0 ≺ negsuc a +ℤ z)) ⊎ ((negsuc a ≺ pos 0) × (negsuc a +ℤ z ≺ pos 0))
        → nat_abs (negsuc a +ℤ z) + 1 ≤ 2 * suc a
    by (inr k) (inr l) =
        let d = split (var z ⊖ var (negsuc a)) in
        let s = added (parts (negsuc a)) (parts z) in
        let w = k.1 in
        let v = l.1 in
        omega (arith, size_up (negated s) (omega arith), abs_neg (negsuc a +ℤ z))
    by (inr k) (inl l) = absurd (omega (arith, l.0))
    by (inl k) l = absurd (omega (arith, k.0))

-- ---- by the octant

beyond : {n x y : ℕ} → Octant n x y → (s : ℕ) → 2 * x + 1 ≤ s → 4 * n < s * s + 4 * (y * y)
beyond o s h = omega (arith, mul-le-mul h h, o.low)

before : {n x y : ℕ} → Octant n x y → (s : ℕ) → s + 1 ≤ 2 * x → s * s + 4 * (y * y) < 4 * n
before {x = zero} o s h = absurd (omega arith)
before {x = suc x} o s h = let g : s ≤ 2 * x + 1 = omega arith in omega (arith, mul-le-mul g g, o.high)

along : (N : ℕ) (x y : ℤ) → Octant N (nat_abs x) (nat_abs y) → NearestAlong N x y
along N x y o = record {
  meets = to_<ℤ (square y) (pos N) (omega (arith, o.high, square_parts y, mul-le-mul_right (nat_abs x) (some o)));
  outside = λ z h.
      to_<ℤ (pos 4 *ℤ pos N) (square (x +ℤ z) +ℤ (pos 4 *ℤ square y))
      (omega (
        arith,
        beyond o (nat_abs (x +ℤ z)) (out_size x z (from_<ℤ h)),
        added (square_parts (x +ℤ z))
            (multiplied (natural 4) (square_parts y)),
      ));
  inside = λ z h g.
      to_<ℤ (square (x +ℤ z) +ℤ (pos 4 *ℤ square y)) (pos 4 *ℤ pos N)
      (omega (
        arith,
        before o (nat_abs (x +ℤ z)) (in_size x z (from_<ℤ h) (from_<ℤ g)),
        added (square_parts (x +ℤ z))
            (multiplied (natural 4) (square_parts y)),
      ));
}

-- and back, by the two neighbours
back : (N : ℕ) (x y : ℤ) → 1 ≤ nat_abs x → nat_abs y ≤ nat_abs x → NearestAlong N x y → Octant N (nat_abs x) (nat_abs y)
back N (pos zero) y s l h = absurd (omega arith)
back N (pos (suc a)) y s l h =
    let x = pos (suc a) in
    let out = x +ℤ pos 1 in
    let in' = x -ℤ pos 1 in
    let far = from_<ℤ (h.outside out (to_<ℤ (pos 0) (x *ℤ (out -ℤ x)) (omega (arith, split (var x ⊗ (var x ⊕ num 1 ⊖ var x)))))) in
    let near = from_<ℤ (h.inside in' (to_<ℤ (x *ℤ (in' -ℤ x)) (pos 0) (omega (arith, split (var x ⊗ (var x ⊖ num 1 ⊖ var x)))))
    (to_<ℤ (pos 0) (x *ℤ (x +ℤ in')) (omega (arith, split (var x ⊗ (var x ⊕ (var x ⊖ num 1))))))) in
    let sums_out = added (split ((var x ⊕ (var x ⊕ num 1)) ⊗ (var x ⊕ (var x ⊕ num 1)))) (multiplied (natural 4) (square_parts y)) in
    let sums_in = added (split ((var x ⊕ (var x ⊖ num 1)) ⊗ (var x ⊕ (var x ⊖ num 1)))) (multiplied (natural 4) (square_parts y)) in
    record { wide = l; low = omega (arith, far, sums_out); high = omega (arith, near, sums_in) }
back N (negsuc a) y s l h =
    let x = negsuc a in
    let out = x -ℤ pos 1 in
    let in' = x +ℤ pos 1 in
    let far = from_<ℤ (h.outside out (to_<ℤ (pos 0) (x *ℤ (out -ℤ x)) (omega (arith, split (var x ⊗ (var x ⊖ num 1 ⊖ var x)))))) in
    let near = from_<ℤ (h.inside in' (to_<ℤ (x *ℤ (in' -ℤ x)) (pos 0) (omega (arith, split (var x ⊗ (var x ⊕ num 1 ⊖ var x)))))
    (to_<ℤ (pos 0) (x *ℤ (x +ℤ in')) (omega (arith, split (var x ⊗ (var x ⊕ (var x ⊕ num 1))))))) in
    let sums_out = added (split ((var x ⊕ (var x ⊖ num 1)) ⊗ (var x ⊕ (var x ⊖ num 1)))) (multiplied (natural 4) (square_parts y)) in
    let sums_in = added (split ((var x ⊕ (var x ⊕ num 1)) ⊗ (var x ⊕ (var x ⊕ num 1)))) (multiplied (natural 4) (square_parts y)) in
    record { wide = l; low = omega (arith, far, sums_out); high = omega (arith, near, sums_in) }

pub least_error : (N : ℕ) (p : Offset) → Circle N p ↔ ((1 ≤ nat_abs p.x + nat_abs p.y) × LeastError N p)
least_error N p = (
  λ c.
      let q = circle_quadrant c in
      (off_centre q, record { along_x = λ l. along N p.x p.y (below q l); along_y = λ l. along N p.y p.x (above q l) }),
  λ h. quadrant_circle p (by (dec_le (nat_abs p.y) (nat_abs p.x)) h.0 h.1),
)
  where
    off_centre : Quadrant N (nat_abs p.x) (nat_abs p.y) → 1 ≤ nat_abs p.x + nat_abs p.y
    off_centre (inl o) = omega (arith, some o)
    off_centre (inr o) = omega (arith, some o)

    by : Dec (nat_abs p.y ≤ nat_abs p.x) → 1 ≤ nat_abs p.x + nat_abs p.y → LeastError N p
        → Quadrant N (nat_abs p.x) (nat_abs p.y)
    by (yes l) s h = inl (back N p.x p.y (omega arith) l (h.along_x l))
    by (no f) s h = let l : nat_abs p.x ≤ nat_abs p.y = omega arith in inr (back N p.y p.x (omega arith) l (h.along_y l))
