-- The step of the first quadrant: it stays on the circle, goes forward, and no circle point lies between.
use Rattle.std.specs.Prelude.{◌≡◌, refl, Bool, true, false, cond, ℕ, zero, suc, ◌+◌, ◌-◌, ◌*◌, ◌≤◌, ◌<◌, leb, ltb}
use Rattle.std.proofs.Common.{subst, inl, inr, mul-le-mul, mul-le-mul_left, arith, leb-true, leb-false, ltb-true, ltb-false}
use Rattle.std.proofs.Math.Decide.{dec_le}
use Rattle.circle.specs.computed.Step.{first_step}
use Rattle.circle.proofs.laws.Octant.{Quadrant, rises, past, below, above}

-- The five cases of a step from (x, y) to s, so that no later proof sees a test or a subtraction:
-- below the diagonal up, or up and in, or across the diagonal; above it in, or in and up.
pub data Step (n : ℕ) : (x y : ℕ) → ℕ × ℕ → Type 0 where
  rise : {x y : ℕ} → y < x → x * x + (y + 1) * (y + 1) < n + x → Step n x y (x, y + 1)
  cut : {x y : ℕ} → y < x → n + suc x ≤ suc x * suc x + (y + 1) * (y + 1) → Step n (suc x) y (x, y + 1)
  cross : {y : ℕ} → n + suc y ≤ suc y * suc y + (y + 1) * (y + 1) → Step n (suc y) y (y, y + 1)
  fall : {x y : ℕ} → x < y → n ≤ x * x + y * y + y → Step n (suc x) y (x, y)
  climb : {x y : ℕ} → x < y → x * x + y * y + y < n → Step n (suc x) y (x, y + 1)

step_suc : (n x y : ℕ) → Step n (suc x) y (first_step n (suc x) y)
unfolding first_step
step_suc n x y = let less : suc x - 1 ≡ x = omega arith in rw less (by (ltb y a) refl)
  where
    a : ℕ
    a = suc x

    S : ℕ
    S = a * a + y * y

    beside : y ≡ x → n + suc x ≤ suc x * suc x + (y + 1) * (y + 1) → Step n (suc x) y (x, y + 1)
    beside q = subst (λ (t : ℕ). n + suc t ≤ suc t * suc t + (y + 1) * (y + 1) → Step n (suc t) y (t, y + 1)) q cross

    inward : Dec (y < x) → y < a → n + a ≤ S + 2 * y + 1 → Step n a y (x, y + 1)
    inward (yes g) l h = cut g (omega arith)
    inward (no f) l h = beside (omega arith) (omega arith)

    in_low : (t : Bool) → y < a → ltb (S + 2 * y + 1) (n + a) ≡ t → Step n a y (cond t (a, y + 1) (x, y + 1))
    in_low true l e = rise l (omega (arith, ltb-true (S + 2 * y + 1) (n + a) e))
    in_low false l e = inward (dec_le (suc y) x) l (ltb-false (S + 2 * y + 1) (n + a) e)

    in_high : (t : Bool) → a ≤ y → leb (n + 2 * a) (S + y + 1) ≡ t → Step n a y (cond t (x, y) (x, y + 1))
    in_high true l e = fall l (omega (arith, leb-true (n + 2 * a) (S + y + 1) e))
    in_high false l e = climb l (omega (arith, leb-false (n + 2 * a) (S + y + 1) e))

    by : (t : Bool) → ltb y a ≡ t
        → Step n a y (cond t
        (cond (ltb (S + 2 * y + 1) (n + a)) (a, y + 1) (x, y + 1))
        (cond (leb (n + 2 * a) (S + y + 1)) (x, y) (x, y + 1)))
    by true e = in_low (ltb (S + 2 * y + 1) (n + a)) (ltb-true y a e) refl
    by false e = in_high (leb (n + 2 * a) (S + y + 1)) (ltb-false y a e) refl

pub step_is : {n : ℕ} (x y : ℕ) → 1 ≤ x → Step n x y (first_step n x y)
step_is zero y l = absurd (omega arith)
step_is {n} (suc x) y l = step_suc n x y

-- on the circle again
pub stays : {n x y : ℕ} {s : ℕ × ℕ} → Quadrant n x y → Step n x y s → Quadrant n s.0 s.1
stays c (rise l h) = let o = below c (omega arith) in inl (omega arith)
stays c (cut l h) = let o = below c (omega arith) in inl (omega arith)
stays c (cross h) = let o = below c (omega arith) in inr (omega arith)
stays c (fall l h) = let o = above c l in inr (omega arith)
stays c (climb l h) = let o = above c l in inr (omega arith)

-- forward: by the cross product, and in each coordinate by 1 at most
pub record Ahead (x y : ℕ) (s : ℕ × ℕ) : Type 0 where
  pub left : y * s.0 < x * s.1
  pub in_x : s.0 ≤ x
  pub near_x : x ≤ s.0 + 1
  pub up_y : y ≤ s.1
  pub near_y : s.1 ≤ y + 1
  pub some_y : 1 ≤ s.1

pub ahead : {n x y : ℕ} {s : ℕ × ℕ} → Step n x y s → Ahead x y s
ahead (rise l h) = omega arith
ahead (cut l h) = omega arith
ahead (cross h) = omega arith
ahead (fall l h) = omega arith
ahead (climb l h) = omega arith

-- no circle point of the quadrant lies between
pub between : {n x y : ℕ} {s : ℕ × ℕ} {u v : ℕ} → Quadrant n x y → Step n x y s → Quadrant n u v → y * u < x * v → v * s.0 < u * s.1 → ⊥
between c (rise l h) (inl k) e f = omega (arith, rises (below c (omega arith)) k e, rises k (below (stays c (rise l h)) (omega arith)) f)
between c (rise l h) (inr k) e f = omega (arith, mul-le-mul k.wide l)
between c (cut l h) (inl k) e f = omega (arith, rises (below c (omega arith)) k e, rises k (below (stays c (cut l h)) (omega arith)) f)
between c (cut l h) (inr k) e f = omega (arith, mul-le-mul k.wide l)
between c (cross {y} h) (inl k) e f = past y (omega arith) k (omega (arith, rises (below c (omega arith)) k e))
between c (cross {y} h) (inr k) e f = past y (omega arith) k (omega (arith, rises (below c (omega arith)) k (omega arith)))
between c (fall l h) (inl k) e f = omega (arith, mul-le-mul k.wide l)
between c (fall l h) (inr k) e f =
    omega (arith, rises k (above c l) (omega arith), rises (above (stays c (fall l h)) (omega arith)) k (omega arith))
between c (climb l h) (inl k) e f = omega (arith, mul-le-mul k.wide l)
between c (climb l h) (inr k) e f =
    omega (arith, rises k (above c l) (omega arith), rises (above (stays c (climb l h)) (omega arith)) k (omega arith))

-- nor one of the opposite quadrant
pub opposite : {x y : ℕ} {s : ℕ × ℕ} (u v : ℕ) → Ahead x y s → x * v < y * u → u * s.1 < v * s.0 → ⊥
opposite u v a e f = omega (arith, mul-le-mul_left v a.in_x, mul-le-mul_left u a.up_y)
