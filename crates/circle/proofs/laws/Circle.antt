-- Circle points by their magnitudes; the symmetries of the circle; and that a point with F = 0 is on it.
use Rattle.std.specs.Prelude.{◌≡◌, refl, ◌↔◌, Bool, false, ℤ, pos, negsuc, neg_ℤ, nat_abs, ◌<ℤ◌}
use Rattle.std.proofs.Common.{ap, arith, ltb→lt, lt→ltb}
use Rattle.std.proofs.Math.Logic.{inl, inr}
use Rattle.std.proofs.Math.Bool.{true}
use Prim.Native.Nat.{ℕ, ◌+◌, ◌*◌, ◌≤◌, ◌<◌, max}
use Rattle.std.proofs.Math.Decide.{dec_le}
use Rattle.std.proofs.Math.IntN.{neg_ℤ-neg_ℤ}
use borrow.Author.Tests.{leb-true, ltb-true, le-leb, lt-ltb}
use Rattle.whole.specs.Root.{nearest_root}
use Rattle.whole.specs.laws.Difference.{Difference, natural, negated, added}
use Rattle.whole.specs.laws.Order.{◌≼◌, ◌≺◌, from_≤ℤ, to_≤ℤ, abs_neg}
use Rattle.whole.specs.laws.Test.{both, joined}
use Rattle.circle.specs.declared.plane.Offset.{Offset}
use Rattle.circle.specs.declared.plane.Turn.{Turn}
use Rattle.circle.proofs.laws.Ways.{Clockwise, Counterclockwise}
use Rattle.circle.specs.Circle.{largest_n, square, excess, larger, Circle, circle_test, on_circle, offset}
use Rattle.circle.specs.computed.Step.{mirror, seen, quarter_turn}
use Rattle.circle.proofs.laws.Octant.{Quadrant, swapped, some_n, under_axis, below, nearest_axis, axis_is, within_axis}

-- the quarter turn back
abbrev pub unturn : Offset → Offset
unturn p = offset p.y (neg_ℤ p.x)

-- the library's strict order, for `omega`
pub from_<ℤ : {x y : ℤ} → x <ℤ y → x ≺ y
from_<ℤ {x = pos a} {y = pos b} h = omega (arith, ltb→lt a b h.lt)
from_<ℤ {x = pos a} {y = negsuc b} h = absurd h.lt
from_<ℤ {x = negsuc a} {y = pos b} h = omega arith
from_<ℤ {x = negsuc a} {y = negsuc b} h = omega (arith, ltb→lt b a h.lt)

pub to_<ℤ : (x y : ℤ) → x ≺ y → x <ℤ y
to_<ℤ (pos a) (pos b) h = record { lt = lt→ltb a b (omega arith) }
to_<ℤ (pos a) (negsuc b) h = absurd (omega arith)
to_<ℤ (negsuc a) (pos b) h = record { lt = tt }
to_<ℤ (negsuc a) (negsuc b) h = record { lt = lt→ltb b a (omega arith) }

-- ---- by magnitudes

pub square_parts : (z : ℤ) → Difference (square z) (nat_abs z * nat_abs z) 0
square_parts (pos a) = omega arith
square_parts (negsuc a) = omega arith

pub excess_parts : (n : ℕ) (p : Offset) → Difference (excess n p) (nat_abs p.x * nat_abs p.x + nat_abs p.y * nat_abs p.y) n
excess_parts n p = omega (arith, added (added (square_parts p.x) (square_parts p.y)) (negated (natural n)))

module _ {n : ℕ} where
  pub circle_quadrant : {p : Offset} → Circle n p → Quadrant n (nat_abs p.x) (nat_abs p.y)
  circle_quadrant {p} c = by (dec_le (nat_abs p.y) (nat_abs p.x))
    where
      l : neg_ℤ (pos (larger p)) ≼ excess n p
      l = from_≤ℤ c.low

      h : excess n p ≺ pos (larger p)
      h = from_<ℤ c.high

      by : Dec (nat_abs p.y ≤ nat_abs p.x) → Quadrant n (nat_abs p.x) (nat_abs p.y)
      by (yes g) = inl (omega (arith, l, h, excess_parts n p, negated (natural (larger p))))
      by (no f) = inr (omega (arith, l, h, excess_parts n p, negated (natural (larger p))))

  pub quadrant_circle : (p : Offset) → Quadrant n (nat_abs p.x) (nat_abs p.y) → Circle n p
  quadrant_circle p (inl h) =
      record {
        low = to_≤ℤ (neg_ℤ (pos (larger p))) (excess n p) (omega (arith, excess_parts n p, negated (natural (larger p))));
        high = to_<ℤ (excess n p) (pos (larger p)) (omega (arith, excess_parts n p));
      }
  quadrant_circle p (inr h) =
      record {
        low = to_≤ℤ (neg_ℤ (pos (larger p))) (excess n p) (omega (arith, excess_parts n p, negated (natural (larger p))));
        high = to_<ℤ (excess n p) (pos (larger p)) (omega (arith, excess_parts n p));
      }

  -- ---- the symmetries

  pub turn_circle : (p : Offset) → Circle n p → Circle n (quarter_turn p)
  turn_circle p c = quadrant_circle (quarter_turn p) (rw (abs_neg p.y) (swapped (circle_quadrant c)))

  pub unturn_circle : (p : Offset) → Circle n p → Circle n (unturn p)
  unturn_circle p c = quadrant_circle (unturn p) (rw (abs_neg p.x) (swapped (circle_quadrant c)))

  pub mirror_circle : (p : Offset) → Circle n p → Circle n (mirror p)
  mirror_circle p c = quadrant_circle (mirror p) (rw (abs_neg p.y) (circle_quadrant c))

  pub seen_circle : (turn : Turn) (p : Offset) → Circle n p → Circle n (seen turn p)
  seen_circle Clockwise p c = mirror_circle p c
  seen_circle Counterclockwise p c = c

pub turn_unturn : (p : Offset) → quarter_turn (unturn p) ≡ p
turn_unturn p = ap (λ (z : ℤ). offset z p.y) (neg_ℤ-neg_ℤ p.x)

pub seen_seen : (turn : Turn) (p : Offset) → seen turn (seen turn p) ≡ p
seen_seen Clockwise p = ap (λ (z : ℤ). offset p.x z) (neg_ℤ-neg_ℤ p.y)
seen_seen Counterclockwise p = refl

-- ---- what is on the circle, and how far out it lies

-- no circle has the centre on it
pub circle_some : {n : ℕ} {p : Offset} → Circle n p → 1 ≤ n
circle_some {n} {p} c = by (circle_quadrant c)
  where
    by : Quadrant n (nat_abs p.x) (nat_abs p.y) → 1 ≤ n
    by (inl h) = some_n h
    by (inr h) = some_n h

-- no coordinate passes the radius
pub under_radius : {n : ℕ} (p : Offset) → Circle n p → (nat_abs p.x ≤ nearest_root n) × (nat_abs p.y ≤ nearest_root n)
under_radius {n} p c = under_axis (circle_quadrant c) (nearest_axis n (circle_some c))

pub radius_bound : (n : ℕ) → 1 ≤ n → n ≤ largest_n → nearest_root n ≤ 1414214
radius_bound n s l = within_axis (nearest_axis n s) 1414214 (omega arith)

-- "its m on an axis" is the nearest root of N
pub axis_circle : (n r : ℕ) → 1 ≤ n → Circle n (offset (pos r) (pos 0)) ↔ (r ≡ nearest_root n)
axis_circle n r s =
    (λ c. axis_is (below (circle_quadrant c) (omega arith)), λ e. quadrant_circle (offset (pos r) (pos 0)) (inl (rw e (nearest_axis n s))))

-- ---- the test

pub record OnCircle (n : ℕ) (p : Offset) : Type 0 where
  pub some : 1 ≤ n
  pub bound : n ≤ largest_n
  pub circle : Circle n p

module _ (n : ℕ) (p : Offset) where
  abbrev a : ℕ
  a = nat_abs p.x

  abbrev b : ℕ
  b = nat_abs p.y

  pub on_circle_to : on_circle n p ≡ true → OnCircle n p
  unfolding on_circle
  on_circle_to e =
      let f = both e in
      let g = both f.1 in
      let h = both g.1 in
      record {
        some = leb-true 1 n f.0;
        bound = leb-true n largest_n g.0;
        circle =
            quadrant_circle p
            (by (ltb-true (a * a + b * b) (n + max a b) h.0) (leb-true n (a * a + b * b + max a b) h.1) (dec_le b a));
      }
    where
      by : a * a + b * b < n + max a b → n ≤ a * a + b * b + max a b → Dec (b ≤ a) → Quadrant n a b
      by l h (yes g) = inl (omega arith)
      by l h (no f) = inr (omega arith)

  pub on_circle_of : OnCircle n p → on_circle n p ≡ true
  unfolding on_circle
  on_circle_of o =
      joined (le-leb 1 n o.some) (joined (le-leb n largest_n o.bound) (by (circle_quadrant o.circle)))
    where
      by : Quadrant n a b → circle_test n a b ≡ true
      by (inl h) = joined (lt-ltb (a * a + b * b) (n + max a b) (omega arith)) (le-leb n (a * a + b * b + max a b) (omega arith))
      by (inr h) = joined (lt-ltb (a * a + b * b) (n + max a b) (omega arith)) (le-leb n (a * a + b * b + max a b) (omega arith))

  -- the size of both coordinates, for the arithmetic of code
  pub on_circle_small : on_circle n p ≡ true → (nat_abs p.x ≤ 1414214) × (nat_abs p.y ≤ 1414214)
  on_circle_small e =
      let o = on_circle_to e in
      omega (arith, under_radius p o.circle, radius_bound n o.some o.bound)

  pub not_on_circle : ¬ ((nat_abs p.x ≤ 1414214) × (nat_abs p.y ≤ 1414214)) → on_circle n p ≡ false
  not_on_circle far = by (on_circle n p) refl
    where
      by : (t : Bool) → on_circle n p ≡ t → t ≡ false
      by true e = absurd (far (on_circle_small e))
      by false e = refl
