-- In travel, as an order that `omega` reads.
use Rattle.std.specs.Prelude.{◌≡◌, refl, ◌⊎◌, ℕ, zero, suc, ◌≤◌, ◌<◌, true, ℤ, pos, negsuc, nat_abs}
use Rattle.std.proofs.Common.{inl, inr, eq-or-lt_of_le, le_of_suc-le-suc, arith}
use Rattle.whole.specs.laws.Order.{◌≼◌, abs_is, le_z_true, ≼_le_z}
use Rattle.whole.specs.laws.Test.{both, joined}
use Rattle.plane.specs.declared.point.Point.{Point}
use Rattle.plane.specs.declared.travel.Range.{Range}
use Rattle.plane.specs.declared.travel.Travel.{Travel}
use Rattle.plane.specs.Point.{Near}
use Rattle.plane.specs.Travel.{within_of, inside_of, visits_inside}
use Rattle.plane.specs.computed.Travel.{Wide}

pub record InRange (r : Range) (v : ℤ) : Type 0 where
  pub above : r.lower ≼ v
  pub below : v ≼ r.upper

pub record Bounded (t : Travel) (p : Point) : Type 0 where
  pub x : InRange t.x p.x
  pub y : InRange t.y p.y

-- the test and the facts
pub within : {r : Range} {v : ℤ} → within_of r v ≡ true → InRange r v
unfolding within_of
within {r} {v} e = let t = both e in record { above = le_z_true r.lower v t.0; below = le_z_true v r.upper t.1 }

pub within_test : {r : Range} {v : ℤ} → InRange r v → within_of r v ≡ true
unfolding within_of
within_test {r} {v} w = joined (≼_le_z r.lower v w.above) (≼_le_z v r.upper w.below)

pub inside : {t : Travel} {p : Point} → inside_of t p ≡ true → Bounded t p
unfolding inside_of
inside e = let b = both e in record { x = within b.0; y = within b.1 }

pub inside_test_lem : {t : Travel} {p : Point} → Bounded t p → inside_of t p ≡ true
unfolding inside_of
inside_test_lem i = joined (within_test i.x) (within_test i.y)

-- a point in a travel that is wide enough for 01
pub axis_near : (lower upper z : ℤ) → nat_abs lower ≤ 1000000 → nat_abs upper ≤ 1000000 → lower ≼ z → z ≼ upper → nat_abs z ≤ 1000000
axis_near lower upper (pos a) h k l m = omega (arith, abs_is upper)
axis_near lower upper (negsuc a) h k l m = omega (arith, abs_is lower)

pub travel_near : {t : Travel} {p : Point} → Wide t → Bounded t p → Near 1000000 p
travel_near {t} {p} w i = record {
  x = axis_near t.x.lower t.x.upper p.x w.x_lower w.x_upper i.x.above i.x.below;
  y = axis_near t.y.lower t.y.upper p.y w.y_lower w.y_upper i.y.above i.y.below;
}

-- every visited point, one by one
pub visits : (t : Travel) (path : ℕ → Point) (n : ℕ) → visits_inside t path n ≡ true → (c : ℕ) → 1 ≤ c → c ≤ n → Bounded t (path c)
unfolding visits_inside
visits t path zero e c some most = absurd (omega arith)
visits t path (suc n) e c some most = by (both e) (λ h l. visits t path n h c some (le_of_suc-le-suc l)) (eq-or-lt_of_le most)
  where
    by : (visits_inside t path n ≡ true) × (inside_of t (path (suc n)) ≡ true)
        → (visits_inside t path n ≡ true → c < suc n → Bounded t (path c)) → (c ≡ suc n) ⊎ (c < suc n) → Bounded t (path c)
    by b earlier (inl q) = rw q (inside b.1)
    by b earlier (inr l) = earlier b.0 l

pub visits_test : (t : Travel) (path : ℕ → Point) (n : ℕ) → ((c : ℕ) → 1 ≤ c → c ≤ n → Bounded t (path c)) → visits_inside t path n ≡ true
unfolding visits_inside
visits_test t path zero f = refl
visits_test t path (suc n) f = joined (visits_test t path n (λ c s m. f c s (omega arith))) (inside_test_lem
    (f (suc n) (omega arith) (omega arith)))
