-- The walk is the step repeated, and it ends after the counted cycles and not before.
use Rattle.std.specs.Prelude.{◌≡◌, ◌↔◌, ◌≢◌}
use Rattle.std.proofs.Math.Path.{refl, ap}
use Rattle.std.proofs.Common.{sym, subst, ◌∙◌, le_antisymm}
use Prim.Native.Nat.{ℕ, zero, suc, ◌+◌, ◌*◌, ◌≤◌, ◌<◌}
use native.Mathlib.Omega.{arith}
use Rattle.circle.specs.declared.plane.Offset.{Offset}
use Rattle.circle.specs.declared.plane.Turn.{Turn}
use Rattle.circle.specs.Circle.{Circle}
use Rattle.circle.specs.Next.{Next, Walk, Ends}
use Rattle.circle.specs.computed.Step.{seen, point_at, place_of, next_place, seen_place, step_of, after_of}
use Rattle.circle.specs.computed.Count.{circle_cycles}
use Rattle.circle.specs.Circle.{quarter_of}
use Rattle.circle.proofs.laws.Octant.{Axis, unless, nearest_axis}
use Rattle.circle.proofs.laws.Circle.{circle_some, seen_seen}
use Rattle.circle.proofs.laws.Next.{seen_form, point_place, sole, step_circle}
use Rattle.circle.proofs.laws.Rank.{on_next, places_range, Left, last, rest, left}

-- ---- the walk

-- the first step apart
pub after_front : (n : ℕ) (t : Turn) (p : Offset) (c : ℕ) → after_of n t p (suc c) ≡ after_of n t (step_of n t p) c
unfolding after_of
after_front n t p zero = refl
after_front n t p (suc c) = ap (step_of n t) (after_front n t p c)

module _ {n : ℕ} (t : Turn) where
  pub after_circle : (p : Offset) (c : ℕ) → Circle n p → Circle n (after_of n t p c)
  unfolding after_of
  after_circle p zero o = o
  after_circle p (suc c) o = step_circle t (after_of n t p c) (after_circle p c o)

  pub walk_to : (p : Offset) (c : ℕ) (q : Offset) → Circle n p → Walk n t p c q → q ≡ after_of n t p c
  unfolding after_of
  walk_to p zero q o w = w
  walk_to p (suc c) q o w =
      let e = walk_to p c w.0 o w.1 in
      (sole t (after_of n t p c) (after_circle p c o)).only q (subst (λ (r : Offset). Next n t r q) e w.2)

  pub walk_of : (p : Offset) (c : ℕ) → Circle n p → Walk n t p c (after_of n t p c)
  unfolding after_of
  walk_of p zero o = refl
  walk_of p (suc c) o = (after_of n t p c, walk_of p c o, (sole t (after_of n t p c) (after_circle p c o)).is)

  pub walk_after : (p : Offset) (c : ℕ) (q : Offset) → Circle n p → Walk n t p c q ↔ (q ≡ after_of n t p c)
  walk_after p c q o = (walk_to p c q o, λ e. subst (Walk n t p c) (sym e) (walk_of p c o))

-- ---- the count

-- 2 N has a nearest root, the points of a quarter
pub quarter_axis : {n : ℕ} {p : Offset} → Circle n p → Axis (2 * n) (quarter_of n)
quarter_axis {n} c = nearest_axis (2 * n) (omega (arith, circle_some c))

module _ {n : ℕ} (t : Turn) where
  -- the step in quadrant form
  pub seen_step : (p : Offset) → Circle n p → seen_place t (step_of n t p) ≡ next_place n (seen_place t p)
  unfolding step_of
  seen_step p c =
      let at = point_at (next_place n (seen_place t p)) in
      ap (λ (q : Offset). place_of q.x q.y) (seen_seen t at)
      ∙ point_place (next_place n (seen_place t p)) (on_next n (seen_place t p) (seen_form t p c).on)

  pub seen_injective : (p q : Offset) → Circle n p → Circle n q → seen_place t p ≡ seen_place t q → p ≡ q
  seen_injective p q c d e =
      let same : seen t p ≡ seen t q = sym (seen_form t p c).is ∙ ap point_at e ∙ (seen_form t q d).is in
      sym (seen_seen t p) ∙ ap (seen t) same ∙ seen_seen t q

-- the end is the next point, or one cycle fewer is left
pub data Ahead (n : ℕ) (t : Turn) (p e : Offset) : Type 0 where
  at_end_lem : step_of n t p ≡ e → circle_cycles n t p e ≡ 1 → Ahead n t p e
  goes_on : step_of n t p ≢ e → circle_cycles n t p e ≡ circle_cycles n t (step_of n t p) e + 1 → Ahead n t p e

module _ {n : ℕ} (t : Turn) (e : Offset) (on : Circle n e) where
  pub ahead : (p : Offset) → Circle n p → Ahead n t p e
  unfolding circle_cycles
  ahead p c = by (left (quarter_axis c) (seen_place t e) (seen_form t e on).on (seen_place t p) (seen_form t p c).on)
    where
      by : Left (quarter_axis c) (seen_place t e) (seen_form t e on).on (seen_place t p) → Ahead n t p e
      by (last f g) = at_end_lem (seen_injective t (step_of n t p) e (step_circle t p c) on (seen_step t p c ∙ f)) g
      by (rest f g) = goes_on (λ h. f (sym (seen_step t p c) ∙ ap (seen_place t) h)) (rw (seen_step t p c) g)

  pub cycles_range : (p : Offset) → Circle n p → (1 ≤ circle_cycles n t p e) × (circle_cycles n t p e ≤ 4 * quarter_of n)
  unfolding circle_cycles
  cycles_range p c = places_range (quarter_axis c) (seen_place t e) (seen_form t e on).on (seen_place t p) (seen_form t p c).on

  -- 1 is left exactly where the step is the end
  pub cycles_one : (p : Offset) → Circle n p → (circle_cycles n t p e ≡ 1) ↔ (step_of n t p ≡ e)
  cycles_one p c = by (ahead p c)
    where
      by : Ahead n t p e → (circle_cycles n t p e ≡ 1) ↔ (step_of n t p ≡ e)
      by (at_end_lem f g) = (λ h. f, λ h. g)
      by (goes_on f g) = (λ h. absurd (omega (arith, (cycles_range (step_of n t p) (step_circle t p c)).0)), λ h. absurd (f h))

  pub cycles_step : (p : Offset) → Circle n p → step_of n t p ≢ e → circle_cycles n t p e ≡ circle_cycles n t (step_of n t p) e + 1
  cycles_step p c f = by (ahead p c)
    where
      by : Ahead n t p e → circle_cycles n t p e ≡ circle_cycles n t (step_of n t p) e + 1
      by (at_end_lem g h) = absurd (f g)
      by (goes_on g h) = h

  reached : (c : ℕ) (p : Offset) → Circle n p → circle_cycles n t p e ≡ suc c → after_of n t p (suc c) ≡ e
  unfolding after_of
  reached zero p o h = (cycles_one p o).0 h
  reached (suc c) p o h = after_front n t p (suc c) ∙ by (ahead p o) (reached c (step_of n t p) (step_circle t p o))
    where
      by : Ahead n t p e → (circle_cycles n t (step_of n t p) e ≡ suc c → after_of n t (step_of n t p) (suc c) ≡ e)
          → after_of n t (step_of n t p) (suc c) ≡ e
      by (at_end_lem f g) k = absurd (omega arith)
      by (goes_on f g) k = k (omega arith)

  no_sooner : (c : ℕ) (p : Offset) → Circle n p → after_of n t p (suc c) ≡ e → circle_cycles n t p e ≤ suc c
  unfolding after_of
  no_sooner zero p o h = omega (arith, (cycles_one p o).1 h)
  no_sooner (suc c) p o h = by (ahead p o) (no_sooner c (step_of n t p) (step_circle t p o) (sym (after_front n t p (suc c)) ∙ h))
    where
      by : Ahead n t p e → circle_cycles n t (step_of n t p) e ≤ suc c → circle_cycles n t p e ≤ suc (suc c)
      by (at_end_lem f g) k = omega arith
      by (goes_on f g) k = omega arith

  -- the end is reached at the counted cycle
  pub after_cycles : (p : Offset) → Circle n p → after_of n t p (circle_cycles n t p e) ≡ e
  after_cycles p o = by (circle_cycles n t p e) refl
    where
      by : (d : ℕ) → circle_cycles n t p e ≡ d → after_of n t p d ≡ e
      by zero h = absurd (omega (arith, (cycles_range p o).0))
      by (suc d) h = reached d p o h

  pub ends : (p : Offset) → Circle n p → Ends n t p e (circle_cycles n t p e)
  ends p o =
      record {
        some = (cycles_range p o).0;
        there = subst (Walk n t p (circle_cycles n t p e)) (after_cycles p o) (walk_of t p (circle_cycles n t p e) o);
        first = early;
      }
    where
      early : (c : ℕ) → 1 ≤ c → c < circle_cycles n t p e → ¬ Walk n t p c e
      early zero l h w = omega arith
      early (suc c) l h w = omega (arith, no_sooner c p o (sym (walk_to t p (suc c) e o w)))

-- the end is reached first at one number of cycles only
ends_once : {n : ℕ} {t : Turn} {p e : Offset} (d c : ℕ) → Ends n t p e d → Ends n t p e c → d ≡ c
ends_once d c x y = le_antisymm (unless (λ g. x.first c y.some g y.there)) (unless (λ g. y.first d x.some g x.there))

pub ends_cycles : {n : ℕ} (t : Turn) (p e : Offset) (d : ℕ) → Circle n p → Circle n e → Ends n t p e d ↔ (d ≡ circle_cycles n t p e)
ends_cycles {n} t p e d o on =
    (λ h. ends_once d (circle_cycles n t p e) h (ends t e on p o), λ h. subst (Ends n t p e) (sym h) (ends t e on p o))
