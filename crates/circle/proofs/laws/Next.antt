-- The next point: from a circle point there is one and only one, and it is the step. Clockwise is its mirror image.
use Rattle.std.specs.Prelude.{◌≡◌, refl, ◌↔◌, ℕ, zero, suc, ◌+◌, ◌≤◌, ◌<◌, ℤ, pos, negsuc, neg_ℤ, nat_abs, ◌-ℤ◌}
use Rattle.std.proofs.Math.Path.{sym, ap, subst}
use Rattle.std.proofs.Common.{◌∙◌, inl, inr, mul-le-mul_left, arith, ne_eqb}
use Rattle.whole.specs.laws.Difference.{Difference, Expression, parts, negated, plus, minus, split, ring, var, num, neg, ◌⊖◌, ◌⊗◌}
use Rattle.whole.specs.laws.Order.{◌≺◌, abs_neg}
use Rattle.circle.specs.declared.plane.Offset.{Offset}
use Rattle.circle.specs.declared.plane.Turn.{Turn}
use Rattle.circle.proofs.laws.Ways.{Clockwise, Counterclockwise}
use Rattle.circle.specs.declared.quadrant.Place.{Place}
use Rattle.circle.specs.Circle.{Circle, offset}
use Rattle.circle.specs.Next.{cross, OnSide, Follows, Next}
use Rattle.circle.specs.computed.Step.{place, mirror, seen, quarter_turn, turned, point_at, place_of, first_step, next_quadrant}
use Rattle.circle.specs.computed.Step.{in_quadrant}
use Rattle.circle.specs.computed.Step.{next_place, seen_place, step_of}
use Rattle.circle.proofs.laws.Octant.{Quadrant, swapped, some, ray}
use Rattle.circle.proofs.laws.Step.{Step, step_is, stays, ahead, between, opposite}
use Rattle.circle.proofs.laws.Circle.{unturn, from_<ℤ, to_<ℤ, circle_quadrant, quadrant_circle, turn_circle, unturn_circle}
use Rattle.circle.proofs.laws.Circle.{mirror_circle, seen_circle, turn_unturn, seen_seen}

-- the other way round
abbrev pub other : Turn → Turn
other Clockwise = Counterclockwise
other Counterclockwise = Clockwise

-- ---- cross products as differences of naturals

abbrev cross_terms : Offset → Offset → Expression
cross_terms p q = var p.x ⊗ var q.y ⊖ var p.y ⊗ var q.x

cross_parts : (p q : Offset) → Difference (cross p q) (plus (cross_terms p q)) (minus (cross_terms p q))
cross_parts p q = split (cross_terms p q)

-- `Follows` counterclockwise, for `omega`
abbrev Left : Offset → Offset → Type 0
Left p q = pos 0 ≺ cross p q

left_follows : (p q : Offset) → Left p q → Follows Counterclockwise p q
left_follows p q h = to_<ℤ (pos 0) (cross p q) h

-- ---- a quarter turn of everything

turn_cross : (p q : Offset) → cross (quarter_turn p) (quarter_turn q) ≡ cross p q
turn_cross p q =
    ring (neg (var p.y) ⊗ var q.x ⊖ var p.x ⊗ neg (var q.y)) (cross_terms p q) (omega arith)

unturn_right : (p r : Offset) → cross (quarter_turn p) r ≡ cross p (unturn r)
unturn_right p r =
    ring (neg (var p.y) ⊗ var r.y ⊖ var p.x ⊗ var r.x) (var p.x ⊗ neg (var r.x) ⊖ var p.y ⊗ var r.y) (omega arith)

unturn_left : (r q : Offset) → cross r (quarter_turn q) ≡ cross (unturn r) q
unturn_left r q =
    ring (var r.x ⊗ var q.x ⊖ var r.y ⊗ neg (var q.y)) (var r.y ⊗ var q.y ⊖ neg (var r.x) ⊗ var q.x) (omega arith)

turn_next : {n : ℕ} (t : Turn) (p q : Offset) → Next n t p q → Next n t (quarter_turn p) (quarter_turn q)
turn_next t p q h = record {
  on = turn_circle q h.on;
  after = subst (OnSide t) (sym (turn_cross p q)) h.after;
  none =
      λ r c f.
      h.none (unturn r) (unturn_circle r c) (subst (OnSide t) (unturn_right p r) f.0, subst (OnSide t) (unturn_left r q) f.1);
}

next_unturn : {n : ℕ} (t : Turn) (p q : Offset) → Next n t (quarter_turn p) q → Next n t p (unturn q)
next_unturn t p q h = record {
  on = unturn_circle q h.on;
  after = subst (OnSide t) (unturn_right p q) h.after;
  none =
      λ r c f.
      h.none (quarter_turn r) (turn_circle r c)
      (subst (OnSide t) (sym (turn_cross p r)) f.0, subst (OnSide t) (sym (unturn_right r q)) f.1);
}

-- s is the next of p and the only one
pub record Sole (n : ℕ) (t : Turn) (p s : Offset) : Type 0 where
  pub is : Next n t p s
  pub only : (q : Offset) → Next n t p q → q ≡ s

turned_sole : {n : ℕ} {t : Turn} {p s : Offset} (k : ℕ) → Sole n t p s → Sole n t (turned k p) (turned k s)
turned_sole zero h = h
turned_sole {t = t} {p = p} {s = s} (suc k) h =
    let g = turned_sole k h in
    record {
      is = turn_next t (turned k p) (turned k s) g.is;
      only = λ q f. sym (turn_unturn q) ∙ ap quarter_turn (g.only (unturn q) (next_unturn t (turned k p) q f));
    }

-- ---- the first quadrant: the other point is split by its signs alone

abbrev pub first : ℕ → ℕ → Offset
first a b = offset (pos a) (pos b)

module _ {n x y : ℕ} {s : ℕ × ℕ} (c : Quadrant n x y) (st : Step n x y s) where
  nothing : (u v : ℤ) → Circle n (offset u v) → Left (first x y) (offset u v) → Left (offset u v) (first s.0 s.1) → ⊥
  nothing (pos u) (pos v) h f g =
      between c st (circle_quadrant h) (omega (arith, cross_parts (first x y) (first u v)))
      (omega (arith, cross_parts (first u v) (first s.0 s.1)))
  nothing (negsuc u) (pos v) h f g = omega (arith, cross_parts (offset (negsuc u) (pos v)) (first s.0 s.1))
  nothing (pos u) (negsuc v) h f g = omega (arith, cross_parts (first x y) (offset (pos u) (negsuc v)))
  nothing (negsuc u) (negsuc v) h f g =
      opposite (suc u) (suc v) (ahead st) (omega (arith, cross_parts (first x y) (offset (negsuc u) (negsuc v))))
      (omega (arith, cross_parts (offset (negsuc u) (negsuc v)) (first s.0 s.1)))

  next_first : Next n Counterclockwise (first x y) (first s.0 s.1)
  next_first = record {
    on = quadrant_circle (first s.0 s.1) (stays c st);
    after = left_follows (first x y) (first s.0 s.1) (omega (arith, cross_parts (first x y) (first s.0 s.1), (ahead st).left));
    none = λ r h f. nothing r.x r.y h (from_<ℤ f.0) (from_<ℤ f.1);
  }

  only_first : (u v : ℤ) → Next n Counterclockwise (first x y) (offset u v) → offset u v ≡ first s.0 s.1
  only_first u v h =
      by u v h.on (from_<ℤ h.after)
      (λ f. next_first.none (offset u v) h.on (h.after, left_follows (offset u v) (first s.0 s.1) f))
      (λ f. h.none (first s.0 s.1) next_first.on (next_first.after, left_follows (first s.0 s.1) (offset u v) f))
    where
      by : (u v : ℤ) → Circle n (offset u v) → Left (first x y) (offset u v) → ¬ Left (offset u v) (first s.0 s.1)
          → ¬ Left (first s.0 s.1) (offset u v) → offset u v ≡ first s.0 s.1
      by (pos u) (pos v) o a f g =
          let e =
          ray (circle_quadrant o) (stays c st)
          (omega (arith, cross_parts (first u v) (first s.0 s.1), cross_parts (first s.0 s.1) (first u v))) in
          cc
      by (negsuc u) (pos v) o a f g =
          absurd (omega (arith, cross_parts (first s.0 s.1) (offset (negsuc u) (pos v)), (ahead st).some_y))
      by (pos u) (negsuc v) o a f g = absurd (omega (arith, cross_parts (first x y) (offset (pos u) (negsuc v))))
      by (negsuc u) (negsuc v) o a f g =
          absurd (omega (
            arith,
            cross_parts (first x y) (offset (negsuc u) (negsuc v)),
            cross_parts (first s.0 s.1) (offset (negsuc u) (negsuc v)),
            mul-le-mul_left (suc v) (ahead st).in_x,
            mul-le-mul_left (suc u) (ahead st).up_y,
          ))

-- ---- quadrant form

-- a circle point in quadrant form
pub record On (n : ℕ) (q : Place) : Type 0 where
  pub four : q.quadrant < 4
  pub some : 1 ≤ q.along
  pub on : Quadrant n q.along q.across

pub record Form (n : ℕ) (p : Offset) (q : Place) : Type 0 where
  pub is : point_at q ≡ p
  pub on : On n q

module _ {n : ℕ} where
  form_of : (x y : ℤ) → Quadrant n (nat_abs x) (nat_abs y) → Form n (offset x y) (place_of x y)
  form_of (pos zero) (pos zero) (inl h) = absurd (omega (arith, some h))
  form_of (pos zero) (pos zero) (inr h) = absurd (omega (arith, some h))
  form_of (pos zero) (pos (suc b)) c = record { is = refl; on = record { four = omega arith; some = omega arith; on = swapped c } }
  form_of (pos (suc a)) (pos b) c = record { is = refl; on = record { four = omega arith; some = omega arith; on = c } }
  form_of (negsuc a) (pos zero) c = record { is = refl; on = record { four = omega arith; some = omega arith; on = c } }
  form_of (negsuc b) (pos (suc a)) c = record { is = refl; on = record { four = omega arith; some = omega arith; on = swapped c } }
  form_of (negsuc a) (negsuc b) c = record { is = refl; on = record { four = omega arith; some = omega arith; on = c } }
  form_of (pos zero) (negsuc a) c = record { is = refl; on = record { four = omega arith; some = omega arith; on = swapped c } }
  form_of (pos (suc b)) (negsuc a) c = record { is = refl; on = record { four = omega arith; some = omega arith; on = swapped c } }

  pub form : (p : Offset) → Circle n p → Form n p (place_of p.x p.y)
  form p c = form_of p.x p.y (circle_quadrant c)

  pub seen_form : (t : Turn) (p : Offset) → Circle n p → Form n (seen t p) (seen_place t p)
  seen_form t p c = form (seen t p) (seen_circle t p c)

-- and the form is the only one
pub place_point : (k a b : ℕ) → k < 4 → place_of (point_at (place k (suc a) b)).x (point_at (place k (suc a) b)).y ≡ place k (suc a) b
place_point zero a b l = refl
place_point (suc zero) a zero l = refl
place_point (suc zero) a (suc b) l = refl
place_point (suc (suc zero)) a zero l = refl
place_point (suc (suc zero)) a (suc b) l = refl
place_point (suc (suc (suc zero))) a zero l = refl
place_point (suc (suc (suc zero))) a (suc b) l = refl
place_point (suc (suc (suc (suc k)))) a b l = absurd (omega arith)

pub point_place : {n : ℕ} (q : Place) → On n q → place_of (point_at q).x (point_at q).y ≡ q
point_place q o = by q.quadrant q.along q.across o.four o.some
  where
    by : (k a b : ℕ) → k < 4 → 1 ≤ a → place_of (point_at (place k a b)).x (point_at (place k a b)).y ≡ place k a b
    by k zero b l s = absurd (omega arith)
    by k (suc a) b l s = place_point k a b l

-- a point of the next axis is written in the next quadrant
point_axis : (k b : ℕ) → k < 4 → point_at (place (next_quadrant k) b 0) ≡ turned k (first 0 b)
point_axis zero b l = refl
point_axis (suc zero) zero l = refl
point_axis (suc zero) (suc b) l = refl
point_axis (suc (suc zero)) zero l = refl
point_axis (suc (suc zero)) (suc b) l = refl
point_axis (suc (suc (suc zero))) zero l = refl
point_axis (suc (suc (suc zero))) (suc b) l = refl
point_axis (suc (suc (suc (suc k)))) b l = absurd (omega arith)

pub point_placed : (k : ℕ) (s : ℕ × ℕ) → k < 4 → point_at (in_quadrant k s) ≡ turned k (first s.0 s.1)
point_placed k s l = by s.0 s.1
  where
    by : (a b : ℕ) → point_at (in_quadrant k (a, b)) ≡ turned k (first a b)
    by zero b = point_axis k b l
    by (suc a) b = rw (ne_eqb (suc a) 0 (λ e. omega arith))

-- ---- the step is the sole next point

module _ {n : ℕ} where
  sole_first : (a b : ℕ) → Quadrant n a b → 1 ≤ a → Sole n Counterclockwise (first a b) (first (first_step n a b).0 (first_step n a b).1)
  sole_first a b c l = record { is = next_first c (step_is a b l); only = λ q h. only_first c (step_is a b l) q.x q.y h }

  sole_left : (p : Offset) → Circle n p → Sole n Counterclockwise p (point_at (next_place n (place_of p.x p.y)))
  unfolding next_place
  sole_left p c =
      let f = form p c in
      let q = place_of p.x p.y in
      let s = first_step n q.along q.across in
      let h : Sole n Counterclockwise (point_at q) (point_at (in_quadrant q.quadrant s)) =
      subst (λ (t : Offset). Sole n Counterclockwise (point_at q) t) (sym (point_placed q.quadrant s f.on.four))
      (turned_sole q.quadrant (sole_first q.along q.across f.on.on f.on.some))
      in
      subst (λ (t : Offset). Sole n Counterclockwise t (point_at (in_quadrant q.quadrant s))) f.is h

-- ---- clockwise, in the mirror

side_neg : (t : Turn) (z : ℤ) → OnSide t z → OnSide (other t) (neg_ℤ z)
side_neg Clockwise z h = to_<ℤ (pos 0) (neg_ℤ z) (omega (arith, from_<ℤ h, negated (parts z)))
side_neg Counterclockwise z h = to_<ℤ (neg_ℤ z) (pos 0) (omega (arith, from_<ℤ h, negated (parts z)))

-- the mirror turns every cross product over
mirror_cross : (p q : Offset) → cross (mirror p) (mirror q) ≡ neg_ℤ (cross p q)
mirror_cross p q =
    ring (var p.x ⊗ neg (var q.y) ⊖ neg (var p.y) ⊗ var q.x) (neg (cross_terms p q))
    (omega arith)

follows_mirror : (t : Turn) (p q : Offset) → Follows t p q → Follows (other t) (mirror p) (mirror q)
follows_mirror t p q h = subst (OnSide (other t)) (sym (mirror_cross p q)) (side_neg t (cross p q) h)

mirror_next : {n : ℕ} (t : Turn) (p q : Offset) → Next n t p q → Next n (other t) (mirror p) (mirror q)
mirror_next t p q h = record {
  on = mirror_circle q h.on;
  after = follows_mirror t p q h.after;
  none = λ r c f. h.none (mirror r) (mirror_circle r c) (around t p r f.0, back t r q f.1);
}
  where
    around : (t : Turn) (p r : Offset) → Follows (other t) (mirror p) r → Follows t p (mirror r)
    around Clockwise p r g =
        subst (λ (z : Offset). Follows Clockwise z (mirror r)) (seen_seen Clockwise p) (follows_mirror Counterclockwise (mirror p) r g)
    around Counterclockwise p r g =
        subst (λ (z : Offset). Follows Counterclockwise z (mirror r)) (seen_seen Clockwise p) (follows_mirror Clockwise (mirror p) r g)

    back : (t : Turn) (r q : Offset) → Follows (other t) r (mirror q) → Follows t (mirror r) q
    back Clockwise r q g =
        subst (λ (z : Offset). Follows Clockwise (mirror r) z) (seen_seen Clockwise q) (follows_mirror Counterclockwise r (mirror q) g)
    back Counterclockwise r q g =
        subst (λ (z : Offset). Follows Counterclockwise (mirror r) z) (seen_seen Clockwise q) (follows_mirror Clockwise r (mirror q) g)

module _ {n : ℕ} where
  -- from a circle point there is one next point, and it is the step
  pub sole : (t : Turn) (p : Offset) → Circle n p → Sole n t p (step_of n t p)
  unfolding step_of
  sole Counterclockwise p c = sole_left p c
  sole Clockwise p c =
      let s = sole_left (mirror p) (mirror_circle p c) in
      let e = seen_seen Clockwise p in
      let at = point_at (next_place n (seen_place Clockwise p)) in
      record {
        is = subst (λ (z : Offset). Next n Clockwise z (mirror at)) e (mirror_next Counterclockwise (mirror p) at s.is);
        only = λ q h. sym (seen_seen Clockwise q) ∙ ap mirror (s.only (mirror q) (mirror_next Clockwise p q h));
      }

  pub next_step : (t : Turn) (p q : Offset) → Circle n p → Next n t p q ↔ (q ≡ step_of n t p)
  next_step t p q c = ((sole t p c).only q, λ e. subst (Next n t p) (sym e) (sole t p c).is)

  pub step_circle : (t : Turn) (p : Offset) → Circle n p → Circle n (step_of n t p)
  step_circle t p c = (sole t p c).is.on

-- ---- a step moves each coordinate by 1 at most

pub record Close (p q : Offset) : Type 0 where
  pub near_x : nat_abs (q.x -ℤ p.x) ≤ 1
  pub near_y : nat_abs (q.y -ℤ p.y) ≤ 1

minus_neg : (x y : ℤ) → nat_abs (neg_ℤ x -ℤ neg_ℤ y) ≡ nat_abs (x -ℤ y)
minus_neg x y = ap nat_abs (ring (neg (var x) ⊖ neg (var y)) (neg (var x ⊖ var y)) (omega arith)) ∙ abs_neg (x -ℤ y)

turned_close : (k : ℕ) {p q : Offset} → Close p q → Close (turned k p) (turned k q)
turned_close zero h = h
turned_close (suc k) {p} {q} h =
    let g = turned_close k h in
    record { near_x = rw (minus_neg (turned k q).y (turned k p).y) g.near_y; near_y = g.near_x }

seen_close : (t : Turn) {p q : Offset} → Close p q → Close (seen t p) (seen t q)
seen_close Clockwise {p} {q} h = record { near_x = h.near_x; near_y = rw (minus_neg q.y p.y) h.near_y }
seen_close Counterclockwise h = h

small : {z : ℤ} {p m : ℕ} → Difference z p m → p ≤ m + 1 → m ≤ p + 1 → nat_abs z ≤ 1
small {z = pos a} h k l = omega arith
small {z = negsuc a} h k l = omega arith

module _ {n : ℕ} where
  pub step_close : (t : Turn) (p : Offset) → Circle n p → Close p (step_of n t p)
  unfolding step_of next_place
  step_close t p c =
      let q = seen_place t p in
      let f = seen_form t p c in
      let s = first_step n q.along q.across in
      let a = ahead (step_is {n = n} q.along q.across f.on.some) in
      let h : Close (first q.along q.across) (first s.0 s.1) = record {
        near_x = small (split (num s.0 ⊖ num q.along)) (omega arith) (omega arith);
        near_y = small (split (num s.1 ⊖ num q.across)) (omega arith) (omega arith);
      }
      in
      let g : Close (point_at q) (point_at (in_quadrant q.quadrant s)) =
      subst (λ (r : Offset). Close (point_at q) r) (sym (point_placed q.quadrant s f.on.four)) (turned_close q.quadrant h)
      in
      let o : Close (seen t p) (point_at (in_quadrant q.quadrant s)) =
      subst (λ (r : Offset). Close r (point_at (in_quadrant q.quadrant s))) f.is g in
      subst (λ (r : Offset). Close r (seen t (point_at (in_quadrant q.quadrant s)))) (seen_seen t p) (seen_close t o)
