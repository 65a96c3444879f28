-- The travel test says that the point and every point still to visit are inside, and a step keeps it.
--
-- Why: between start and end the circle reaches furthest on the axes that it passes, and before the first and past the last of them at the
-- start and the end themselves. So the test asks for these points alone; `Travel` proves in quadrant form that they are enough and needed.
-- Here that is said of points: a quarter turn of the point is one of the room the other way (`turned_inside`), the mirror turns the room
-- over (`seen_inside`), and the axis point is within E exactly where N ≤ E² + E (`reaches_fits`). Then the walk is followed step by step,
-- to the end (`visits`) and back (`visits_back`).
use Rattle.std.specs.Prelude.{◌≡◌, ◌⊎◌, ◌↔◌, ◌≢◌, Bool, T, ℤ, pos, negsuc, neg_ℤ, ◌≤ℤ◌}
use Rattle.std.proofs.Math.Path.{refl, subst}
use Rattle.std.proofs.Common.{sym, ap, ◌∙◌, inl, inr, arith, leb-true, le-leb}
use Rattle.std.proofs.Math.Bool.{true, false, cond}
use Prim.Native.Nat.{ℕ, zero, suc, ◌+◌, ◌*◌, ◌≤◌, ◌<◌}
use Rattle.std.proofs.Math.Dec.{leb}
use Rattle.std.proofs.Math.IntN.{neg_ℤ-neg_ℤ}
use Rattle.std.specs.Int.{int_min}
use Rattle.std.specs.Int.Signed.{lt_z, le_z}
use Rattle.whole.specs.Root.{nearest_root}
use Rattle.whole.specs.laws.Difference.{natural, negated}
use Rattle.whole.specs.laws.Order.{◌≼◌, from_≤ℤ, to_≤ℤ, lt_z_true, lt_z_false, le_z_true, le_z_false, abs_is, abs_neg}
use Rattle.whole.specs.laws.Test.{both, joined}
use Rattle.circle.specs.declared.plane.Offset.{Offset}
use Rattle.circle.specs.declared.plane.Turn.{Turn}
use Rattle.circle.specs.declared.plane.Turn.TheVariants.{Clockwise, Counterclockwise}
use Rattle.circle.specs.declared.quadrant.Place.{Place}
use Rattle.circle.specs.Circle.{Circle, offset}
use Rattle.circle.specs.Next.{Walk, ToVisit}
use Rattle.circle.specs.computed.Step.{seen, quarter_turn, turned, point_at, next_place, seen_place, step_of, after_of}
use Rattle.circle.specs.computed.Count.{onward, circle_cycles}
use Rattle.circle.specs.Circle.{quarter_of}
use Rattle.circle.proofs.laws.Octant.{Axis, nearest_axis, axis_within, within_axis}
use Rattle.circle.proofs.laws.Circle.{circle_some, under_radius}
use Rattle.circle.proofs.laws.Next.{On, seen_form, step_circle}
use Rattle.circle.proofs.laws.Walk.{quarter_axis, seen_step, seen_injective, after_front, walk_to, walk_of, Ahead, at_end_lem, goes_on}
use Rattle.circle.proofs.laws.Walk.{ahead}
use Rattle.circle.proofs.laws.Walk.{cycles_range, ends, ends_cycles}
use Rattle.clearance.specs.declared.Room.{Room}
use Rattle.clearance.specs.computed.Inside.{Inside}
use Rattle.clearance.specs.computed.Travel.{below_test, inside_test, reaches, axes_passed, axis_test, axes_test, way_inside, seen_room}
use Rattle.clearance.specs.computed.Travel.{stays_inside, smaller_of}
use Rattle.clearance.specs.laws.Travel.{Fits, rotated, facing, Held, In, Safe, next_in, next_safe, safe_back, passes, passes_back}

-- ---- inside, as a test and in quadrant form

le_test : {x y : ℤ} → le_z x y ≡ true → x ≤ℤ y
le_test e = record { le = subst T (sym e) tt }

test_le : {x y : ℤ} → x ≤ℤ y → le_z x y ≡ true
test_le {x} {y} h = by (le_z x y) h.le
  where
    by : (t : Bool) → T t → t ≡ true
    by true g = refl
    by false g = absurd g

pub inside_test_lem : (room : Room) (p : Offset) → (inside_test room p ≡ true) ↔ Inside room p
unfolding inside_test below_test
inside_test_lem room p = (to, of)
  where
    to : inside_test room p ≡ true → Inside room p
    to e =
        let f = both e in
        let g = both f.0 in
        let h = both f.1 in
        record { right = le_test g.0; up = le_test g.1; left = le_test h.0; down = le_test h.1 }

    of : Inside room p → inside_test room p ≡ true
    of h = joined (joined (test_le h.right) (test_le h.up)) (joined (test_le h.left) (test_le h.down))

-- a quarter turn of the point is one of the room, the other way
turn_inside : (room : Room) (p : Offset) → Inside room (quarter_turn p) ↔ Inside (rotated room) p
turn_inside room p = (
  λ h. record { right = h.up; up = subst (λ (z : ℤ). z ≤ℤ room.left) (neg_ℤ-neg_ℤ p.y) h.left; left = h.down; down = h.right },
  λ h.
      record { right = h.down; up = h.right; left = subst (λ (z : ℤ). z ≤ℤ room.left) (sym (neg_ℤ-neg_ℤ p.y)) h.up; down = h.left },
)

facing_rotated : (k : ℕ) (room : Room) → facing k (rotated room) ≡ rotated (facing k room)
unfolding facing
facing_rotated zero room = refl
facing_rotated (suc k) room = ap rotated (facing_rotated k room)

turned_inside : (k : ℕ) (room : Room) (p : Offset) → Inside room (turned k p) ↔ Inside (facing k room) p
unfolding facing
turned_inside zero room p = (λ h. h, λ h. h)
turned_inside (suc k) room p = (
  λ h. subst (λ (r : Room). Inside r p) (facing_rotated k room)
      ((turned_inside k (rotated room) p).0 ((turn_inside room (turned k p)).0 h)),
  λ h.
      (turn_inside room (turned k p)).1
      ((turned_inside k (rotated room) p).1 (subst (λ (r : Room). Inside r p) (sym (facing_rotated k room)) h)),
)

first_inside : (room : Room) (a b : ℕ) → Inside room (offset (pos a) (pos b)) ↔ Held room a b
first_inside room a b = (to, of)
  where
    to : Inside room (offset (pos a) (pos b)) → Held room a b
    to h =
        record {
          right = omega (arith, from_≤ℤ h.right);
          up = omega (arith, from_≤ℤ h.up);
          left = omega (arith, from_≤ℤ h.left, negated (natural a));
          down = omega (arith, from_≤ℤ h.down, negated (natural b));
        }

    of : Held room a b → Inside room (offset (pos a) (pos b))
    of h =
        record {
          right = to_≤ℤ (pos a) room.right (omega arith);
          up = to_≤ℤ (pos b) room.up (omega arith);
          left = to_≤ℤ (neg_ℤ (pos a)) room.left (omega (arith, negated (natural a)));
          down = to_≤ℤ (neg_ℤ (pos b)) room.down (omega (arith, negated (natural b)));
        }

place_inside : (room : Room) (q : Place) → Inside room (point_at q) ↔ In room q
place_inside room q =
    let t = turned_inside q.quadrant room (offset (pos q.along) (pos q.across)) in
    let f = first_inside (facing q.quadrant room) q.along q.across in
    (λ h. f.0 (t.0 h), λ h. t.1 (f.1 h))

-- the mirror turns the room over
seen_inside : (t : Turn) (room : Room) (p : Offset) → Inside room p ↔ Inside (seen_room t room) (seen t p)
seen_inside Clockwise room p = (
  λ h. record { right = h.right; up = h.down; left = h.left; down = subst (λ (z : ℤ). z ≤ℤ room.up) (sym (neg_ℤ-neg_ℤ p.y)) h.up },
  λ h. record { right = h.right; up = subst (λ (z : ℤ). z ≤ℤ room.up) (neg_ℤ-neg_ℤ p.y) h.down; left = h.left; down = h.up },
)
seen_inside Counterclockwise room p = (λ h. h, λ h. h)

-- ---- the axes

reaches_fits : {N R : ℕ} (r : Axis N R) (z : ℤ) → (reaches N z ≡ true) ↔ Fits R z
unfolding reaches
reaches_fits {N} {R} r (pos E) =
    (λ e. omega (arith, within_axis r E (leb-true N (E * E + E) e)), λ f. le-leb N (E * E + E) (axis_within r E (omega arith)))
reaches_fits r (negsuc E) = (λ e. absurd (subst T (sym e) tt), λ f. absurd (omega arith))

module _ {N R : ℕ} (r : Axis N R) (passed from : ℕ) where
  axis_to : (i : ℕ) (z : ℤ) → axis_test N passed from i z ≡ true → onward 4 from i ≤ passed → Fits R z
  unfolding axis_test
  axis_to i z e l = (reaches_fits r z).0 (rw (le-leb (onward 4 from i) passed l) at e)

  axis_of : (i : ℕ) (z : ℤ) → (onward 4 from i ≤ passed → Fits R z) → axis_test N passed from i z ≡ true
  unfolding axis_test
  axis_of i z f = by (leb (onward 4 from i) passed) refl
    where
      by : (t : Bool) → leb (onward 4 from i) passed ≡ t → cond t (reaches N z) true ≡ true
      by true e = (reaches_fits r z).1 (f (leb-true (onward 4 from i) passed e))
      by false e = refl

  abbrev Clear : ℕ → ℤ → Type 0
  Clear i z = axis_test N passed from i z ≡ true

  four : (room : Room) → axes_test room N passed from ≡ true
      → Clear 0 room.right × Clear 1 room.up × Clear 2 room.left × Clear 3 room.down
  unfolding axes_test
  four room e =
      let f = both e in
      let g = both f.1 in
      let h = both g.1 in
      (f.0, g.0, h.0, h.1)

  axes_to : (room : Room) → axes_test room N passed from ≡ true → (i : ℕ) → i < 4 → onward 4 from i ≤ passed → Fits R (facing i room).right
  unfolding facing
  axes_to room e zero l = axis_to 0 room.right (four room e).0
  axes_to room e (suc zero) l = axis_to 1 room.up (four room e).1
  axes_to room e (suc (suc zero)) l = axis_to 2 room.left (four room e).2
  axes_to room e (suc (suc (suc zero))) l = axis_to 3 room.down (four room e).3
  axes_to room e (suc (suc (suc (suc i)))) l = absurd (omega arith)

  axes_of : (room : Room) → ((i : ℕ) → i < 4 → onward 4 from i ≤ passed → Fits R (facing i room).right)
      → axes_test room N passed from ≡ true
  unfolding axes_test facing
  axes_of room f =
      joined (axis_of 0 room.right (f 0 (omega arith)))
      (joined (axis_of 1 room.up (f 1 (omega arith)))
      (joined (axis_of 2 room.left (f 2 (omega arith))) (axis_of 3 room.down (f 3 (omega arith)))))

-- ---- the test

module _ {N : ℕ} (t : Turn) (room : Room) (e : Offset) (on : Circle N e) (p : Offset) (c : Circle N p) where
  abbrev Q : ℕ
  Q = quarter_of N

  abbrev R : ℕ
  R = nearest_root N

  q : Axis (2 * N) Q
  q = quarter_axis c

  r : Axis N R
  r = nearest_axis N (circle_some c)

  abbrev E : Room
  E = seen_room t room

  abbrev SafeWay : Type 0
  SafeWay = Safe E R Q (seen_place t p) (seen_place t e)

  op : On N (seen_place t p)
  op = (seen_form t p c).on

  oe : On N (seen_place t e)
  oe = (seen_form t e on).on

  in_to : (a : Offset) → Circle N a → Inside E (seen t a) → In E (seen_place t a)
  in_to a ca h = (place_inside E (seen_place t a)).0 (subst (Inside E) (sym (seen_form t a ca).is) h)

  in_of : (a : Offset) → Circle N a → In E (seen_place t a) → Inside E (seen t a)
  in_of a ca h = subst (Inside E) (seen_form t a ca).is ((place_inside E (seen_place t a)).1 h)

  safe_to : stays_inside room N t p e ≡ true → SafeWay
  unfolding stays_inside way_inside
  safe_to h =
      let f = both h in
      let g = both f.1 in
      record {
        here = in_to p c ((inside_test_lem E (seen t p)).0 f.0);
        there = in_to e on ((inside_test_lem E (seen t e)).0 g.0);
        axes =
            λ i l k.
            axes_to r (axes_passed (seen_place t p) (seen_place t e)) (seen_place t p).quadrant E g.1 i l
            (passes q (seen_place t p) (seen_place t e) op oe i l k);
      }

  safe_of : SafeWay → stays_inside room N t p e ≡ true
  unfolding stays_inside way_inside
  safe_of s =
      joined ((inside_test_lem E (seen t p)).1 (in_of p c s.here))
      (joined ((inside_test_lem E (seen t e)).1 (in_of e on s.there))
      (axes_of r (axes_passed (seen_place t p) (seen_place t e)) (seen_place t p).quadrant E
      (λ i l k. s.axes i l (passes_back q (seen_place t p) (seen_place t e) op oe i l k))))

  -- ---- one step

  abbrev S : Place
  S = next_place N (seen_place t p)

  abbrev EndsAt : Type 0
  EndsAt = S ≡ seen_place t e

  cs : Circle N (step_of N t p)
  cs = step_circle t p c

  -- the step is inside
  pub stays_next : stays_inside room N t p e ≡ true → Inside room (step_of N t p)
  stays_next h =
      let i : In E S = next_in q r E (seen_place t e) oe (seen_place t p) op (safe_to h) in
      (seen_inside t room (step_of N t p)).1 (in_of (step_of N t p) cs (subst (In E) (sym (seen_step t p c)) i))

  -- p itself is inside
  pub stays_here : stays_inside room N t p e ≡ true → Inside room p
  stays_here h = (seen_inside t room p).1 (in_of p c (safe_to h).here)

  next_safe_way : stays_inside room N t p e ≡ true → ¬ EndsAt → Safe E R Q S (seen_place t e)
  next_safe_way h f = next_safe q r E (seen_place t e) oe (seen_place t p) op (safe_to h) f

  back_safe_way : Inside room p → Inside room (step_of N t p) → EndsAt ⊎ Safe E R Q S (seen_place t e) → stays_inside room N t p e ≡ true
  back_safe_way x y d =
      let here = in_to p c ((seen_inside t room p).0 x) in
      let there : In E S = subst (In E) (seen_step t p c) (in_to (step_of N t p) cs ((seen_inside t room (step_of N t p)).0 y)) in
      safe_of (safe_back q r E (seen_place t e) oe (seen_place t p) op here there d)

module _ {N : ℕ} (t : Turn) (room : Room) (e : Offset) (on : Circle N e) where
  abbrev SafeFrom : Place → Type 0
  SafeFrom z = Safe (seen_room t room) (nearest_root N) (quarter_of N) z (seen_place t e)

  module _ (p : Offset) (c : Circle N p) where
    -- from the step on the way stays inside
    pub stays_step : stays_inside room N t p e ≡ true → step_of N t p ≢ e → stays_inside room N t (step_of N t p) e ≡ true
    stays_step h f =
        let g =
        next_safe_way t room e on p c h (λ k. f (seen_injective t (step_of N t p) e (step_circle t p c) on (seen_step t p c ∙ k))) in
        safe_of t room e on (step_of N t p) (step_circle t p c) (subst SafeFrom (sym (seen_step t p c)) g)

    -- and the other way round
    stays_back : Inside room p → Inside room (step_of N t p) → (step_of N t p ≡ e) ⊎ (stays_inside room N t (step_of N t p) e ≡ true)
        → stays_inside room N t p e ≡ true
    stays_back x y d = back_safe_way t room e on p c x y (by d)
      where
        by : (step_of N t p ≡ e) ⊎ (stays_inside room N t (step_of N t p) e ≡ true)
            → (next_place N (seen_place t p) ≡ seen_place t e) ⊎ SafeFrom (next_place N (seen_place t p))
        by (inl f) = inl (sym (seen_step t p c) ∙ ap (seen_place t) f)
        by (inr s) = inr (subst SafeFrom (seen_step t p c) (safe_to t room e on (step_of N t p) (step_circle t p c) s))

  -- ---- all the way

  visits : (c : ℕ) (p : Offset) → Circle N p → stays_inside room N t p e ≡ true → c < circle_cycles N t p e
      → Inside room (after_of N t p (suc c))
  unfolding after_of
  visits zero p o h l = stays_next t room e on p o h
  visits (suc c) p o h l =
      subst (Inside room) (sym (after_front N t p (suc c)))
      (by (ahead t e on p o) (λ f. visits c (step_of N t p) (step_circle t p o) (stays_step p o h f)))
    where
      by : Ahead N t p e → (step_of N t p ≢ e → c < circle_cycles N t (step_of N t p) e
          → Inside room (after_of N t (step_of N t p) (suc c)))
          → Inside room (after_of N t (step_of N t p) (suc c))
      by (at_end_lem f g) k = absurd (omega arith)
      by (goes_on f g) k = k f (omega arith)

  visits_back : (c : ℕ) (p : Offset) → Circle N p → circle_cycles N t p e ≡ suc c → Inside room p
      → ((j : ℕ) → j ≤ c → Inside room (after_of N t p (suc j))) → stays_inside room N t p e ≡ true
  unfolding after_of
  visits_back zero p o h x y = by (ahead t e on p o)
    where
      by : Ahead N t p e → stays_inside room N t p e ≡ true
      by (at_end_lem f g) = stays_back p o x (y 0 (omega arith)) (inl f)
      by (goes_on f g) = absurd (omega (arith, (cycles_range t e on (step_of N t p) (step_circle t p o)).0))
  visits_back (suc c) p o h x y =
      by (ahead t e on p o)
      (λ g.
      visits_back c (step_of N t p) (step_circle t p o) g (y 0 (omega arith))
      (λ j l. subst (Inside room) (after_front N t p (suc j)) (y (suc j) (omega arith))))
    where
      by : Ahead N t p e → (circle_cycles N t (step_of N t p) e ≡ suc c → stays_inside room N t (step_of N t p) e ≡ true)
          → stays_inside room N t p e ≡ true
      by (at_end_lem f g) k = absurd (omega arith)
      by (goes_on f g) k = stays_back p o x (y 0 (omega arith)) (inr (k (omega arith)))

-- the test is document 01's "every point still to visit in travel"
pub stays_inside_lem : {N : ℕ} (t : Turn) (room : Room) (p e : Offset) → Circle N p → Circle N e
    → (stays_inside room N t p e ≡ true) ↔ (Inside room p × ((q : Offset) → ToVisit N t p e q → Inside room q))
stays_inside_lem {N} t room p e c on = (λ h. (stays_here t room e on p c h, to h), λ h. of h.0 h.1)
  where
    at : (h : stays_inside room N t p e ≡ true) (k : ℕ) (q : Offset) → 1 ≤ k → k ≤ circle_cycles N t p e → Walk N t p k q → Inside room q
    at h zero q b l w = absurd (omega arith)
    at h (suc k) q b l w = subst (Inside room) (sym (walk_to t p (suc k) q c w)) (visits t room e on k p c h (omega arith))

    to : stays_inside room N t p e ≡ true → (q : Offset) → ToVisit N t p e q → Inside room q
    to h q v = at h v.cycle q v.begun (omega (arith, (ends_cycles t p e v.cycles c on).0 v.ends)) v.walk

    of : Inside room p → ((q : Offset) → ToVisit N t p e q → Inside room q) → stays_inside room N t p e ≡ true
    of x f = by (circle_cycles N t p e) refl
      where
        by : (k : ℕ) → circle_cycles N t p e ≡ k → stays_inside room N t p e ≡ true
        by zero h = absurd (omega (arith, (cycles_range t e on p c).0))
        by (suc k) h =
            visits_back t room e on k p c h x
            (λ j l.
            f (after_of N t p (suc j))
            (record {
              cycles = circle_cycles N t p e;
              ends = ends t e on p c;
              cycle = suc j;
              begun = omega arith;
              within = omega arith;
              walk = walk_of t p (suc j) c;
            }))

-- ---- a room whose least side reaches the circle: every circle point is inside, and so is every way

smaller_both : (a b : ℤ) → (smaller_of a b ≼ a) × (smaller_of a b ≼ b)
smaller_both a b = by (le_z a b) refl
  where
    by : (t : Bool) → le_z a b ≡ t → (cond t a b ≼ a) × (cond t a b ≼ b)
    by true e = omega (arith, le_z_true a b e)
    by false e = omega (arith, le_z_false a b e)

-- the library's smaller number
pub smaller_library : (a b : ℤ) → int_min a b ≡ smaller_of a b
smaller_library a b = by (lt_z b a) (le_z a b) refl refl
  where
    by : (l m : Bool) → lt_z b a ≡ l → le_z a b ≡ m → cond l b a ≡ cond m a b
    by true true d e = absurd (omega (arith, lt_z_true b a d, le_z_true a b e))
    by true false d e = refl
    by false true d e = refl
    by false false d e = absurd (omega (arith, lt_z_false b a d, le_z_false a b e))

abbrev pub least_side : Room → ℤ
least_side room = smaller_of (smaller_of room.right room.left) (smaller_of room.up room.down)

pub surrounding : (N : ℕ) (room : Room) → reaches N (least_side room) ≡ true → (p : Offset) → Circle N p → Inside room p
surrounding N room h p c =
    let f : Fits (nearest_root N) (least_side room) = (reaches_fits (nearest_axis N (circle_some c)) (least_side room)).0 h in
    let l = smaller_both (smaller_of room.right room.left) (smaller_of room.up room.down) in
    let x = smaller_both room.right room.left in
    let y = smaller_both room.up room.down in
    let u = under_radius p c in
    record {
      right = to_≤ℤ p.x room.right (omega (arith, abs_is p.x));
      up = to_≤ℤ p.y room.up (omega (arith, abs_is p.y));
      left = to_≤ℤ (neg_ℤ p.x) room.left (omega (arith, abs_is (neg_ℤ p.x), abs_neg p.x));
      down = to_≤ℤ (neg_ℤ p.y) room.down (omega (arith, abs_is (neg_ℤ p.y), abs_neg p.y));
    }

pub surrounded : {N : ℕ} (t : Turn) (room : Room) (p e : Offset) → Circle N p → Circle N e → ((q : Offset) → Circle N q → Inside room q)
    → stays_inside room N t p e ≡ true
surrounded {N} t room p e c on f = (stays_inside_lem t room p e c on).1 (f p c, λ q v. f q (at v.cycle q v.begun v.walk))
  where
    at : (k : ℕ) (q : Offset) → 1 ≤ k → Walk N t p k q → Circle N q
    at zero q b w = absurd (omega arith)
    at (suc k) q b w = w.2.on
