-- The stepper computes the step: its carried excess decides each test as the products do.
use Rattle.std.specs.Prelude.{◌≡◌, refl, Bool, true, false, cond, ℕ, zero, suc, ◌+◌, ◌-◌, ◌*◌, ◌≤◌, ◌<◌, max, leb, ltb, eqb, ℤ, neg_ℤ}
use Rattle.std.specs.Prelude.{nat_abs, ◌-ℤ◌}
use Rattle.std.proofs.Common.{sym, ap, subst, ◌∙◌, inl, inr, arith, ltb-true, ltb-false, leb-true, leb-false, lt-ltb, le-ltb, le-leb}
use Rattle.std.proofs.Common.{eqb-true}
use Rattle.std.proofs.lemmas.Bool.{lt-leb}
use Rattle.whole.specs.laws.Difference.{ring, var, num, neg, ◌⊖◌}
use Rattle.circle.specs.declared.plane.Offset.{Offset}
use Rattle.circle.specs.declared.plane.Turn.{Turn}
use Rattle.circle.proofs.laws.Ways.{Clockwise, Counterclockwise}
use Rattle.circle.specs.declared.quadrant.Place.{Place}
use Rattle.circle.specs.declared.step.Move.{Move}
use Rattle.circle.specs.declared.step.Move.TheVariants.{Rise, Slant, Fall}
use Rattle.circle.specs.declared.step.Stepper.{Stepper}
use Rattle.circle.specs.Circle.{largest_n, on_circle, offset}
use Rattle.circle.specs.computed.Step.{place, seen, turned, point_at, first_step, in_quadrant, next_quadrant, next_place, seen_place}
use Rattle.circle.specs.computed.Step.{step_of}
use Rattle.circle.specs.computed.Step.{after_of}
use Rattle.circle.specs.computed.Stepper.{bias, carry, enter_of, leave_of, pick, move_of, moved, brought_on, advanced_by, quadrant_pulse}
use Rattle.circle.specs.computed.Stepper.{step_pulse, Entered}
use Rattle.circle.specs.computed.Asked.{Takes, Movable}
use Rattle.circle.proofs.laws.Octant.{Quadrant, under_axis, nearest_axis}
use Rattle.circle.proofs.laws.Circle.{on_circle_to, on_circle_of, radius_bound, seen_seen}
use Rattle.circle.proofs.laws.Next.{On, seen_form, first, point_placed, step_circle}
use Rattle.circle.proofs.laws.Walk.{seen_step}

-- ---- what a stepper on the circle holds

abbrev pub squares : ℕ → ℕ → ℕ
squares a b = a * a + b * b

-- the stepper of a place
abbrev pub at_place : ℕ → Turn → Place → Stepper
at_place n t q = carry t q (squares q.along q.across + bias - n)

pub record Bounds (s : Stepper) : Type 0 where
  pub four : s.quadrant < 4
  pub some : 1 ≤ s.along
  pub along : s.along ≤ 1414214
  pub across : s.across ≤ 1414214
  pub low : 585786 ≤ s.excess
  pub high : s.excess ≤ 3414214

-- n is within a coordinate of the squares
near : {n a b : ℕ} → Quadrant n a b → (n ≤ squares a b + max a b) × (squares a b ≤ n + max a b)
near (inl o) = omega arith
near (inr o) = omega arith

place_bounds : {n : ℕ} (t : Turn) (q : Place) → 1 ≤ n → n ≤ largest_n → On n q → Bounds (at_place n t q)
place_bounds {n} t q s l o =
    let u = under_axis o.on (nearest_axis n s) in
    let r = radius_bound n s l in
    let m = near o.on in
    record { four = o.four; some = o.some; along = omega arith; across = omega arith; low = omega arith; high = omega arith }

pub enter_bounds : (n : ℕ) (t : Turn) (p : Offset) → on_circle n p ≡ true → Bounds (enter_of n t p)
unfolding enter_of
enter_bounds n t p e = let o = on_circle_to n p e in place_bounds t (seen_place t p) o.some o.bound (seen_form t p o.circle).on

pub entered_bounds : {s : Stepper} → Entered s → Bounds s
entered_bounds {s} h = subst Bounds (sym h.is) (enter_bounds h.square s.turn h.point h.on)

-- ---- the move, by the products and by the excess

pub data Moves (n : ℕ) : (a b : ℕ) → Move → ℕ × ℕ → Type 0 where
  rises : {a b : ℕ} → Moves n a b Rise (a, b + 1)
  slants : {a b : ℕ} → Moves n (suc a) b Slant (a, b + 1)
  falls : {a b : ℕ} → Moves n (suc a) b Fall (a, b)

module _ (n a b e : ℕ) (h : e + n ≡ squares a b + bias) where
  same_low : ltb (e + 2 * b + 1) (bias + a) ≡ ltb (squares a b + 2 * b + 1) (n + a)
  same_low = by (ltb (squares a b + 2 * b + 1) (n + a)) refl
    where
      by : (t : Bool) → ltb (squares a b + 2 * b + 1) (n + a) ≡ t → ltb (e + 2 * b + 1) (bias + a) ≡ t
      by true g = lt-ltb (e + 2 * b + 1) (bias + a) (omega (arith, ltb-true (squares a b + 2 * b + 1) (n + a) g))
      by false g = le-ltb (e + 2 * b + 1) (bias + a) (omega (arith, ltb-false (squares a b + 2 * b + 1) (n + a) g))

  same_high : leb (bias + 2 * a) (e + b + 1) ≡ leb (n + 2 * a) (squares a b + b + 1)
  same_high = by (leb (n + 2 * a) (squares a b + b + 1)) refl
    where
      by : (t : Bool) → leb (n + 2 * a) (squares a b + b + 1) ≡ t → leb (bias + 2 * a) (e + b + 1) ≡ t
      by true g = le-leb (bias + 2 * a) (e + b + 1) (omega (arith, leb-true (n + 2 * a) (squares a b + b + 1) g))
      by false g = lt-leb (bias + 2 * a) (e + b + 1) (omega (arith, leb-false (n + 2 * a) (squares a b + b + 1) g))

moves : (n : ℕ) (t : Turn) (k a b e : ℕ) → e + n ≡ squares (suc a) b + bias
    → Moves n (suc a) b (move_of (carry t (place k (suc a) b) e)) (first_step n (suc a) b)
unfolding move_of first_step
moves n t k a b e h =
    let less : suc a - 1 ≡ a = omega arith in
    rw (less, same_low n (suc a) b e h, same_high n (suc a) b e h)
    (by (ltb b (suc a)) (ltb (squares (suc a) b + 2 * b + 1) (n + suc a)) (leb (n + 2 * suc a) (squares (suc a) b + b + 1)))
  where
    by : (t u v : Bool)
        → Moves n (suc a) b (pick t (pick u Rise Slant) (pick v Fall Slant))
        (cond t (cond u (suc a, b + 1) (a, b + 1)) (cond v (a, b) (a, b + 1)))
    by true true v = rises
    by true false v = slants
    by false u true = falls
    by false u false = slants

-- a move takes off no more than there is
pub movable : {s : Stepper} → Entered s → Movable (move_of s) s
unfolding move_of
movable {s} h =
    let b = entered_bounds h in
    record {
      some = b.some;
      along = omega arith;
      across = omega arith;
      high = omega arith;
      takes =
          by b (ltb s.across s.along) (ltb (s.excess + 2 * s.across + 1) (bias + s.along))
          (leb (bias + 2 * s.along) (s.excess + s.across + 1)) refl refl refl;
    }
  where
    by : Bounds s → (t u v : Bool) → ltb s.across s.along ≡ t → ltb (s.excess + 2 * s.across + 1) (bias + s.along) ≡ u
        → leb (bias + 2 * s.along) (s.excess + s.across + 1) ≡ v → Takes (pick t (pick u Rise Slant) (pick v Fall Slant)) s
    by b true true v e f g = b.some
    by b true false v e f g = omega (arith, ltb-false (s.excess + 2 * s.across + 1) (bias + s.along) f)
    by b false u true e f g = omega (arith, leb-true (bias + 2 * s.along) (s.excess + s.across + 1) g)
    by b false u false e f g = omega (arith, ltb-false s.across s.along e)

-- ---- one advance is one step

settle : (n : ℕ) (t : Turn) (k a b e : ℕ) → e ≡ squares a b + bias - n
    → brought_on (carry t (place k a b) e) ≡ at_place n t (in_quadrant k (a, b))
settle n t k a b e h = by (eqb a 0) refl
  where
    by : (u : Bool) → eqb a 0 ≡ u
        → cond u (carry t (place (next_quadrant k) b 0) e) (carry t (place k a b) e)
        ≡ at_place n t (cond u (place (next_quadrant k) b 0) (place k a b))
    by true g = ap (carry t (place (next_quadrant k) b 0)) (h ∙ axis a (eqb-true a 0 g))
      where
        axis : (a : ℕ) → a ≡ 0 → squares a b + bias - n ≡ squares b 0 + bias - n
        axis zero z = omega arith
        axis (suc a) z = absurd (omega arith)
    by false g = ap (carry t (place k a b)) h

module _ (n : ℕ) (t : Turn) (k : ℕ) where
  advance_by_lem : {a b : ℕ} {m : Move} {s : ℕ × ℕ} (e : ℕ) → e + n ≡ squares a b + bias → Moves n a b m s
      → brought_on (moved m (carry t (place k a b) e)) ≡ at_place n t (in_quadrant k s)
  advance_by_lem e h (rises {a} {b}) = settle n t k a (b + 1) (e + 2 * b + 1) (omega arith)
  advance_by_lem e h (slants {a} {b}) =
      let less : suc a - 1 ≡ a = omega arith in rw less (settle n t k a (b + 1) (e + 2 * b + 2 - 2 * suc a) (omega arith))
  advance_by_lem e h (falls {a} {b}) = let less : suc a - 1 ≡ a = omega arith in
      rw less (settle n t k a b (e + 1 - 2 * suc a) (omega arith))

-- the carried excess is exact
exact : {n : ℕ} (q : Place) → n ≤ largest_n → 1 ≤ n → On n q
    → squares q.along q.across + bias - n + n ≡ squares q.along q.across + bias
exact {n} q l s o =
    let u = under_axis o.on (nearest_axis n s) in
    let r = radius_bound n s l in
    let m = near o.on in
    omega arith

pub moves_at : {n : ℕ} (t : Turn) (q : Place) → n ≤ largest_n → 1 ≤ n → On n q
    → Moves n q.along q.across (move_of (at_place n t q)) (first_step n q.along q.across)
moves_at {n} t q l s o = by q.along o.some (exact q l s o)
  where
    by : (a : ℕ) → 1 ≤ a → squares a q.across + bias - n + n ≡ squares a q.across + bias
        → Moves n a q.across (move_of (carry t (place q.quadrant a q.across) (squares a q.across + bias - n)))
        (first_step n a q.across)
    by zero z h = absurd (omega arith)
    by (suc a) z h = moves n t q.quadrant a q.across (squares (suc a) q.across + bias - n) h

pub advance_enter : (n : ℕ) (t : Turn) (p : Offset) → on_circle n p ≡ true → advanced_by (enter_of n t p) ≡ enter_of n t (step_of n t p)
unfolding advanced_by enter_of next_place
advance_enter n t p e =
    let o = on_circle_to n p e in
    let q = seen_place t p in
    let on = (seen_form t p o.circle).on in
    advance_by_lem n t q.quadrant (squares q.along q.across + bias - n) (exact q o.bound o.some on)
    (moves_at t q o.bound o.some on)
    ∙ ap (at_place n t) (sym (seen_step t p o.circle))

pub leave_enter : (n : ℕ) (t : Turn) (p : Offset) → on_circle n p ≡ true → leave_of (enter_of n t p) ≡ p
unfolding leave_of enter_of
leave_enter n t p e = ap (seen t) (seen_form t p (on_circle_to n p e).circle).is ∙ seen_seen t p

-- the step stays in the range of `on_circle`
pub step_on : (n : ℕ) (t : Turn) (p : Offset) → on_circle n p ≡ true → on_circle n (step_of n t p) ≡ true
step_on n t p e =
    let o = on_circle_to n p e in
    on_circle_of n (step_of n t p) (record { some = o.some; bound = o.bound; circle = step_circle t p o.circle })

pub enter_entered : (n : ℕ) (t : Turn) (p : Offset) → on_circle n p ≡ true → Entered (enter_of n t p)
unfolding enter_of
enter_entered n t p e = record { square = n; point = p; on = e; is = refl }

-- an advance keeps the stepper on the circle
pub advance_entered : {s : Stepper} → Entered s → Entered (advanced_by s)
advance_entered {s} h =
    subst Entered (sym (ap advanced_by h.is ∙ advance_enter h.square s.turn h.point h.on))
    (enter_entered h.square s.turn (step_of h.square s.turn h.point) (step_on h.square s.turn h.point h.on))

pub after_on : (n : ℕ) (t : Turn) (p : Offset) (c : ℕ) → on_circle n p ≡ true → on_circle n (after_of n t p c) ≡ true
unfolding after_of
after_on n t p zero e = e
after_on n t p (suc c) e = step_on n t (after_of n t p c) (after_on n t p c e)

-- ---- the pulses

-- the way from one point to another
abbrev pub way : Offset → Offset → Offset
way p q = offset (q.x -ℤ p.x) (q.y -ℤ p.y)

neg_way : (x y : ℤ) → neg_ℤ x -ℤ neg_ℤ y ≡ neg_ℤ (x -ℤ y)
neg_way x y = ring (neg (var x) ⊖ neg (var y)) (neg (var x ⊖ var y)) (omega arith)

turned_way : (k : ℕ) (p q : Offset) → way (turned k p) (turned k q) ≡ turned k (way p q)
turned_way zero p q = refl
turned_way (suc k) p q =
    let w = turned_way k p q in
    pair (neg_way (turned k q).y (turned k p).y ∙ ap (λ (r : Offset). neg_ℤ r.y) w) (ap (λ (r : Offset). r.x) w)
  where
    pair : {x y u v : ℤ} → x ≡ u → y ≡ v → offset x y ≡ offset u v
    pair e f = cc

seen_span : (t : Turn) (p q : Offset) → way (seen t p) (seen t q) ≡ seen t (way p q)
seen_span Clockwise p q = ap (λ (z : ℤ). offset (q.x -ℤ p.x) z) (neg_way q.y p.y)
seen_span Counterclockwise p q = refl

move_way : {n a b : ℕ} {m : Move} {s : ℕ × ℕ} → Moves n a b m s → way (first a b) (first s.0 s.1) ≡ quadrant_pulse m
move_way (rises {a} {b}) = rw (ring (num a ⊖ num a) (num 0) (omega arith), ring (num (b + 1) ⊖ num b) (num 1) (omega arith))
move_way (slants {a} {b}) = rw (ring (num a ⊖ num (suc a)) (neg (num 1)) (omega arith), ring (num (b + 1) ⊖ num b) (num 1) (omega arith))
move_way (falls {a} {b}) = rw (ring (num a ⊖ num (suc a)) (neg (num 1)) (omega arith), ring (num b ⊖ num b) (num 0) (omega arith))

-- the pulses are what the step changes
pub pulse_enter : (n : ℕ) (t : Turn) (p : Offset) → on_circle n p ≡ true → step_pulse (enter_of n t p) ≡ way p (step_of n t p)
unfolding step_pulse enter_of step_of next_place
pulse_enter n t p e =
    let o = on_circle_to n p e in
    let q = seen_place t p in
    let f = seen_form t p o.circle in
    let s = first_step n q.along q.across in
    let m = move_way (moves_at t q o.bound o.some f.on) in
    ap (λ (r : Offset). seen t (turned q.quadrant r)) (sym m)
    ∙ ap (seen t) (sym (turned_way q.quadrant (first q.along q.across) (first s.0 s.1)))
    ∙ sym (seen_span t (point_at q) (turned q.quadrant (first s.0 s.1)))
    ∙ ap (λ (r : Offset). way (seen t (point_at q)) (seen t r)) (sym (point_placed q.quadrant s f.on.four))
    ∙ ap (λ (r : Offset). way r (seen t (point_at (in_quadrant q.quadrant s)))) (ap (seen t) f.is ∙ seen_seen t p)

pub pulse_small : (m : Move) → (nat_abs (quadrant_pulse m).x ≤ 1) × (nat_abs (quadrant_pulse m).y ≤ 1)
pulse_small Rise = omega arith
pulse_small Slant = omega arith
pulse_small Fall = omega arith

pub moved_quadrant : (m : Move) (s : Stepper) → (moved m s).quadrant ≡ s.quadrant
moved_quadrant Rise s = refl
moved_quadrant Slant s = refl
moved_quadrant Fall s = refl

-- an advance goes on the same way round
pub advance_turn : (s : Stepper) → (advanced_by s).turn ≡ s.turn
unfolding advanced_by
advance_turn s = by (move_of s) (eqb (moved (move_of s) s).along 0)
  where
    by : (m : Move) (t : Bool) → (let u = moved m s in
        (cond t (carry u.turn (place (next_quadrant u.quadrant) u.across 0) u.excess) u).turn ≡ s.turn)
    by Rise true = refl
    by Rise false = refl
    by Slant true = refl
    by Slant false = refl
    by Fall true = refl
    by Fall false = refl
