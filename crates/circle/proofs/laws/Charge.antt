-- The charge of a step, from its pulses and from the stepper's move.
use Rattle.std.specs.Prelude.{◌≡◌, refl, Bool, true, false, cond, ℕ, zero, suc, ◌+◌, ◌-◌, ◌*◌, ◌≤◌, ℤ, neg_ℤ}
use Rattle.std.proofs.Common.{sym, ap, ap₂, ◌∙◌, arith, eq-eqb, ne_eqb}
use Rattle.std.proofs.Math.IntN.{neg_ℤ-neg_ℤ}
use Rattle.whole.specs.Equal.{equal_z}
use Rattle.whole.specs.laws.Test.{equal_true, equal_same, same_test}
use Rattle.circle.specs.declared.plane.Offset.{Offset}
use Rattle.circle.specs.declared.plane.Turn.{Turn}
use Rattle.circle.proofs.laws.Ways.{Clockwise, Counterclockwise}
use Rattle.circle.specs.declared.step.Move.{Move}
use Rattle.circle.specs.Circle.{Circle, on_circle}
use Rattle.circle.specs.computed.Step.{seen, quarter_turn, turned, point_at, seen_place}
use Rattle.circle.specs.computed.Step.{first_step, in_quadrant, next_place, step_of}
use Rattle.circle.specs.computed.Charge.{charge_between, step_charge, move_charge}
use Rattle.circle.specs.computed.Stepper.{enter_of, move_of}
use Rattle.circle.proofs.laws.Step.{Step, rise, cut, cross, fall, climb, step_is}
use Rattle.circle.proofs.laws.Circle.{on_circle_to, seen_seen}
use Rattle.circle.proofs.laws.Next.{first, seen_form, point_placed}
use Rattle.circle.proofs.laws.Stepper.{Moves, rises, slants, falls, moves_at}

-- ---- symmetry

same_negated : (x y : ℤ) → equal_z (neg_ℤ x) (neg_ℤ y) ≡ equal_z x y
same_negated x y =
    same_test
    (λ h. let e : x ≡ y = sym (neg_ℤ-neg_ℤ x) ∙ ap neg_ℤ (equal_true (neg_ℤ x) (neg_ℤ y) h) ∙ neg_ℤ-neg_ℤ y in rw e (equal_same y))
    (λ h. rw (equal_true x y h) (equal_same (neg_ℤ y)))

-- a quarter turn exchanges the coordinates
turn_charge : (p q : Offset) → charge_between (quarter_turn p) (quarter_turn q) ≡ charge_between p q
unfolding charge_between
turn_charge p q = rw (same_negated p.y q.y) (by (equal_z p.y q.y) (equal_z p.x q.x))
  where
    by : (a b : Bool) → ◌≡◌ {A = ℕ} (cond a 1000 (cond b 1000 1414)) (cond b 1000 (cond a 1000 1414))
    by true true = refl
    by true false = refl
    by false true = refl
    by false false = refl

turned_charge : (k : ℕ) (p q : Offset) → charge_between (turned k p) (turned k q) ≡ charge_between p q
turned_charge zero p q = refl
turned_charge (suc k) p q = turn_charge (turned k p) (turned k q) ∙ turned_charge k p q

seen_charge : (t : Turn) (p q : Offset) → charge_between (seen t p) (seen t q) ≡ charge_between p q
unfolding charge_between
seen_charge Clockwise p q = rw (same_negated p.y q.y)
seen_charge Counterclockwise p q = refl

-- ---- one step

-- in the first quadrant: 586, and 414 for each pulse
pub charge_first : {n x y : ℕ} {s : ℕ × ℕ} → Step n x y s
    → charge_between (first x y) (first s.0 s.1) ≡ 586 + 414 * (x - s.0 + (s.1 - y))
unfolding charge_between
charge_first (rise {x} {y} l h) = rw (eq-eqb x x refl) (omega arith)
charge_first (cut {x} {y} l h) = rw (ne_eqb (suc x) x (λ e. omega arith), ne_eqb y (y + 1) (λ e. omega arith)) (omega arith)
charge_first (cross {y} h) = rw (ne_eqb (suc y) y (λ e. omega arith), ne_eqb y (y + 1) (λ e. omega arith)) (omega arith)
charge_first (fall {x} {y} l h) = rw (ne_eqb (suc x) x (λ e. omega arith), eq-eqb y y refl) (omega arith)
charge_first (climb {x} {y} l h) = rw (ne_eqb (suc x) x (λ e. omega arith), ne_eqb y (y + 1) (λ e. omega arith)) (omega arith)

-- the charge of a step in quadrant form, from its pulses
abbrev pub by_pulses : (a b : ℕ) → ℕ × ℕ → ℕ
by_pulses a b s = 586 + 414 * (a - s.0 + (s.1 - b))

-- anywhere: the step's in its quadrant
pub step_charge_lem : {n : ℕ} (t : Turn) (p : Offset) → Circle n p
    → (let q = seen_place t p in step_charge n t p ≡ by_pulses q.along q.across (first_step n q.along q.across))
unfolding step_charge step_of next_place
step_charge_lem {n} t p c =
    let f = seen_form t p c in
    let q = seen_place t p in
    let s = first_step n q.along q.across in
    sym (seen_charge t p (seen t (point_at (in_quadrant q.quadrant s))))
    ∙ ap₂ charge_between (sym f.is) (seen_seen t (point_at (in_quadrant q.quadrant s)) ∙ point_placed q.quadrant s f.on.four)
    ∙ turned_charge q.quadrant (first q.along q.across) (first s.0 s.1)
    ∙ charge_first (step_is q.along q.across f.on.some)

-- a charge is at least 1,000 and at most 1,414
pub charge_range : (p q : Offset) → (1000 ≤ charge_between p q) × (charge_between p q ≤ 1414)
unfolding charge_between
charge_range p q = by (equal_z p.x q.x) (equal_z p.y q.y)
  where
    by : (a b : Bool) → (1000 ≤ cond a 1000 (cond b 1000 1414)) × (cond a 1000 (cond b 1000 1414) ≤ 1414)
    by true b = omega arith
    by false true = omega arith
    by false false = omega arith

-- the stepper's move tells the charge
pub move_charge_lem : (n : ℕ) (t : Turn) (p : Offset) → on_circle n p ≡ true → step_charge n t p ≡ move_charge (move_of (enter_of n t p))
unfolding enter_of
move_charge_lem n t p e =
    let o = on_circle_to n p e in
    let q = seen_place t p in
    step_charge_lem t p o.circle ∙ by (moves_at t q o.bound o.some (seen_form t p o.circle).on)
  where
    by : {a b : ℕ} {m : Move} {s : ℕ × ℕ} → Moves n a b m s → by_pulses a b s ≡ move_charge m
    by (rises {a} {b}) = omega arith
    by (slants {a} {b}) = omega arith
    by (falls {a} {b}) = omega arith
