-- The charges of an arc in work: each cycle takes its own off, and the last leaves none.
use Rattle.std.specs.Prelude.{◌≡◌, refl, Bool, true, false, cond, eqb, ℤ, ◌+ℤ◌}
use Rattle.std.proofs.Math.Path.{sym, ap}
use Rattle.std.proofs.Common.{ap₂, ◌∙◌, true≢false}
use Prim.Native.Nat.{ℕ, suc, ◌+◌, ◌*◌, ◌≤◌}
use native.Mathlib.Omega.{arith}
use Rattle.std.specs.Int.Signed.{lt_z}
use Rattle.whole.specs.Equal.{equal_z}
use Rattle.whole.specs.laws.Difference.{parts, equal}
use Rattle.whole.specs.laws.Order.{lt_z_false, ≼_lt_z}
use Rattle.whole.specs.laws.Test.{equal_true, equal_same, same_test, equal_moved}
use Rattle.plane.specs.declared.point.Point.{Point}
use Rattle.plane.specs.Pulse.{change_of, pulses_between}
use Rattle.circle.specs.declared.plane.Offset.{Offset}
use Rattle.circle.specs.computed.Step.{step_of, after_of}
use Rattle.circle.specs.computed.Charge.{charge_between, step_charge, move_charge}
use Rattle.circle.proofs.laws.Charge.{charge_range, move_charge_lem}
use Rattle.charges.specs.computed.Sum.{charges_in, charges_of}
use Rattle.charges.specs.laws.Sum.{charges_range, charges_closed, charges_front, charges_bound}
use Rattle.charges.specs.laws.Paid.{Grows, Most, most_unique, charges_grow}
use Rattle.arc.specs.declared.arc.Arc.{Arc}
use Rattle.arc.specs.Centre.{seen_from}
use Rattle.arc.specs.computed.Arc.{arc_after, arc_cycles}
use Rattle.arc.specs.computed.Charge.{arc_charge, arc_charges_in, arc_charges, arc_paid_of}
use Rattle.arc.specs.computed.Stepper.{arc_tracer}
use Rattle.arc.specs.laws.Step.{Circles, seen_after, seen_next, circle_here, circle_there, last_cycle, more_cycles}

pub arc_charge_range : (a : Arc) (at : Point) → (1000 ≤ arc_charge a at) × (arc_charge a at ≤ 1414)
unfolding arc_charge step_charge
arc_charge_range a at = charge_range _ _

module _ (a : Arc) (at : Point) (on : Circles a at) where
  -- without a walk
  pub charges_are : arc_charges a at ≡ charges_of a.square a.turn (seen_from a.centre at) (seen_from a.centre a.end)
  unfolding arc_cycles
  charges_are = charges_closed a.square a.turn _ _ (circle_here a at on) (circle_there a at on)

  pub charges_most : arc_charges a at ≤ 9400000000
  charges_most =
      let most = charges_bound a.square a.turn (seen_from a.centre at) (seen_from a.centre a.end) on.on on.end_on in
      omega (arith, charges_are)

  pub charges_least : 1000 * arc_cycles a at ≤ arc_charges a at
  charges_least = (charges_range a.square a.turn (seen_from a.centre at) (arc_cycles a at)).0

  -- the last cycle's charge is all that is left
  pub last_charge : arc_after a at 1 ≡ a.end → arc_charges a at ≡ arc_charge a at
  unfolding arc_charge charges_in after_of
  last_charge e = ap (charges_in a.square a.turn (seen_from a.centre at)) ((last_cycle a at on).1 e) ∙ omega arith

  -- any other leaves those from the next point on
  pub more_charges : (arc_after a at 1 ≡ a.end → ⊥) → arc_charges a at ≡ arc_charge a at + arc_charges a (arc_after a at 1)
  unfolding arc_charge
  more_charges f =
      let p = seen_from a.centre at in
      let k = arc_cycles a (arc_after a at 1) in
      let more : arc_cycles a at ≡ suc k = more_cycles a at on f ∙ omega arith in
      ap (charges_in a.square a.turn p) more
      ∙ charges_front a.square a.turn p k
      ∙ ap (λ (q : Offset). step_charge a.square a.turn p + charges_in a.square a.turn q k) (sym (seen_next a at))

  -- the tracer's move tells the charge
  pub tracer_charge : move_charge (arc_tracer a at).next ≡ arc_charge a at
  unfolding arc_tracer arc_charge
  tracer_charge = sym (move_charge_lem a.square a.turn (seen_from a.centre at) on.on)

-- ---- cycle by cycle, and what a sum pays for

module _ (a : Arc) (at : Point) where
  -- one cycle more adds its charge
  pub charges_next : (c : ℕ) → arc_charges_in a at (suc c) ≡ arc_charges_in a at c + arc_charge a (arc_after a at c)
  unfolding charges_in arc_charge
  charges_next c = ap (λ (o : Offset). arc_charges_in a at c + step_charge a.square a.turn o) (sym (seen_after a at c))

  pub arc_charges_grow : Grows (arc_charges_in a at)
  arc_charges_grow = charges_grow a.square a.turn (seen_from a.centre at)

  -- the cycles that a sum pays are the only ones that it pays where it does not pay one more
  pub arc_paid_unique : (most sum c : ℕ) → Most (arc_charges_in a at) sum most c → c ≡ (arc_paid_of a at most sum).cycles
  unfolding arc_paid_of
  arc_paid_unique most sum c m = most_unique (arc_charges_in a at) arc_charges_grow sum most c m

-- ---- the charge from the codes of the pulses

change_none : (u v : ℤ) → equal_z u v ≡ eqb (change_of u v) 0
unfolding change_of
change_none u v =
    same_test
    (λ e. let same = equal_true u v e in rw (same, ≼_lt_z v v (omega arith)) refl)
    (λ e. by (lt_z u v) (lt_z v u) refl refl e)
  where
    by : (a b : Bool) → lt_z u v ≡ a → lt_z v u ≡ b → eqb (cond a 1 (cond b 2 0)) 0 ≡ true → equal_z u v ≡ true
    by true b f g e = absurd (true≢false (sym e))
    by false true f g e = absurd (true≢false (sym e))
    by false false f g e =
        let same : u ≡ v = equal (parts u) (parts v) (omega (arith, lt_z_false u v f, lt_z_false v u g)) in
        rw same (equal_same v)

-- a step is straight where one code is 0
pub charge_codes : (a : Arc) (at : Point)
    → arc_charge a at ≡ (let p = pulses_between at (arc_after a at 1) in cond (eqb p.x 0) 1000 (cond (eqb p.y 0) 1000 1414))
unfolding arc_charge step_charge charge_between arc_after after_of
charge_codes a at =
    let s = step_of a.square a.turn (seen_from a.centre at) in
    let x = equal_moved at.x a.centre.x s.x ∙ change_none at.x (a.centre.x +ℤ s.x) in
    let y = equal_moved at.y a.centre.y s.y ∙ change_none at.y (a.centre.y +ℤ s.y) in
    ap₂ (λ (u v : Bool). cond u 1000 (cond v 1000 1414)) x y
