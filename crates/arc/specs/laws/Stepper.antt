-- The arc's stepper computes the step: its codes are those of the pulses that lead from each point to the next.
use Rattle.std.specs.Prelude.{◌≡◌, Bool, true, false, cond, ℕ, zero, suc, ◌+◌, ◌*◌, ◌≤◌, ◌<◌, eqb, ℤ, pos, ◌+ℤ◌, ◌-ℤ◌}
use Rattle.std.proofs.Math.Path.{refl, ap, ap₂}
use Rattle.std.proofs.Common.{sym, subst, ◌∙◌, arith}
use Rattle.std.proofs.lemmas.Bool.{eqb-false}
use Rattle.std.specs.Int.Signed.{lt_z}
use Rattle.whole.specs.laws.Difference.{parts, negated, added, ring, var, ◌⊕◌, ◌⊖◌}
use Rattle.whole.specs.laws.Order.{lt_z_true, lt_z_false, ≺_lt_z, ≼_lt_z}
use Rattle.plane.specs.declared.point.Point.{Point}
use Rattle.plane.specs.Pulse.{change_of}
use Rattle.plane.specs.Byte.{both_codes}
use Rattle.plane.specs.laws.Pulse.{change_small}
use Rattle.circle.specs.declared.plane.Offset.{Offset}
use Rattle.circle.specs.declared.plane.Turn.{Turn}
use Rattle.circle.specs.declared.plane.Turn.TheVariants.{Clockwise, Counterclockwise}
use Rattle.circle.specs.declared.step.Move.{Move}
use Rattle.circle.specs.declared.step.Move.TheVariants.{Rise, Slant, Fall}
use Rattle.circle.specs.declared.step.Stepper.{Stepper}
use Rattle.circle.specs.computed.Step.{next_quadrant, step_of, after_of}
use Rattle.circle.specs.computed.Stepper.{enter_of, leave_of, move_of, advanced_by, step_pulse, Entered}
use Rattle.circle.proofs.laws.Circle.{on_circle_small}
use Rattle.circle.proofs.laws.Stepper.{entered_bounds, enter_entered, advance_enter, advance_turn, leave_enter, pulse_enter}
use Rattle.arc.specs.declared.arc.Arc.{Arc}
use Rattle.arc.specs.declared.stepper.Tracer.{Tracer}
use Rattle.arc.specs.computed.Centre.{Reach}
use Rattle.arc.specs.Centre.{seen_from, back_from}
use Rattle.arc.specs.computed.Arc.{arc_after, arc_stepped}
use Rattle.arc.specs.computed.Stepper.{way_code, move_code, pick_code, tracer_of, arc_tracer, traced_of, tracer_at, Tracing}
use Rattle.arc.specs.laws.Centre.{back_seen}
use Rattle.arc.specs.laws.Step.{Circles, seen_next}

-- ---- the codes of moves

way_small : (o : Offset) → way_code o ≤ 10
unfolding way_code
way_small o = omega (arith, change_small (pos 0) o.x, change_small (pos 0) o.y)

move_small : (t : Turn) (k : ℕ) (m : Move) → move_code t k m ≤ 10
unfolding move_code
move_small t k m = way_small _

-- an axis's codes are the same both ways round
pub rise_left : (t : Turn) → move_code t 1 Rise ≡ 2
unfolding move_code way_code change_of
rise_left Clockwise = refl
rise_left Counterclockwise = refl

pub rise_right : (t : Turn) → move_code t 3 Rise ≡ 1
unfolding move_code way_code change_of
rise_right Clockwise = refl
rise_right Counterclockwise = refl

pub next_below : (k : ℕ) → k < 4 → next_quadrant k < 4
next_below k h = by (eqb k 3) refl
  where
    by : (b : Bool) → eqb k 3 ≡ b → cond b 0 (k + 1) < 4
    by true e = omega arith
    by false e = omega (arith, eqb-false k 3 e)

-- a fall goes as a rise in the next quadrant
pub fall_rise : (t : Turn) (k : ℕ) → k < 4 → move_code t (next_quadrant k) Rise ≡ move_code t k Fall
unfolding move_code
fall_rise t zero h = refl
fall_rise t (suc zero) h = refl
fall_rise t (suc (suc zero)) h = refl
fall_rise t (suc (suc (suc zero))) h = refl
fall_rise t (suc (suc (suc (suc k)))) h = absurd (omega arith)

-- and a slant as both
pub pick_code_lem : (t : Turn) (k : ℕ) → k < 4 → (m : Move) → pick_code (move_code t k Rise) (move_code t k Fall) m ≡ move_code t k m
unfolding move_code way_code change_of
pick_code_lem t k h Rise = refl
pick_code_lem t k h Fall = refl
pick_code_lem Clockwise zero h Slant = refl
pick_code_lem Clockwise (suc zero) h Slant = refl
pick_code_lem Clockwise (suc (suc zero)) h Slant = refl
pick_code_lem Clockwise (suc (suc (suc zero))) h Slant = refl
pick_code_lem Counterclockwise zero h Slant = refl
pick_code_lem Counterclockwise (suc zero) h Slant = refl
pick_code_lem Counterclockwise (suc (suc zero)) h Slant = refl
pick_code_lem Counterclockwise (suc (suc (suc zero))) h Slant = refl
pick_code_lem t (suc (suc (suc (suc k)))) h Slant = absurd (omega arith)

-- ---- one cycle, as the code puts it together

module _ (t : Tracer) (h : Tracing t) {code : ℕ} (picked : code ≡ pick_code t.rise t.fall t.next)
    {s : Stepper} (e : s ≡ advanced_by t.circle) where
  picked_is : code ≡ way_code (step_pulse t.circle)
  unfolding step_pulse move_code
  picked_is =
      picked
      ∙ (λ i. pick_code (h.is i).rise (h.is i).fall (h.is i).next)
      ∙ pick_code_lem t.circle.turn t.circle.quadrant (entered_bounds h.entered).four (move_of t.circle)

  -- in one quadrant the codes stay
  pub traced_on : s.quadrant ≡ t.circle.quadrant → {m : Move} → m ≡ move_of s
      → record { tracer = record { circle = s; rise = t.rise; fall = t.fall; next = m }; code = code } ≡ traced_of t
  unfolding traced_of
  traced_on same {m} n =
      let u = advanced_by t.circle in
      let stays : (m : Move) → move_code t.circle.turn t.circle.quadrant m ≡ move_code u.turn u.quadrant m =
      λ m. ap₂ (λ (u : Turn) (k : ℕ). move_code u k m) (sym (advance_turn t.circle)) (sym same ∙ ap (λ (x : Stepper). x.quadrant) e) in
      let rise = ap (λ (x : Tracer). x.rise) h.is ∙ stays Rise in
      let fall = ap (λ (x : Tracer). x.fall) h.is ∙ stays Fall in
      let next = n ∙ ap move_of e in
      λ i. record { tracer = record { circle = e i; rise = rise i; fall = fall i; next = next i }; code = picked_is i }

  pub traced_over : {next : Tracer} → next ≡ tracer_of s → record { tracer = next; code = code } ≡ traced_of t
  unfolding traced_of
  traced_over n = let own = n ∙ ap tracer_of e in λ i. record { tracer = own i; code = picked_is i }

-- the code alone
pub last_code : (t : Tracer) → Tracing t → {code : ℕ} → code ≡ pick_code t.rise t.fall t.next → code ≡ (traced_of t).code
unfolding traced_of
last_code t h picked = picked_is t h picked refl

-- codes of a tracer are small, and so is its point
pub tracer_small : {t : Tracer} → Tracing t → (t.rise ≤ 10) × (t.fall ≤ 10)
tracer_small {t} h = (
  rw (ap (λ (x : Tracer). x.rise) h.is) (move_small t.circle.turn t.circle.quadrant Rise),
  rw (ap (λ (x : Tracer). x.fall) h.is) (move_small t.circle.turn t.circle.quadrant Fall),
)

pub leave_reach : {s : Stepper} → Entered s → Reach (leave_of s)
leave_reach {s} h =
    let small = on_circle_small h.square h.point h.on in
    let left = ap leave_of h.is ∙ leave_enter h.square s.turn h.point h.on in
    subst Reach (sym left) (record { x = omega (arith, small.0); y = omega (arith, small.1) })

-- ---- the pulses on the table

same_less : (u v x y : ℤ) → v -ℤ u ≡ y -ℤ x → lt_z u v ≡ lt_z x y
same_less u v x y e = by (lt_z x y) refl
  where
    by : (b : Bool) → lt_z x y ≡ b → lt_z u v ≡ b
    by true h =
        ≺_lt_z u v (omega (arith, lt_z_true x y h, rw e at (added (parts v) (negated (parts u))), added (parts y) (negated (parts x))))
    by false h =
        ≼_lt_z u v (omega (arith, lt_z_false x y h, rw e at (added (parts v) (negated (parts u))), added (parts y) (negated (parts x))))

-- a change is told by its way
change_way : (u v d : ℤ) → v -ℤ u ≡ d → change_of u v ≡ change_of (pos 0) d
unfolding change_of
change_way u v d e =
    ap₂ (λ (a b : Bool). cond a 1 (cond b 2 0))
    (same_less u v (pos 0) d (e ∙ ring (var d) (var d ⊖ var (pos 0)) (omega arith)))
    (same_less v u d (pos 0) (ring (var u ⊖ var v) (var (pos 0) ⊖ (var v ⊖ var u)) (omega arith) ∙ ap (λ (z : ℤ). pos 0 -ℤ z) e))

-- the way on the table is the one seen from the centre
across : (c p s : ℤ) → (c +ℤ s) -ℤ p ≡ s -ℤ (p -ℤ c)
across c p s = ring ((var c ⊕ var s) ⊖ var p) (var s ⊖ (var p ⊖ var c)) (omega arith)

module _ (a : Arc) (at : Point) (on : Circles a at) where
  code_is : way_code (step_pulse (enter_of a.square a.turn (seen_from a.centre at))) ≡ both_codes (arc_stepped a at).pulses
  unfolding way_code arc_stepped arc_after after_of
  code_is =
      let s = step_of a.square a.turn (seen_from a.centre at) in
      let x = change_way at.x (a.centre.x +ℤ s.x) _ (across a.centre.x at.x s.x) in
      let y = change_way at.y (a.centre.y +ℤ s.y) _ (across a.centre.y at.y s.y) in
      ap (λ (o : Offset). change_of (pos 0) o.x + 4 * change_of (pos 0) o.y)
      (pulse_enter a.square a.turn (seen_from a.centre at) on.on)
      ∙ ap₂ (λ (x y : ℕ). x + 4 * y) (sym x) (sym y)

  pub tracer_next : traced_of (arc_tracer a at)
      ≡ record { tracer = arc_tracer a (arc_stepped a at).at; code = both_codes (arc_stepped a at).pulses }
  unfolding traced_of arc_tracer arc_stepped
  tracer_next =
      let next =
      advance_enter a.square a.turn (seen_from a.centre at) on.on ∙ ap (enter_of a.square a.turn) (sym (seen_next a at)) in
      λ i. record { tracer = tracer_of (next i); code = code_is i }

  pub tracing : Tracing (arc_tracer a at)
  unfolding arc_tracer
  tracing = record { entered = enter_entered a.square a.turn (seen_from a.centre at) on.on; is = refl }

  pub tracer_at_lem : tracer_at a.centre (arc_tracer a at) ≡ at
  unfolding tracer_at arc_tracer
  tracer_at_lem = ap (back_from a.centre) (leave_enter a.square a.turn (seen_from a.centre at) on.on) ∙ back_seen a.centre at
