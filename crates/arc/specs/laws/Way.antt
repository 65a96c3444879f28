-- As many cycles are left to the end of an arc, at least, as there are pulses on either axis between: a cycle sends one at most.
use Rattle.std.specs.Prelude.{◌≡◌, true, ℤ, nat_abs, ◌+ℤ◌, ◌-ℤ◌}
use Rattle.std.proofs.Common.{sym, ap, subst, ◌∙◌, arith}
use Prim.Native.Nat.{ℕ, zero, suc, ◌+◌, ◌≤◌}
use Rattle.std.proofs.Math.IntN.{+ℤ_invr}
use Rattle.whole.specs.laws.Difference.{ring, var, ◌⊕◌, ◌⊖◌}
use Rattle.whole.specs.laws.Order.{abs_add}
use Rattle.plane.specs.declared.point.Point.{Point}
use Rattle.circle.specs.declared.plane.Offset.{Offset}
use Rattle.circle.specs.declared.plane.Turn.{Turn}
use Rattle.circle.specs.Circle.{on_circle}
use Rattle.circle.specs.computed.Step.{step_of, after_of}
use Rattle.circle.proofs.laws.Circle.{on_circle_to}
use Rattle.circle.proofs.laws.Next.{step_close}
use Rattle.circle.proofs.laws.Stepper.{after_on}
use Rattle.arc.specs.declared.arc.Arc.{Arc}
use Rattle.arc.specs.Centre.{seen_from}
use Rattle.arc.specs.computed.Arc.{arc_cycles}
use Rattle.arc.specs.laws.Step.{Circles, seen_after, arc_end}

-- two ways, one after the other
onward : (u v w : ℤ) (c : ℕ) → nat_abs (v -ℤ u) ≤ c → nat_abs (w -ℤ v) ≤ 1 → nat_abs (w -ℤ u) ≤ suc c
onward u v w c h one =
    let e : (w -ℤ v) +ℤ (v -ℤ u) ≡ w -ℤ u = ring (var w ⊖ var v ⊕ (var v ⊖ var u)) (var w ⊖ var u) (omega arith) in
    omega (arith, subst (λ (z : ℤ). nat_abs z ≤ nat_abs (w -ℤ v) + nat_abs (v -ℤ u)) e (abs_add (w -ℤ v) (v -ℤ u)))

none : (u : ℤ) → nat_abs (u -ℤ u) ≤ 0
none u = omega (arith, ap nat_abs (+ℤ_invr u))

module _ (n : ℕ) (t : Turn) (p : Offset) (on : on_circle n p ≡ true) where
  after_close : (c : ℕ) → (nat_abs ((after_of n t p c).x -ℤ p.x) ≤ c) × (nat_abs ((after_of n t p c).y -ℤ p.y) ≤ c)
  unfolding after_of
  after_close zero = (none p.x, none p.y)
  after_close (suc c) =
      let q = after_of n t p c in
      let h = after_close c in
      let one = step_close {n = n} t q (on_circle_to n q (after_on n t p c on)).circle in
      (onward p.x q.x (step_of n t q).x c h.0 one.near_x, onward p.y q.y (step_of n t q).y c h.1 one.near_y)

-- a way is the same seen from the centre
from_centre : (c u v : ℤ) → (v -ℤ c) -ℤ (u -ℤ c) ≡ v -ℤ u
from_centre c u v = ring (var v ⊖ var c ⊖ (var u ⊖ var c)) (var v ⊖ var u) (omega arith)

pub way_left : (a : Arc) (at : Point) → Circles a at
    → (nat_abs (a.end.x -ℤ at.x) ≤ arc_cycles a at) × (nat_abs (a.end.y -ℤ at.y) ≤ arc_cycles a at)
way_left a at on =
    let k = arc_cycles a at in
    let h = after_close a.square a.turn (seen_from a.centre at) on.on k in
    let there : after_of a.square a.turn (seen_from a.centre at) k ≡ seen_from a.centre a.end =
    sym (seen_after a at k) ∙ ap (seen_from a.centre) (arc_end a at on) in
    let x = rw there at h.0 in
    let y = rw there at h.1 in (
      subst (λ (z : ℤ). nat_abs z ≤ k) (from_centre a.centre.x at.x a.end.x) x,
      subst (λ (z : ℤ). nat_abs z ≤ k) (from_centre a.centre.y at.y a.end.y) y,
    )
