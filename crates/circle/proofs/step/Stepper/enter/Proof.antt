-- `enter` is right because it squares only small coordinates, and n is at most 1,414,214 above their sum.
use mathlib.Core.Path.{◌≡◌, ap, ◌∙◌}
use Prim.Native.Nat.{◌+◌, ◌-◌, ◌*◌, ◌≤◌}
use native.Mathlib.Nat.{mul-le-mul}
use native.Mathlib.Omega.{arith}
use Rattle.circle.specs.declared.plane.Offset.{Offset}
use Rattle.circle.specs.computed.Step.{place_of, seen_place}
use Rattle.circle.specs.computed.Stepper.{bias, carry, enter_of}
use Rattle.circle.proofs.laws.Circle.{on_circle_small}
use Rattle.circle.proofs.laws.Stepper.{Bounds, enter_bounds}
use borrow.Author.Rules.{rules}
use Rattle.circle.proofs.step.Stepper.enter.Statement.{statement}
use Rattle.circle.proofs.step.Stepper.enter.Tie as tie

q_is : (c : tie.After-place_of-q) → c.place_of-q.result ≡ seen_place c.args.turn c.args.p
q_is c = c.place_of-q.ensures ∙ ap (λ (r : Offset). place_of r.x r.y) c.seen_from.ensures

bounds : (c : tie.After-place_of-q) → (let s = c.args in let q = c.place_of-q.result in
    Bounds (carry s.turn q (q.along * q.along + q.across * q.across + bias - s.n)))
unfolding enter_of
bounds c = let s = c.before.before in rw (q_is c) (enter_bounds s.args.n s.args.turn s.args.p s.requires)

small : (c : tie.After-place_of-q) → (let q = c.place_of-q.result in
    (q.along * q.along ≤ 1414214 * 1414214) × (q.across * q.across ≤ 1414214 * 1414214))
small c = let b = bounds c in (mul-le-mul b.along b.along, mul-le-mul b.across b.across)

seen_from-requires : tie.Need-seen_from-requires
seen_from-requires c κs = omega (arith, on_circle_small c.args.n c.args.p c.requires)

place_of-q-requires : tie.Need-place_of-q-requires
place_of-q-requires c κs = search rules

overflow_mul-squares : tie.Need-overflow_mul-squares
overflow_mul-squares c = omega (arith, (small c.before).0)

overflow_mul-squares-2 : tie.Need-overflow_mul-squares-2
overflow_mul-squares-2 c = omega (arith, (small c.before.before).1)

overflow_add-squares : tie.Need-overflow_add-squares
overflow_add-squares c = omega (arith, small c.before.before)

overflow_add-result : tie.Need-overflow_add-result
overflow_add-result c = omega (arith, small c.before.before)

overflow_sub-result : tie.Need-overflow_sub-result
overflow_sub-result c = let b = bounds c.before.before in omega arith

returns : tie.Need-returns
unfolding enter_of
returns c = let s = c.args in rw (q_is c.before.before)

pub enter_spec : {M : Type 1} → statement M
enter_spec = tie.close (tie.spec seen_from-requires place_of-q-requires overflow_mul-squares overflow_mul-squares-2 overflow_add-squares
    overflow_add-result overflow_sub-result returns)
