-- `enter` is right because it is the definition, and a circle point has small numbers.
use borrow.Author.Rules.{rules}
use mathlib.Core.Path.{◌≡◌, ap, ◌∙◌}
use native.Mathlib.Omega.{arith}
use Rattle.circle.specs.declared.plane.Offset.{Offset}
use Rattle.circle.specs.computed.Step.{place_of, seen_place}
use Rattle.circle.proofs.laws.Circle.{on_circle_to, on_circle_small}
use Rattle.charges.specs.computed.Jump.{jump_start}
use Rattle.charges.specs.laws.Sum.{tolled}
use Rattle.charges.proofs.jump.Start.enter.Statement.{statement}
use Rattle.charges.proofs.jump.Start.enter.Tie as tie

place_is : (c : tie.After-place_of-place) → (let s = c.args in c.place_of-place.result ≡ seen_place s.turn s.p)
place_is c = c.place_of-place.ensures ∙ ap (λ (r : Offset). place_of r.x r.y) c.seen_from.ensures

overflow_mul-n : tie.Need-overflow_mul-n
overflow_mul-n c = omega (arith, (on_circle_to c.args.n c.args.p c.requires).bound)

nearest_root-quarter-requires : tie.Need-nearest_root-quarter-requires
nearest_root-quarter-requires c κs = search rules

nearest_root-radius-requires : tie.Need-nearest_root-radius-requires
nearest_root-radius-requires c κs = search rules

seen_from-requires : tie.Need-seen_from-requires
seen_from-requires c κs = let s = c.before.before in omega (arith, on_circle_small s.args.n s.args.p s.requires)

place_of-place-requires : tie.Need-place_of-place-requires
place_of-place-requires c κs = search rules

span_to-requires : tie.Need-span_to-requires
span_to-requires c κs =
    let roots = c.before.before in
    let s = roots.before.before in
    rw (roots.nearest_root-quarter.ensures, roots.nearest_root-radius.ensures, place_is c)
    (tolled s.args.n s.args.turn s.args.p s.requires)

returns : tie.Need-returns
unfolding jump_start
returns c =
    let roots = c.before.before.before in
    rw (c.span_to.ensures, place_is c.before, roots.nearest_root-quarter.ensures, roots.nearest_root-radius.ensures)

pub enter_spec : {M : Type 1} → statement M
enter_spec = tie.close (tie.spec overflow_mul-n nearest_root-quarter-requires nearest_root-radius-requires seen_from-requires
    place_of-place-requires span_to-requires returns)
