-- `seen_span` is right because a circle point has small numbers.
use borrow.Author.Rules.{rules}
use mathlib.Core.Path.{◌≡◌, ap, ◌∙◌}
use native.Mathlib.Omega.{arith}
use Rattle.circle.specs.declared.plane.Offset.{Offset}
use Rattle.circle.specs.computed.Step.{place_of, seen_place}
use Rattle.circle.proofs.laws.Circle.{on_circle_small}
use Rattle.charges.specs.laws.Sum.{tolled}
use Rattle.charges.proofs.sum.seen_span.Statement.{statement}
use Rattle.charges.proofs.sum.seen_span.Tie as tie

place_is : (c : tie.After-place_of) → c.place_of.result ≡ seen_place c.args.turn c.args.p
place_is c = c.place_of.ensures ∙ ap (λ (r : Offset). place_of r.x r.y) c.seen_from.ensures

seen_from-requires : tie.Need-seen_from-requires
seen_from-requires c κs = omega (arith, on_circle_small c.args.n c.args.p c.requires.0)

place_of-requires : tie.Need-place_of-requires
place_of-requires c κs = search rules

span_to-requires : tie.Need-span_to-requires
span_to-requires c κs =
    let s = c.before.before in
    rw (s.requires.1, s.requires.2, place_is c) (tolled s.args.n s.args.turn s.args.p s.requires.0)

returns : tie.Need-returns
returns c = c.span_to.ensures ∙ rw (place_is c.before)

pub seen_span_spec : {M : Type 1} → statement M
seen_span_spec = tie.close (tie.spec seen_from-requires place_of-requires span_to-requires returns)
