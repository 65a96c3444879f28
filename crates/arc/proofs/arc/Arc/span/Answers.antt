-- It is the circle's, seen from the centre.
use Rattle.std.proofs.Common.{ap₂, ◌∙◌}
use Rattle.circle.specs.declared.plane.Offset.{Offset}
use Rattle.charges.specs.computed.Sum.{span_of}
use Rattle.arc.specs.computed.Arc.{arc_cycles}
use Rattle.arc.proofs.arc.Arc.span.Goals as goal

pub span-requires : goal.span-requires
span-requires c =
    (rw c.seen.ensures c.requires.on, rw c.seen-2.ensures c.requires.end_on)

pub returns : goal.returns
unfolding span_of arc_cycles
returns c =
    let a = c.args.self in
    c.span.ensures
    ∙ ap₂ (λ (p e : Offset). span_of a.square a.turn p e) c.seen.ensures c.seen-2.ensures
