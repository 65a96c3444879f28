-- They are the circle's, seen from the centre.
use Rattle.std.proofs.Common.{ap₂, ◌∙◌}
use Rattle.circle.specs.declared.plane.Offset.{Offset}
use Rattle.circle.specs.computed.Count.{circle_cycles}
use Rattle.arc.specs.computed.Arc.{arc_cycles}
use Rattle.arc.proofs.arc.Arc.cycles.Goals as goal

pub cycles-requires : goal.cycles-requires
cycles-requires c =
    (rw c.seen.ensures c.requires.0.on, rw c.seen-2.ensures c.requires.0.end_on, c.requires.1)

pub returns : goal.returns
unfolding arc_cycles
returns c =
    let a = c.args.self in
    c.cycles.ensures
    ∙ ap₂ (λ (p e : Offset). circle_cycles a.square a.turn p e) c.seen.ensures c.seen-2.ensures
