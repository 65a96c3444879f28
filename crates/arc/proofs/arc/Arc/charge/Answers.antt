-- It is the circle's, seen from the centre.
use Rattle.std.proofs.Common.{ap, ◌∙◌}
use Rattle.circle.specs.declared.plane.Offset.{Offset}
use Rattle.circle.specs.computed.Charge.{step_charge}
use Rattle.arc.specs.computed.Charge.{arc_charge}
use Rattle.arc.proofs.arc.Arc.charge.Goals as goal

pub charge-requires : goal.charge-requires
charge-requires c = rw c.seen.ensures c.requires.on

pub returns : goal.returns
unfolding arc_charge
returns c =
    c.charge.ensures ∙ ap (λ (p : Offset). step_charge c.args.self.square c.args.self.turn p) c.seen.ensures
