-- The stepper's move tells the charge.
use Rattle.std.proofs.Common.{sym, ap, ◌∙◌}
use Rattle.circle.specs.computed.Stepper.{move_of}
use Rattle.circle.specs.computed.Charge.{move_charge}
use Rattle.circle.proofs.laws.Stepper.{enter_entered}
use Rattle.circle.proofs.laws.Charge.{move_charge_lem}
use Rattle.circle.proofs.step.charge.Goals as goal

pub next_move-requires : goal.next_move-requires
next_move-requires c = rw c.enter.ensures (enter_entered c.args.n c.args.turn c.args.p c.requires)

pub returns : goal.returns
returns c =
    c.move_charge.ensures
    ∙ ap move_charge (c.next_move.ensures ∙ ap move_of c.enter.ensures)
    ∙ sym (move_charge_lem c.args.n c.args.turn c.args.p c.requires)
