-- The circle's point is small.
use Rattle.arc.proofs.stepper.Tracer.leave.Goals as goal
use Rattle.std.proofs.Common.{ap, ◌∙◌}
use Rattle.arc.specs.Centre.{back_from}
use Rattle.arc.specs.computed.Stepper.{tracer_at}
use Rattle.arc.specs.laws.Stepper.{leave_reach}

pub back-requires : goal.back-requires
back-requires c = (c.requires.0, rw c.leave.ensures (leave_reach c.requires.1.entered))

pub returns : goal.returns
unfolding tracer_at
returns c = c.back.ensures ∙ ap (back_from c.args.centre) c.leave.ensures
