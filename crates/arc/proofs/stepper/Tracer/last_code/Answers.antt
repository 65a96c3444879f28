-- The code of the next move is that of the cycle.
use Rattle.arc.proofs.stepper.Tracer.last_code.Goals as goal
use Rattle.arc.specs.laws.Stepper.{tracer_small, last_code}

pub code-requires : goal.code-requires
code-requires c = tracer_small c.requires

pub returns : goal.returns
returns c = last_code c.args.self c.requires c.code.ensures
