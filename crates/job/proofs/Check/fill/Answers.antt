use mathlib.Core.Path.{sym, ◌∙◌}
use Rattle.job.specs.laws.Fill.{filling_on}
use Rattle.job.proofs.Check.fill.Goals as goal

pub loop-out-preserved : goal.loop-out-preserved
loop-out-preserved c =
    rw c.settled-check.ensures
    (filling_on c.loop-out.invariant (sym c.has_room.ensures ∙ c.loop-out-test.true) c.step-step.ensures)
