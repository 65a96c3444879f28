-- The line's step is the definition's, and it ends where all its cycles are done.
use Rattle.std.proofs.Common.{refl, ◌∙◌}
use Rattle.work.specs.laws.Cycle.{line_cycle_lem}
use Rattle.work.proofs.line_cycle.Goals as goal

pub returns : goal.returns
returns c = c.after.ensures ∙ line_cycle_lem c.args.l c.step-step.ensures refl refl
