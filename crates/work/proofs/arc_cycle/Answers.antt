-- The arc's step is the definition's, and it ends where it reaches its end.
use Rattle.std.proofs.Common.{sym, refl, ◌∙◌}
use Rattle.plane.specs.laws.Point.{equal_library}
use Rattle.work.specs.laws.Cycle.{arc_cycle_lem}
use Rattle.work.proofs.arc_cycle.Goals as goal

pub returns : goal.returns
returns c =
    c.after.ensures
    ∙ arc_cycle_lem c.args.at c.args.a c.step-step.ensures
    (sym (equal_library c.step-step.result.at c.args.a.end) ∙ sym c.eq.ensures) refl
