-- One advance of the stepper is one step.
use Rattle.std.proofs.Common.{ap, ◌∙◌}
use Rattle.circle.specs.declared.step.Cycled.{Cycled}
use Rattle.circle.specs.computed.Step.{step_of}
use Rattle.circle.specs.computed.Stepper.{advanced_by, leave_of}
use Rattle.circle.proofs.laws.Stepper.{enter_entered, advance_entered, advance_enter, leave_enter, step_on}
use Rattle.circle.proofs.step.step.Goals as goal

pub cycle-requires : goal.cycle-requires
cycle-requires c = rw c.enter.ensures (enter_entered c.args.n c.args.turn c.args.p c.requires)

pub leave-requires : goal.leave-requires
leave-requires c =
    rw (ap (λ (x : Cycled). x.stepper) c.cycle.ensures, c.enter.ensures)
    (advance_entered (enter_entered c.args.n c.args.turn c.args.p c.requires))

pub returns : goal.returns
returns c =
    let n = c.args.n in
    let t = c.args.turn in
    let p = c.args.p in
    c.leave.ensures
    ∙ ap leave_of (ap (λ (x : Cycled). x.stepper) c.cycle.ensures ∙ ap advanced_by c.enter.ensures ∙ advance_enter n t p c.requires)
    ∙ leave_enter n t (step_of n t p) (step_on n t p c.requires)
