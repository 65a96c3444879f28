-- It steps on the circle, seen from the centre, and bacc.
use Rattle.std.proofs.Common.{ap, ◌∙◌}
use Rattle.plane.specs.Pulse.{pulses_between}
use Rattle.circle.specs.computed.Step.{step_of, after_of}
use Rattle.arc.specs.Centre.{back_from}
use Rattle.arc.specs.computed.Arc.{arc_after, arc_stepped}
use Rattle.arc.specs.laws.Step.{circles, step_reach}
use Rattle.arc.proofs.arc.Arc.step.Goals as goal

pub step-requires : goal.step-requires
step-requires c = rw c.seen.ensures c.requires.on

pub back-next-requires : goal.back-next-requires
back-next-requires c =
    (c.requires.centre, rw (c.step.ensures, c.seen.ensures) (step_reach c.args.self c.args.at (circles c.requires)))

pub returns : goal.returns
unfolding arc_stepped arc_after after_of
returns c =
    let a = c.args.self in
    let next =
    c.back-next.ensures
    ∙ ap (back_from a.centre) (c.step.ensures ∙ ap (step_of a.square a.turn) c.seen.ensures) in
    let pulses = c.changes.ensures ∙ ap (pulses_between c.args.at) next in
    λ i. record { at = next i; pulses = pulses i }
