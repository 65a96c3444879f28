-- It enters the circle, seen from the centre.
use Rattle.arc.proofs.stepper.Tracer.enter.Goals as goal
use Rattle.std.proofs.Common.{◌≡◌, ap, ◌∙◌}
use Rattle.plane.specs.declared.point.Point.{Point}
use Rattle.circle.specs.declared.plane.Offset.{Offset}
use Rattle.circle.specs.declared.step.Stepper.{Stepper}
use Rattle.arc.specs.declared.arc.Arc.{Arc}
use Rattle.circle.specs.computed.Stepper.{enter_of}
use Rattle.circle.proofs.laws.Stepper.{enter_entered}
use Rattle.arc.specs.Centre.{seen_from}
use Rattle.arc.specs.computed.Stepper.{tracer_of, arc_tracer}

entered : (a : Arc) (at : Point) {o : Offset} {r : Stepper} → o ≡ seen_from a.centre at → r ≡ enter_of a.square a.turn o
    → r ≡ enter_of a.square a.turn (seen_from a.centre at)
entered a at e r = r ∙ ap (enter_of a.square a.turn) e

pub enter-requires : goal.enter-requires
enter-requires c = rw c.seen.ensures c.requires.on

pub trace-requires : goal.trace-requires
trace-requires c =
    let a = c.args.a in
    rw (entered a c.args.at c.seen.ensures c.enter.ensures)
    (enter_entered a.square a.turn (seen_from a.centre c.args.at) c.requires.on)

pub returns : goal.returns
unfolding arc_tracer
returns c = c.trace.ensures ∙ ap tracer_of (entered c.args.a c.args.at c.seen.ensures c.enter.ensures)
