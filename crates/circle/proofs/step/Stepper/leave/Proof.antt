-- `leave` is right because the coordinates of a stepper on the circle are small.
use mathlib.Core.Path.{ap, ◌∙◌}
use native.Mathlib.Omega.{arith}
use Rattle.circle.specs.Circle.{offset}
use Rattle.circle.specs.computed.Step.{seen}
use Rattle.circle.specs.computed.Stepper.{leave_of}
use lib.IntN.{pos}
use Rattle.circle.proofs.laws.Code.{turned_small}
use Rattle.circle.proofs.laws.Stepper.{entered_bounds}
use Rattle.circle.proofs.step.Stepper.leave.Statement.{statement}
use Rattle.circle.proofs.step.Stepper.leave.Tie as tie

point_of-p-requires : tie.Need-point_of-p-requires
point_of-p-requires c κs = let b = entered_bounds c.requires in omega arith

seen_from-requires : tie.Need-seen_from-requires
seen_from-requires c κs =
    let s = c.args.self in
    let b = entered_bounds c.requires in
    rw c.point_of-p.ensures
    (omega (arith, turned_small s.quadrant 1414214 (offset (pos s.along) (pos s.across)) b.along b.across))

returns : tie.Need-returns
unfolding leave_of
returns c = c.seen_from.ensures ∙ ap (seen c.args.self.turn) c.point_of-p.ensures

pub leave_spec : {M : Type 1} → statement M
leave_spec = tie.close (tie.spec point_of-p-requires seen_from-requires returns)
