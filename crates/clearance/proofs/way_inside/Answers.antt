-- It is the definition, test by test, and circle points are small.
use Rattle.std.proofs.Common.{arith}
use Rattle.circle.specs.declared.plane.Turn.TheVariants.{Counterclockwise}
use Rattle.circle.proofs.laws.Circle.{on_circle_to, on_circle_small}
use Rattle.circle.proofs.laws.Count.{ranked}
use Rattle.clearance.specs.laws.Code.{crossing}
use Rattle.clearance.proofs.way_inside.Goals as goal

pub inside-requires : goal.inside-requires
inside-requires c = omega (arith, on_circle_small c.args.n c.args.p c.requires.0)

pub inside-requires-then-inside : goal.inside-requires-then-inside
inside-requires-then-inside c = omega (arith, on_circle_small c.args.n c.args.e c.requires.1)

pub axes_passed-requires : goal.axes_passed-requires
axes_passed-requires c =
    rw (c.place_of-from.ensures, c.place_of.ensures)
    (crossing c.args.n Counterclockwise c.args.p c.args.e c.requires.0 c.requires.1)

pub axes_clear-requires : goal.axes_clear-requires
axes_clear-requires c =
    rw c.place_of-from.ensures
    ((on_circle_to c.args.n c.args.p c.requires.0).bound, (ranked c.args.n Counterclockwise c.args.p c.requires.0).four)
