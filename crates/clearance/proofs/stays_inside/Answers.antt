-- `stays_inside` is right because no way leaves a room that surrounds the circle, and the mirror shows clockwise as counterclockwise.
use Rattle.std.proofs.Common.{◌∙◌, sym, arith}
use Rattle.circle.proofs.laws.Circle.{on_circle_to, on_circle_small}
use Rattle.circle.proofs.laws.Count.{seen_on}
use Rattle.clearance.specs.computed.Travel.{stays_inside}
use Rattle.clearance.specs.laws.Inside.{surrounded}
use Rattle.clearance.proofs.stays_inside.Goals as goal

pub surrounds-requires : goal.surrounds-requires
surrounds-requires c = (on_circle_to c.args.n c.args.p c.requires.0).bound

pub returns-then-surrounds : goal.returns-then-surrounds
returns-then-surrounds c =
    let a = c.args in
    let from = (on_circle_to a.n a.p c.requires.0).circle in
    let to = (on_circle_to a.n a.e c.requires.1).circle in
    sym (surrounded a.turn a.room a.p a.e from to (c.surrounds.ensures c.if-surrounds.true))

pub seen_from-from-requires : goal.seen_from-from-requires
seen_from-from-requires c = omega (arith, on_circle_small c.args.n c.args.p c.requires.0)

pub seen_from-to-requires : goal.seen_from-to-requires
seen_from-to-requires c = omega (arith, on_circle_small c.args.n c.args.e c.requires.1)

pub way_inside-requires : goal.way_inside-requires
way_inside-requires c =
    let a = c.args in
    rw (c.seen_from-from.ensures, c.seen_from-to.ensures) (seen_on a.n a.turn a.p c.requires.0, seen_on a.n a.turn a.e c.requires.1)

pub returns-in-Clockwise : goal.returns-in-Clockwise
unfolding stays_inside
returns-in-Clockwise c =
    c.way_inside.ensures ∙ rw (c.room_from-seen_room.ensures, c.seen_from-from.ensures, c.seen_from-to.ensures)

pub returns-in-Counterclockwise : goal.returns-in-Counterclockwise
unfolding stays_inside
returns-in-Counterclockwise c = c.way_inside-in-Counterclockwise.ensures ∙ rw c.in-Counterclockwise.is
