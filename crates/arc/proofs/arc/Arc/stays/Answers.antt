-- The circle's test without a walk says that every point still to visit is inside.
use Rattle.std.proofs.Common.{◌∙◌}
use Rattle.plane.specs.laws.Travel.{inside}
use Rattle.arc.specs.laws.Arc.{stays_visits}
use Rattle.arc.proofs.arc.Arc.stays.Goals as goal

pub stays_inside-requires : goal.stays_inside-requires
stays_inside-requires c =
    (rw c.seen.ensures c.requires.0.on, rw c.seen-2.ensures c.requires.0.end_on)

pub returns : goal.returns
returns c =
    c.stays_inside.ensures
    ∙ rw (c.room.ensures, c.seen.ensures, c.seen-2.ensures)
    (stays_visits c.args.self c.args.at c.requires.0 c.args.travel (inside c.requires.2))
