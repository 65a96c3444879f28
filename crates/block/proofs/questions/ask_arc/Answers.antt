-- What `ends_on_circle` and `stays` ask of an arc that begins in travel.
use Rattle.std.proofs.Common.{sym, ◌∙◌, arith}
use Rattle.plane.specs.laws.Travel.{inside, travel_near}
use Rattle.block.proofs.questions.ask_arc.Goals as goal

pub ends_on_circle-requires : goal.ends_on_circle-requires
ends_on_circle-requires c =
    let n = travel_near c.requires.wide (inside c.requires.end_in_lem) in
    (c.requires.centre, record { x = omega (arith, n.x); y = omega (arith, n.y) })

pub stays-requires : goal.stays-requires
stays-requires c = (
  record {
    centre = c.requires.centre;
    here = travel_near c.requires.wide (inside c.requires.start_in);
    there = travel_near c.requires.wide (inside c.requires.end_in_lem);
    on = c.requires.on;
    end_on = sym c.ends_on_circle.ensures ∙ c.if-not-ends_on_circle.false;
  },
  c.requires.wide,
  c.requires.start_in,
)
