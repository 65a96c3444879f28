-- The pulses of the next cycle lead to its point.
use Rattle.std.proofs.Common.{rules, ◌≡◌, ap, ◌∙◌, arith, ◌+◌}
use Rattle.plane.specs.declared.point.Point.{Point}
use Rattle.plane.specs.declared.pulse.Pulses.{Pulses}
use Rattle.plane.specs.Pulse.{shifted_of}
use Rattle.plane.specs.laws.Fits.{FitsPoint}
use Rattle.line.specs.declared.line.Line.{Line}
use Rattle.line.specs.computed.Line.{stepped_of}
use Rattle.line.specs.laws.Work.{line_at_lem, axis_x, stepped_at, stepped_fits}
use Rattle.line.proofs.line.Line.step.Goals as goal

-- a step is its line, its point and its pulses
stepped : (l : Line) {at : Point} {pulses : Pulses} → at ≡ (stepped_of l).at → pulses ≡ (stepped_of l).pulses
    → record {
      line = record { start = l.start; end = l.end; feed = l.feed; cycles = l.cycles; done = l.done + 1 };
      at = at;
      pulses =
          pulses;
    } ≡ stepped_of l
unfolding stepped_of
stepped l at pulses = λ i. record {
  line =
      record { start = l.start; end = l.end; feed = l.feed; cycles = l.cycles; done = l.done + 1 };
  at = at i;
  pulses = pulses i;
}

pub overflow_add-result : goal.overflow_add-result
overflow_add-result c = let d = (line_at_lem c.requires).drawing in omega (arith, d.due, (axis_x c.args.self d).wide)

pub pulsed-requires : goal.pulsed-requires
pulsed-requires c =
    let l = c.args.self in
    let start : FitsPoint l.start = record { x = search rules; y = search rules } in
    let end : FitsPoint l.end = record { x = search rules; y = search rules } in
    let f = stepped_fits l c.args.at (line_at_lem c.requires) start end in
    rw c.codes-pulses.ensures (f.x, f.y)

pub returns : goal.returns
returns c =
    let l = c.args.self in
    stepped l (c.pulsed.ensures ∙ ap (shifted_of c.args.at) c.codes-pulses.ensures ∙ stepped_at l c.args.at (line_at_lem c.requires))
    c.codes-pulses.ensures
