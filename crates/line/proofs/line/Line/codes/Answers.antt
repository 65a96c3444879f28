-- The registers' pulses are the ones that lead from the point to the next.
use Rattle.std.proofs.Common.{sym, ap, ◌∙◌, ℕ}
use Rattle.plane.specs.laws.Point.{length_x, length_y}
use Rattle.line.specs.Line.{axis_steps}
use Rattle.line.specs.computed.Line.{stepped_of}
use Rattle.line.specs.laws.Pulses.{pulses_next, codes_are}
use Rattle.line.specs.laws.Work.{line_at_lem, some_cycle, axis_x, axis_y, gone_x, gone_y}
use Rattle.line.proofs.line.Line.codes.Goals as goal

pub axis_code-requires : goal.axis_code-requires
axis_code-requires c =
    let l = c.args.self in
    let w = line_at_lem c.requires in
    let way = length_x l.start l.end c.between-way.ensures in (
      rw way (axis_x l w.drawing),
      length_x l.start c.args.at c.between-gone.ensures ∙ gone_x l c.args.at w
          ∙ ap (λ (a : ℕ). axis_steps l.cycles a l.done) (sym way),
    )

pub axis_code-requires-2 : goal.axis_code-requires-2
axis_code-requires-2 c =
    let l = c.args.self in
    let w = line_at_lem c.requires in
    let way = length_y l.start l.end c.between-way.ensures in (
      rw way (axis_y l w.drawing),
      length_y l.start c.args.at c.between-gone.ensures ∙ gone_y l c.args.at w
          ∙ ap (λ (a : ℕ). axis_steps l.cycles a l.done) (sym way),
    )

pub returns : goal.returns
unfolding stepped_of
returns c =
    let l = c.args.self in
    let d = (line_at_lem c.requires).drawing in
    let some = some_cycle l d in
    let x_is = c.axis_code.ensures in
    let y_is = c.axis_code-2.ensures in
    (λ i. record { x = x_is i; y = y_is i })
    ∙ codes_are l.start l.end some l.done c.between-way.ensures d.own
    ∙ sym (pulses_next l.start l.end some l.done)
