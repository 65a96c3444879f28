-- Each axis has moved what its point shows.
use Rattle.std.proofs.Common.{sym, ap, ◌∙◌, ℕ}
use Rattle.plane.specs.declared.point.Increments.{Increments}
use Rattle.plane.specs.laws.Point.{length_x, length_y}
use Rattle.line.specs.Line.{axis_steps}
use Rattle.line.specs.computed.Stepper.{track_of, stepper_of}
use Rattle.line.specs.laws.Work.{line_at_lem, axis_x, axis_y, gone_x, gone_y}
use Rattle.line.proofs.stepper.Stepper.enter.Goals as goal

pub track_after-requires : goal.track_after-requires
track_after-requires c =
    let l = c.args.l in
    let w = line_at_lem c.requires in
    let way = length_x l.start l.end c.between-way.ensures in (
      rw way (axis_x l w.drawing),
      length_x l.start c.args.at c.between-gone.ensures ∙ gone_x l c.args.at w
          ∙ ap (λ (a : ℕ). axis_steps l.cycles a l.done) (sym way),
    )

pub track_after-requires-2 : goal.track_after-requires-2
track_after-requires-2 c =
    let l = c.args.l in
    let w = line_at_lem c.requires in
    let way = length_y l.start l.end c.between-way.ensures in (
      rw way (axis_y l w.drawing),
      length_y l.start c.args.at c.between-gone.ensures ∙ gone_y l c.args.at w
          ∙ ap (λ (a : ℕ). axis_steps l.cycles a l.done) (sym way),
    )

pub returns : goal.returns
unfolding stepper_of
returns c =
    let l = c.args.l in
    let way = c.between-way.ensures in
    let x = c.track_after.ensures ∙ ap (λ (w : Increments). track_of l.cycles w.x.magnitude w.x.negative l.done) way in
    let y = c.track_after-2.ensures ∙ ap (λ (w : Increments). track_of l.cycles w.y.magnitude w.y.negative l.done) way in
    λ i. record { capacity = l.cycles; x = x i; y = y i }
