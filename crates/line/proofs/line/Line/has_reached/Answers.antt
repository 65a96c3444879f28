-- Each axis has gone what "Lines" gives exactly where the point has.
use Rattle.std.proofs.Common.{sym, ◌∙◌}
use Rattle.plane.specs.laws.Point.{length_x, length_y, joined_x, joined_y}
use Rattle.line.specs.Line.{increment_x, increment_y, line_point}
use Rattle.line.specs.laws.Signed.{axis_reached}
use Rattle.line.specs.laws.Work.{drawn, axis_x, axis_y}
use Rattle.line.proofs.line.Line.has_reached.Goals as goal

pub axis_at-requires : goal.axis_at-requires
axis_at-requires c =
    let l = c.args.self in
    rw (length_x l.start l.end c.between-way.ensures) (axis_x l (drawn c.requires))

pub axis_at-requires-then-axis_at : goal.axis_at-requires-then-axis_at
axis_at-requires-then-axis_at c =
    let l = c.args.self in
    rw (length_y l.start l.end c.between-way.ensures) (axis_y l (drawn c.requires))

pub returns-then-axis_at : goal.returns-then-axis_at
unfolding line_point
returns-then-axis_at c =
    let l = c.args.self in
    let d = drawn c.requires in
    let x =
    c.axis_at.ensures
    ∙ axis_reached l.start.x c.args.at.x (increment_x l.start l.end) l.done d.own
    (joined_x l.start l.end c.between-way.ensures) (joined_x l.start c.args.at c.between-gone.ensures) in
    c.axis_at-then-axis_at.ensures
    ∙ axis_reached l.start.y c.args.at.y (increment_y l.start l.end) l.done d.own
    (joined_y l.start l.end c.between-way.ensures) (joined_y l.start c.args.at c.between-gone.ensures)
    ∙ rw (sym x ∙ c.if-axis_at.true)

pub returns-else-axis_at : goal.returns-else-axis_at
unfolding line_point
returns-else-axis_at c =
    let l = c.args.self in
    let d = drawn c.requires in
    let x =
    c.axis_at.ensures
    ∙ axis_reached l.start.x c.args.at.x (increment_x l.start l.end) l.done d.own
    (joined_x l.start l.end c.between-way.ensures) (joined_x l.start c.args.at c.between-gone.ensures) in
    c.if-axis_at.false ∙ rw (sym x ∙ c.if-axis_at.false)
