-- It adds to each coordinate of the start what its axis has moved; the sum lies between start and end.
use Rattle.std.proofs.Common.{rules, ap, ap₂, ◌∙◌, arith, ℕ, SFits}
use Rattle.std.specs.Prelude.{ℤ, ◌+ℤ◌}
use Rattle.std.specs.Int.{w64}
use mir.Facts.{to_z-of_z}
use Rattle.plane.specs.laws.Point.{length_x, length_y, joined_x, joined_y}
use Rattle.plane.specs.laws.Fits.{FitsPoint}
use Rattle.line.specs.Line.{axis_moved, line_point}
use Rattle.line.specs.laws.Points.{point_fits}
use Rattle.line.specs.laws.Work.{drawn, axis_x, axis_y, some_cycle}
use Rattle.line.proofs.line.Line.point.Goals as goal

pub axis_moved-requires : goal.axis_moved-requires
axis_moved-requires c = let l = c.args.self in rw (length_x l.start l.end c.between-way.ensures) (axis_x l (drawn c.requires))

pub overflow_add-result : goal.overflow_add-result
unfolding line_point
overflow_add-result c =
    let l = c.args.self in
    let d = drawn c.requires in
    let start : FitsPoint l.start = record { x = search rules; y = search rules } in
    let end : FitsPoint l.end = record { x = search rules; y = search rules } in
    let fits = point_fits l.start l.end (some_cycle l d) l.done (omega (arith, d.own, d.due)) start end in
    let start_x : SFits w64 l.start.x = search rules in
    let way_x : SFits w64 c.axis_moved.result = search rules in
    let x = ap (λ (m : ℤ). l.start.x +ℤ m)
    (c.axis_moved.ensures ∙ ap₂ (λ (q : ℕ) (a : ℤ). axis_moved q a l.done) d.own (joined_x l.start l.end c.between-way.ensures)) in
    simp to_z-of_z (rw x fits.x)

pub axis_moved-requires-2 : goal.axis_moved-requires-2
axis_moved-requires-2 c = let l = c.args.self in rw (length_y l.start l.end c.between-way.ensures) (axis_y l (drawn c.requires))

pub overflow_add-result-2 : goal.overflow_add-result-2
unfolding line_point
overflow_add-result-2 c =
    let l = c.args.self in
    let d = drawn c.requires in
    let start : FitsPoint l.start = record { x = search rules; y = search rules } in
    let end : FitsPoint l.end = record { x = search rules; y = search rules } in
    let fits = point_fits l.start l.end (some_cycle l d) l.done (omega (arith, d.own, d.due)) start end in
    let start_y : SFits w64 l.start.y = search rules in
    let way_y : SFits w64 c.axis_moved-2.result = search rules in
    let y = ap (λ (m : ℤ). l.start.y +ℤ m)
    (c.axis_moved-2.ensures ∙ ap₂ (λ (q : ℕ) (a : ℤ). axis_moved q a l.done) d.own (joined_y l.start l.end c.between-way.ensures)) in
    simp to_z-of_z (rw y fits.y)

pub returns : goal.returns
unfolding line_point
returns c =
    let l = c.args.self in
    let d = drawn c.requires in
    let start : FitsPoint l.start = record { x = search rules; y = search rules } in
    let end : FitsPoint l.end = record { x = search rules; y = search rules } in
    let fits = point_fits l.start l.end (some_cycle l d) l.done (omega (arith, d.own, d.due)) start end in
    let start_x : SFits w64 l.start.x = search rules in
    let way_x : SFits w64 c.axis_moved.result = search rules in
    let start_y : SFits w64 l.start.y = search rules in
    let way_y : SFits w64 c.axis_moved-2.result = search rules in
    let x = ap (λ (m : ℤ). l.start.x +ℤ m)
    (c.axis_moved.ensures ∙ ap₂ (λ (q : ℕ) (a : ℤ). axis_moved q a l.done) d.own (joined_x l.start l.end c.between-way.ensures)) in
    let y = ap (λ (m : ℤ). l.start.y +ℤ m)
    (c.axis_moved-2.ensures ∙ ap₂ (λ (q : ℕ) (a : ℤ). axis_moved q a l.done) d.own (joined_y l.start l.end c.between-way.ensures)) in
    let sum_x : SFits w64 (l.start.x +ℤ c.axis_moved.result) = rw x fits.x in
    let sum_y : SFits w64 (l.start.y +ℤ c.axis_moved-2.result) = rw y fits.y in
    simp to_z-of_z (λ i. record { x = x i; y = y i })
