-- `work_of` is right because it asks the kinds in the definition's order.
use Rattle.std.proofs.Common.{rules, sym, w64, SFits, to_z-of_z}
use borrow.Author.Tests.{eq-eqb, ne_eqb}
use Rattle.encoding.specs.computed.Words.{work_read}
use Rattle.encoding.specs.laws.Kind.{arc_told, nothing_told}
use Rattle.encoding.proofs.decode.work_of.Goals as goal

pub returns-then-kind-eq1 : goal.returns-then-kind-eq1
unfolding work_read
returns-then-kind-eq1 c =
    let f : SFits w64 c.args.w.kind = search rules in
    rw (sym (simp to_z-of_z at c.count-kind.ensures), eq-eqb _ _ c.if-kind-eq1.true, c.line_of.ensures)

pub returns-in-Ok : goal.returns-in-Ok
unfolding work_read
returns-in-Ok c =
    let f : SFits w64 c.args.w.kind = search rules in
    rw (sym (simp to_z-of_z at c.count-kind.ensures), ne_eqb _ _ c.if-kind-eq1.false, c.arc_of.ensures)
    (arc_told c.args.w _ _ _ c.in-Ok.ensures)

pub returns-in-Err : goal.returns-in-Err
unfolding work_read
returns-in-Err c =
    let f : SFits w64 c.args.w.kind = search rules in
    rw (sym (simp to_z-of_z at c.count-kind.ensures), ne_eqb _ _ c.if-kind-eq1.false)
    (nothing_told c.args.w _ _ _ c.in-Err.ensures)
