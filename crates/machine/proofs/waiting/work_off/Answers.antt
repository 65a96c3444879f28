-- `work_off` is right because each case of what is in work is asked its own root, and has its own count.
use Rattle.std.proofs.Common.{refl, sym, ◌∙◌, arith, eqb-true, eq-eqb}
use borrow.Author.Tests.{ne_eqb}
use Rattle.work.specs.declared.Work.{Work}
use Rattle.work.specs.laws.Left.{rooted}
use Rattle.machine.specs.laws.Right.{off_rooted, off_unrooted, off_whole}
use Rattle.machine.proofs.waiting.work_off.Goals as goal

pub overflow_mul-a : goal.overflow_mul-a
overflow_mul-a c = omega (arith, rw c.in-Arc.is at (rooted c.args.at c.args.work c.requires))

pub is_nearest_root-requires : goal.is_nearest_root-requires
is_nearest_root-requires c = omega (arith, rw c.in-Arc.is at (rooted c.args.at c.args.work c.requires))

pub returns-in-Nothing : goal.returns-in-Nothing
returns-in-Nothing c = rw c.in-Nothing.is (off_whole c.args.at c.args.root c.args.count c.if-root-eq0.true)

pub returns-in-Line : goal.returns-in-Line
returns-in-Line c =
    rw c.in-Line.is (off_rooted _ (Work.Line _) _ _ (eq-eqb _ _ c.if-root-l.true) refl c.checked_sub.ensures)

pub cycles-requires : goal.cycles-requires
cycles-requires c =
    (rw c.in-Arc.is at c.requires, eqb-true _ _ (sym c.is_nearest_root.ensures ∙ c.if-is_nearest_root.true))

pub returns-in-Arc : goal.returns-in-Arc
returns-in-Arc c =
    rw c.in-Arc.is
    (off_rooted _ (Work.Arc _) _ _ (sym c.is_nearest_root.ensures ∙ c.if-is_nearest_root.true) c.cycles.ensures
    c.checked_sub-in-Arc.ensures)

pub returns-in_default : goal.returns-in_default
returns-in_default c = rw c.in-Nothing.is (off_unrooted _ Work.Nothing _ _ refl (ne_eqb _ 0 c.if-root-eq0.false))

pub returns-in_default-2 : goal.returns-in_default-2
returns-in_default-2 c = rw c.in-Line.is (off_unrooted _ (Work.Line _) _ _ refl (ne_eqb _ _ c.if-root-l.false))

pub returns-in_default-3 : goal.returns-in_default-3
returns-in_default-3 c =
    rw c.in-Arc.is (off_unrooted _ (Work.Arc _) _ _ c.is_nearest_root.ensures c.if-is_nearest_root.false)
