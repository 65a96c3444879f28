-- After each pass the ticks that are left lead to the same record. A pass takes one of them at least.
use Rattle.std.proofs.Common.{refl, sym, ◌∙◌, arith}
use Rattle.machine.specs.laws.Right.{sound}
use Rattle.look.specs.laws.Ticks.{ticking_none, ticking_still}
use Rattle.look.specs.laws.Pass.{passed_most, passed_some, passed_on}
use Rattle.look.proofs.after_ticks.Goals as goal

pub loop-left-init : goal.loop-left-init
loop-left-init c = (c.requires, refl)

pub returns-then-not-works : goal.returns-then-not-works
returns-then-not-works c =
    let l = c.loop-left in
    sym (l.invariant.1 ∙ ticking_still l.now l.invariant.0 (sym c.works.ensures ∙ c.if-not-works.true) l.left)

pub pass-p-requires : goal.pass-p-requires
pass-p-requires c = (c.loop-left.invariant.0, sym c.works.ensures ∙ c.if-not-works.false)

pub overflow_sub-left : goal.overflow_sub-left
overflow_sub-left c = passed_most c.loop-left.now c.loop-left.left c.pass-p.ensures

pub loop-left-smaller : goal.loop-left-smaller
loop-left-smaller c =
    let l = c.loop-left in
    omega (arith, passed_some l.now l.left c.pass-p.ensures c.loop-left-test.true, passed_most l.now l.left c.pass-p.ensures)

pub loop-left-preserved : goal.loop-left-preserved
loop-left-preserved c =
    let l = c.loop-left in
    let on = passed_on l.now l.left c.pass-p.ensures l.invariant.0 (sym c.works.ensures ∙ c.if-not-works.false) in
    (on.0, l.invariant.1 ∙ on.1)

pub returns : goal.returns
returns c = let l = c.loop-left in sym (l.invariant.1 ∙ ticking_none l.left l.now (omega (arith, c.loop-left-test.false)))
