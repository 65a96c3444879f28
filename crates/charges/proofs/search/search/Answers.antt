-- `search` is right because each number tried is paid or not, so what is paid and `high` close in on one another.
use Rattle.std.proofs.Common.{ℕ, ◌*◌, ◌<◌, arith}
use Rattle.charges.specs.declared.jump.Start.{Start}
use Rattle.charges.specs.computed.Asked.{Started}
use Rattle.charges.specs.laws.Jump.{start_bounds}
use Rattle.charges.specs.laws.Paid.{reached_cycles, search_start, search_paid, search_unpaid, search_end}
use Rattle.charges.proofs.search.search.Goals as goal

-- a full turn has 8,000,000 cycles at most
few : (s : Start) (most : ℕ) → Started s → most < 4 * s.quarter → most < 8000000
few s most h m = omega (arith, start_bounds h)

pub overflow_add-most : goal.overflow_add-most
overflow_add-most c = omega (arith, few c.args.s c.args.most c.requires.0 c.requires.1)

pub loop-low-init : goal.loop-low-init
loop-low-init c =
    let a = c.args in
    search_start a.s a.most a.sum c.requires.0 c.too_many-high.result c.cycles_near.result c.min-next.result c.too_many-high.ensures
    c.cycles_near.ensures c.min-next.ensures

pub too_many-high-requires-then-r-sum : goal.too_many-high-requires-then-r-sum
too_many-high-requires-then-r-sum c =
    omega (arith, c.loop-low.invariant.before c.loop-low-test.true, few c.args.s c.args.most c.requires.0 c.requires.1)

-- the last stride was short
pub stride-step-requires : goal.stride-step-requires
stride-step-requires c = omega (arith, few c.args.s c.args.most c.requires.0 c.requires.1)

pub stride-step-requires-else-r-sum : goal.stride-step-requires-else-r-sum
stride-step-requires-else-r-sum c = omega (arith, few c.args.s c.args.most c.requires.0 c.requires.1)

pub loop-low-smaller-then-r-sum : goal.loop-low-smaller-then-r-sum
loop-low-smaller-then-r-sum c =
    let i = c.loop-low.invariant in
    let t = c.loop-low-test.true in
    omega (
      arith,
      c.too_many-high-then-r-sum.ensures,
      i.after t,
      i.before t,
      reached_cycles c.args.s c.loop-low.next c.after-r.ensures,
    )

pub loop-low-preserved-then-r-sum : goal.loop-low-preserved-then-r-sum
loop-low-preserved-then-r-sum c =
    let a = c.args in
    search_paid a.s a.most a.sum c.loop-low.invariant c.loop-low-test.true c.after-r.result c.after-r.ensures c.if-r-sum.true
    c.too_many-high-then-r-sum.result c.stride-step.result c.too_many-high-then-r-sum.ensures c.stride-step.ensures

pub loop-low-preserved : goal.loop-low-preserved
loop-low-preserved c =
    let a = c.args in
    search_unpaid a.s a.most a.sum c.loop-low.invariant c.loop-low-test.true c.after-r.result c.after-r.ensures c.if-r-sum.false
    c.stride-step-else-r-sum.result c.stride-step-else-r-sum.ensures

pub returns : goal.returns
returns c = search_end c.args.s c.args.most c.args.sum c.loop-low.invariant c.loop-low-test.false
