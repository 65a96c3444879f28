use Rattle.std.proofs.Common.{arith, ◌+◌, ◌-◌}
use Rattle.row.specs.laws.Decimal.{digits_least}
use Rattle.row.specs.laws.Behind.{behind_none, behind_more, behind_all}
use Rattle.row.proofs.push.digits.Goals as goal

pub loop-m-init : goal.loop-m-init
loop-m-init c =
    let a = c.args in
    behind_none a.n a.out.now a.at (a.at + c.width.result) (omega (arith, c.width.ensures)) (omega (arith, c.requires, c.width.ensures))

pub overflow_sub-i : goal.overflow_sub-i
overflow_sub-i c = omega (arith, digits_least c.loop-m.m, c.loop-m.invariant.room)

pub bounds-out-i : goal.bounds-out-i
bounds-out-i c =
    let v = c.loop-m.invariant in
    omega (arith, digits_least c.loop-m.m, v.room, v.puts.most, v.puts.within, v.puts.place, c.loop-m.auto.out)

pub loop-m-preserved : goal.loop-m-preserved
loop-m-preserved c =
    let l = c.loop-m in
    behind_more l.invariant (l.i - 1) (omega (arith, digits_least l.m, l.invariant.room)) c.loop-m-test.true

pub bounds-out-at : goal.bounds-out-at
bounds-out-at c =
    let v = c.loop-m.invariant in
    omega (arith, digits_least c.loop-m.m, v.room, v.puts.within, v.puts.place, c.loop-m.auto.out)

pub returns : goal.returns
returns c = behind_all c.loop-m.invariant (omega (arith, c.loop-m-test.false))
