-- The divider says whether a cycle is due, and then the cycle is done.
use Rattle.work.specs.laws.Cycle.{tick_cycle, tick_none}
use Rattle.work.proofs.work_tick.Goals as goal

pub returns-then-fed : goal.returns-then-fed
returns-then-fed c =
    tick_cycle c.args.capacity c.args.at c.args.remainder c.args.work c.feed-fed.ensures c.if-fed.true c.work_cycle-cycle.ensures

pub returns : goal.returns
returns c = tick_none c.args.capacity c.args.at c.args.remainder c.args.work c.feed-fed.ensures c.if-fed.false
