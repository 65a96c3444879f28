use Rattle.std.proofs.Common.{rules, arith}
use borrow.Author.Tests.{not-true}
use Rattle.stream.specs.laws.Fill.{fill_less}
use Rattle.jobticks.proofs.write_ticks.Goals as goal

pub loop-stream-smaller : goal.loop-stream-smaller
loop-stream-smaller c =
    fill_less c.fill-filled.ensures (omega (arith, c.loop-stream.invariant)) (search rules) (not-true _ c.loop-stream-test.true)
