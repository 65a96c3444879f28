use borrow.Author.Tests.{not-true}
use Rattle.stream.specs.laws.Fill.{fill_some, read_on_lem}
use Rattle.stream.proofs.Stream.fill.Goals as goal

pub returns-then-ran-gt0 : goal.returns-then-ran-gt0
returns-then-ran-gt0 c =
    let ran = c.run-ran.ensures in
    rw c.at_machine.ensures
    (fill_some c.loop-stream.invariant (not-true _ c.loop-stream-test.true) ran.value ran.out_after c.if-ran-gt0.true)

pub loop-stream-preserved : goal.loop-stream-preserved
loop-stream-preserved c =
    let ran = c.run-ran.ensures in
    read_on_lem c.loop-stream.invariant (not-true _ c.loop-stream-test.true) ran.value ran.out_after c.if-ran-gt0.false
    c.next_line-stream.ensures
