-- Invariant of `fill`: the lines read so far made no tick, so all that was to come at first is still to come. Each line leaves fewer.
use lib.ListN.{length}
use Rattle.stream.specs.computed.Stream.{lines_left}
use Rattle.stream.specs.laws.Fill.{Reading}
use Rattle.stream.proofs.Stream.fill.Given as goal

abbrev pub invariant-loop-stream : goal.invariant-loop-stream
invariant-loop-stream l = Reading l.initial.stream l.text l.initial.out l.out l.stream

abbrev pub decreases-loop-stream : goal.decreases-loop-stream
decreases-loop-stream l = lines_left l.stream (length l.text)
