-- Each turn leaves less to come, since the buffer holds a byte.
use Rattle.std.proofs.Common.{◌≡◌, length}
use Rattle.stream.specs.laws.Fill.{to_come}
use Rattle.jobticks.proofs.write_ticks.Given as goal

abbrev pub invariant-loop-stream : goal.invariant-loop-stream
invariant-loop-stream l = 65536 ≡ length l.out

abbrev pub decreases-loop-stream : goal.decreases-loop-stream
decreases-loop-stream l = to_come l.stream l.text
