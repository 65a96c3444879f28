-- Each turn leaves less to come, since the buffer holds a row.
use Rattle.std.proofs.Common.{◌≡◌, length}
use Rattle.job.specs.laws.Fill.{to_come}
use Rattle.jobcheck.proofs.write_listing.Given as goal

abbrev pub invariant-loop-out : goal.invariant-loop-out
invariant-loop-out l = 8192 ≡ length l.out

abbrev pub decreases-loop-out : goal.decreases-loop-out
decreases-loop-out l = to_come l.check l.text
