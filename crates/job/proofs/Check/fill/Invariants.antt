-- Invariant of `fill`: what the buffer has got and what is still to come are what was to come at first. Each step leaves fewer.
use lib.ListN.{length}
use Rattle.job.specs.computed.Check.{steps_left}
use Rattle.job.specs.laws.Fill.{Filling}
use Rattle.job.proofs.Check.fill.Given as goal

abbrev pub invariant-loop-out : goal.invariant-loop-out
invariant-loop-out l = Filling l.initial.check l.text l.initial.out l.out l.check l.len

abbrev pub decreases-loop-out : goal.decreases-loop-out
decreases-loop-out l = steps_left l.check.stage l.check.at (length l.text)
