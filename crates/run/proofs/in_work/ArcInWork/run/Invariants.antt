-- Each turn goes over a gap of cleared bytes to the next cycle, of its own due.
use Rattle.std.proofs.Common.{◌-◌}
use Rattle.arc.specs.computed.Stepper.{tracer_at}
use Rattle.work.specs.declared.Work.{Work}
use Rattle.run.specs.computed.Run.{strip_of}
use Rattle.run.specs.laws.Cycling.{Cycling}
use Rattle.run.specs.laws.ArcRun.{StandsOn}
use Rattle.run.proofs.in_work.ArcInWork.run.Given as goal

abbrev pub invariant-loop-gap : goal.invariant-loop-gap
invariant-loop-gap l =
    Cycling l.fn.self.capacity l.fn.self.arc.feed l.most
    (strip_of l.fn.self.capacity l.most (tracer_at l.fn.self.arc.centre l.initial.tracer) l.fn.self.remainder
    (Work.Arc l.fn.self.arc)) l.initial.out
    l.out l.last l.n 0 l.cycles (tracer_at l.fn.self.arc.centre l.tracer) (Work.Arc l.fn.self.arc) l.gap
    × StandsOn l.fn.self.arc l.tracer

abbrev pub decreases-loop-gap : goal.decreases-loop-gap
decreases-loop-gap l = l.last - l.gap.ticks
