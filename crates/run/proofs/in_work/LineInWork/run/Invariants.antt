-- Each turn goes over a gap of cleared bytes to the next cycle.
use Rattle.std.proofs.Common.{◌≡◌, ◌-◌}
use Rattle.line.specs.computed.Stepper.{stepper_of}
use Rattle.work.specs.declared.Work.{Work}
use Rattle.run.specs.computed.Run.{strip_of}
use Rattle.run.specs.laws.Cycling.{Cycling}
use Rattle.run.specs.laws.LineRun.{line_after, point_after}
use Rattle.run.proofs.in_work.LineInWork.run.Given as goal

abbrev pub invariant-loop-gap : goal.invariant-loop-gap
invariant-loop-gap l =
    Cycling l.fn.self.capacity l.fn.self.line.feed l.most
    (strip_of l.fn.self.capacity l.most (point_after l.fn.self.line l.fn.self.line.done) l.fn.self.remainder (Work.Line l.fn.self.line))
    l.initial.out l.out l.last l.n l.fn.self.line.done l.cycles (point_after l.fn.self.line l.cycles) (Work.Line
    (line_after l.fn.self.line l.cycles))
    l.gap
    × (l.stepper ≡ stepper_of (line_after l.fn.self.line l.cycles))

abbrev pub decreases-loop-gap : goal.decreases-loop-gap
decreases-loop-gap l = l.last - l.gap.ticks
