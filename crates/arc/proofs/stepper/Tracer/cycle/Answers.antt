-- The codes of its move are those of the quadrant, which are found anew where the quadrant changes.
use Rattle.std.proofs.Common.{ap, rules}
use Rattle.circle.specs.computed.Stepper.{Entered}
use Rattle.circle.proofs.laws.Stepper.{advance_entered}
use Rattle.arc.specs.declared.stepper.Tracer.{Tracer}
use Rattle.arc.specs.laws.Stepper.{tracer_small, traced_on, traced_over}
use Rattle.arc.proofs.stepper.Tracer.cycle.Goals as goal

pub code-code-requires : goal.code-code-requires
code-code-requires c = tracer_small c.requires

pub advance-next-requires : goal.advance-next-requires
advance-next-requires c = (c.requires.entered, ap (λ (x : Tracer). x.next) c.requires.is)

-- the stepper stands on the circle before the advance and after it
pub next_move-requires : goal.next_move-requires
next_move-requires c =
    let here = c.requires.entered in
    let there : Entered c.advance-next.result = rw c.advance-next.ensures (advance_entered here) in
    search rules

pub returns-then-next-self : goal.returns-then-next-self
returns-then-next-self c =
    traced_on c.args.self c.requires c.code-code.ensures c.advance-next.ensures c.if-next-self.true c.next_move.ensures

pub trace-requires : goal.trace-requires
trace-requires c =
    rw c.advance-next.ensures (advance_entered c.requires.entered)

pub returns : goal.returns
returns c =
    traced_over c.args.self c.requires c.code-code.ensures c.advance-next.ensures c.trace.ensures
