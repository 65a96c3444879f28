use Rattle.std.proofs.Common.{refl, ◌∙◌}
use Rattle.jobwhere.specs.laws.Asked.{ask_end, ask_empty, ask_ticks, ask_many, ask_other, ask_on}
use Rattle.jobwhere.proofs.ask.Goals as goal

pub returns-then-at-eq0 : goal.returns-then-at-eq0
returns-then-at-eq0 c = ask_empty c.loop-at.invariant c.loop-at-test.true c.if-b-eq10.true c.if-at-eq0.true

pub returns-else-at-eq0 : goal.returns-else-at-eq0
returns-else-at-eq0 c = ask_ticks c.loop-at.invariant c.loop-at-test.true c.if-b-eq10.true c.if-at-eq0.false

pub returns-then-at-eq-MOST_DIGITS : goal.returns-then-at-eq-MOST_DIGITS
returns-then-at-eq-MOST_DIGITS c =
    ask_many c.loop-at.invariant c.loop-at-test.true c.if-b-eq10.false c.if-at-eq-MOST_DIGITS.true

pub returns-in_err-n : goal.returns-in_err-n
returns-in_err-n c =
    c.from_residual.ensures
    ∙ ask_other c.loop-at.invariant c.loop-at-test.true c.if-b-eq10.false c.if-at-eq-MOST_DIGITS.false c.in_err-n.ensures refl

pub loop-at-preserved : goal.loop-at-preserved
loop-at-preserved c =
    ask_on c.loop-at.invariant c.loop-at-test.true c.if-b-eq10.false c.if-at-eq-MOST_DIGITS.false c.in_ok-n.ensures refl

pub returns : goal.returns
returns c = ask_end c.loop-at.invariant c.loop-at-test.false
