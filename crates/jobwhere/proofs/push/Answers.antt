-- The tests are the definition's, without a sum that could be too large.
use Rattle.jobwhere.specs.laws.Asked.{push_other, push_large, push_digit}
use Rattle.jobwhere.proofs.push.Goals as goal

pub returns-then-not-is_ascii_digit : goal.returns-then-not-is_ascii_digit
returns-then-not-is_ascii_digit c = push_other c.args.n c.args.b c.if-not-is_ascii_digit.ensures.cases

pub returns-then-digit-n : goal.returns-then-digit-n
returns-then-digit-n c =
    let digit = c.if-not-is_ascii_digit.ensures.cases in
    push_large c.args.n c.args.b digit.0 digit.1 c.if-digit-n.true

pub returns : goal.returns
returns c =
    let digit = c.if-not-is_ascii_digit.ensures.cases in
    push_digit c.args.n c.args.b digit.0 digit.1 c.if-digit-n.false
