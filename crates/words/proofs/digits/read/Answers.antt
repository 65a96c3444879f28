-- `read` is right because it goes over as many bytes as may be digits.
use Rattle.std.proofs.Common.{arith, sym, ap, ◌∙◌, ◌<◌, get_or, take, length-take}
use Rattle.words.specs.laws.Run.{counted_next, counted_over}
use Rattle.words.proofs.digits.read.Goals as goal

pub loop-b-preserved : goal.loop-b-preserved
loop-b-preserved c =
    let s = c.args.rest.now in
    let m = c.min.result in
    let v = c.loop-b.invariant in
    let here : c.loop-b.d.count < m = omega (arith, c.loop-b-test.true, length-take m s, v.index, c.min.ensures) in
    let byte = ap (λ n. get_or (take m s) n 0) (sym v.index) in
    let digit = sym c.is_digit.ensures ∙ c.if-not-is_digit.false in
    record {
      counted =
          counted_next v.counted (omega (arith, here, c.min.ensures)) m _ byte here (omega (arith, c.min.ensures)) digit;
      index = omega (arith, v.index);
    }

pub returns-clause-value : goal.returns-clause-value
returns-clause-value c =
    let s = c.args.rest.now in
    let v = c.loop-b.invariant in
    counted_over v.counted (omega (arith, c.loop-b-test.false, length-take c.min.result s, v.index, c.min.ensures))
