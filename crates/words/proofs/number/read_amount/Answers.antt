-- `read_amount` is right because at most ten digits, in thousandths, stay far below 2 ^ 64.
use Rattle.std.proofs.Common.{arith}
use Rattle.words.specs.laws.Run.{whole_below, scaled_below}
use Rattle.words.proofs.number.read_amount.Goals as goal

pub read-d-requires-clause-value_bound : goal.read-d-requires-clause-value_bound
read-d-requires-clause-value_bound c = whole_below c.read-w.ensures.sized

pub overflow_mul-result-2 : goal.overflow_mul-result-2
overflow_mul-result-2 c =
    rw c.place.ensures (omega (arith, scaled_below c.read-d.ensures.sized (omega arith) (whole_below c.read-w.ensures.sized)))
