-- One line more is still a count that a text can reach.
use Rattle.std.proofs.Common.{arith}
use Rattle.tally.specs.laws.Counts.{counts}
use Rattle.tally.proofs.Tally.passed.Goals as goal

pub overflow_add-result : goal.overflow_add-result
overflow_add-result c = omega (arith, (counts _ c.requires).lines)
