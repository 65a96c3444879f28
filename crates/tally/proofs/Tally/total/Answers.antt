-- It writes its own numbers, whatever they are.
use Rattle.std.proofs.Common.{rules}
use Rattle.row.specs.laws.Buffer.{total_short}
use Rattle.tally.proofs.Tally.total.Goals as goal

pub returns-clause-short : goal.returns-clause-short
returns-clause-short c = total_short _ _ _ (search rules) (search rules) (search rules) (search rules)
