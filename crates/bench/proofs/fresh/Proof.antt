-- `fresh` is right because it writes the record of the definition.
use mathlib.Core.Path.{refl}
use Rattle.bench.specs.Bench.{fresh_of}
use Rattle.bench.proofs.fresh.Statement.{statement}
use Rattle.bench.proofs.fresh.Tie as tie

returns : tie.Need-returns
unfolding fresh_of
returns c = refl

pub fresh_spec : {M : Type 1} → statement M
fresh_spec = tie.close (tie.spec returns)
