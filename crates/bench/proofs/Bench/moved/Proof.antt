-- `moved` is right because it writes the record of the definition.
use mathlib.Core.Path.{refl}
use Rattle.bench.specs.Bench.{moved_of}
use Rattle.bench.proofs.Bench.moved.Statement.{statement}
use Rattle.bench.proofs.Bench.moved.Tie as tie

returns : tie.Need-returns
unfolding moved_of
returns c = refl

pub moved_spec : {M : Type 1} → statement M
moved_spec = tie.close (tie.spec returns)
