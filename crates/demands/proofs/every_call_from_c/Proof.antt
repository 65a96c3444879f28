-- `every_call_from_c` is right because words and sound records tell each other.
use Rattle.demands.proofs.laws.FromC.{every_call_from_c}
use Rattle.demands.proofs.every_call_from_c.Statement.{statement}
use Rattle.demands.proofs.every_call_from_c.Tie as tie

returns : tie.Need-returns
returns c = every_call_from_c

pub every_call_from_c_spec : {M : Type 1} → statement M
every_call_from_c_spec = tie.close (tie.spec returns)
