-- `every_call` is right because each contract is an equation, whose refusals no question asks for.
use Rattle.demands.proofs.laws.Calls.{every_call}
use Rattle.demands.proofs.every_call.Statement.{statement}
use Rattle.demands.proofs.every_call.Tie as tie

returns : tie.Need-returns
returns c = every_call

pub every_call_spec : {M : Type 1} → statement M
every_call_spec = tie.close (tie.spec returns)
