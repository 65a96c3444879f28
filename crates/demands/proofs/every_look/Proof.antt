-- `every_look` is right because the look's contract is the ticks' own definition, and a history and its ticks are a history.
use Rattle.history.proofs.laws.Look.{every_look}
use Rattle.demands.proofs.every_look.Statement.{statement}
use Rattle.demands.proofs.every_look.Tie as tie

returns : tie.Need-returns
returns c = every_look

pub every_look_spec : {M : Type 1} → statement M
every_look_spec = tie.close (tie.spec returns)
