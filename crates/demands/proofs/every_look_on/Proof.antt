-- `every_look_on` is right because s ticks and then t are s + t ticks.
use Rattle.history.proofs.laws.Look.{every_look_on}
use Rattle.demands.proofs.every_look_on.Statement.{statement}
use Rattle.demands.proofs.every_look_on.Tie as tie

returns : tie.Need-returns
returns c = every_look_on

pub every_look_on_spec : {M : Type 1} → statement M
every_look_on_spec = tie.close (tie.spec returns)
