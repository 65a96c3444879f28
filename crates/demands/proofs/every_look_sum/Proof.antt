-- `every_look_sum` is right because the pulses of ticks lead from the point to the point after them.
use Rattle.history.proofs.laws.Look.{every_look_sum}
use Rattle.demands.proofs.every_look_sum.Statement.{statement}
use Rattle.demands.proofs.every_look_sum.Tie as tie

returns : tie.Need-returns
returns c = every_look_sum

pub every_look_sum_spec : {M : Type 1} → statement M
every_look_sum_spec = tie.close (tie.spec returns)
