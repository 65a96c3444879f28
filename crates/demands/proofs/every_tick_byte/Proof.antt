-- `every_tick_byte` is right because a block run to its end is its ticks, and pieces of a run are the run.
use Rattle.demands.proofs.laws.TickBytes.{every_tick_byte}
use Rattle.demands.proofs.every_tick_byte.Statement.{statement}
use Rattle.demands.proofs.every_tick_byte.Tie as tie

returns : tie.Need-returns
returns c = every_tick_byte

pub every_tick_byte_spec : {M : Type 1} → statement M
every_tick_byte_spec = tie.close (tie.spec returns)
