-- A sum that is there already takes no tick, and else it is the definition.
use Rattle.std.proofs.Common.{rules}
use Rattle.divider.specs.Divider.{end_tick}
use Rattle.divider.specs.computed.Divider.{last_tick}
use Rattle.divider.proofs.last_tick.Goals as goal

pub returns : goal.returns
unfolding last_tick end_tick
returns c = search rules
