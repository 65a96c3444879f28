-- `every_panel` is right because each call hands out the next of what was to come, and 81 bytes of a line are enough.
use Rattle.demands.proofs.laws.Panel.{every_panel}
use Rattle.demands.proofs.every_panel.Statement.{statement}
use Rattle.demands.proofs.every_panel.Tie as tie

returns : tie.Need-returns
returns c = every_panel

pub every_panel_spec : {M : Type 1} → statement M
every_panel_spec = tie.close (tie.spec returns)
