-- `standard` is right because it writes the numbers of the definition.
use mathlib.Core.Path.{refl}
use Rattle.settings.specs.Settings.{standard_settings}
use Rattle.settings.proofs.standard.Statement.{statement}
use Rattle.settings.proofs.standard.Tie as tie

returns : tie.Need-returns
unfolding standard_settings
returns c = refl

pub standard_spec : {M : Type 1} → statement M
standard_spec = tie.close (tie.spec returns)
