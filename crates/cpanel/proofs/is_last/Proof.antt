-- `is_last` is right because two words are the same where their bits are.
use mathlib.Core.Path.{ap}
use mathlib.Core.Bool.{not}
use mir.Facts.{sfits_lit}
use Rattle.whole.specs.laws.Test.{equal_bits}
use Rattle.cpanel.proofs.is_last.Statement.{statement}
use Rattle.cpanel.proofs.is_last.Tie as tie

returns : tie.Need-returns
returns c = ap not (equal_bits c.ranges.last (sfits_lit tt))

pub is_last_spec : {M : Type 1} → statement M
is_last_spec = tie.close (tie.spec returns)
