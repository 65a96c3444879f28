-- It tests the bench, and then what waits behind it.
use Rattle.std.proofs.Common.{sym, ◌∙◌}
use Rattle.machine.proofs.Machine.is_sound.Goals as goal

pub returns-then-sound : goal.returns-then-sound
returns-then-sound c = c.is_right.ensures ∙ simp (sym c.sound.ensures ∙ c.if-sound.true)

pub returns-else-sound : goal.returns-else-sound
returns-else-sound c = c.if-sound.false ∙ simp (sym c.sound.ensures ∙ c.if-sound.false)
