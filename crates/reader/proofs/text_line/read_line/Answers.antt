-- `read_line` is right because it asks whether the record is sound, and does what the line asks at the point.
use mathlib.Core.Path.{sym, ◌∙◌}
use Rattle.settings.specs.laws.Right.{settings_right}
use Rattle.bench.specs.laws.Sound.{sound}
use Rattle.reader.specs.computed.TextLine.{read_line_of}
use Rattle.reader.proofs.text_line.read_line.Goals as goal

pub returns-then-not-sound : goal.returns-then-not-sound
unfolding read_line_of
returns-then-not-sound c = c.refused.ensures ∙ rw (sym c.sound.ensures ∙ c.if-not-sound.true)

pub ask_line-requires : goal.ask_line-requires
ask_line-requires c = (settings_right _ (sound (sym c.sound.ensures ∙ c.if-not-sound.false)).settings).scale_most

pub returns : goal.returns
unfolding read_line_of
returns c = rw (sym c.sound.ensures ∙ c.if-not-sound.false) (rw c.ask_line.ensures at c.take.ensures)
