-- `read_first` is right because it asks whether the record is sound, and does what the text's first line asks at the point.
use mathlib.Core.Path.{sym, ◌∙◌}
use Rattle.settings.specs.laws.Right.{settings_right}
use Rattle.bench.specs.laws.Sound.{sound}
use Rattle.reader.specs.computed.TextLine.{read_line_of}
use Rattle.reader.proofs.text_line.read_first.Goals as goal

pub returns-then-not-sound-clause-read_value : goal.returns-then-not-sound-clause-read_value
unfolding read_line_of
returns-then-not-sound-clause-read_value c = c.refused.ensures ∙ rw (sym c.sound.ensures ∙ c.if-not-sound.true)

pub ask_first-first-requires : goal.ask_first-first-requires
ask_first-first-requires c = (settings_right _ (sound (sym c.sound.ensures ∙ c.if-not-sound.false)).settings).scale_most

pub returns-clause-read_value : goal.returns-clause-read_value
unfolding read_line_of
returns-clause-read_value c =
    rw (sym c.sound.ensures ∙ c.if-not-sound.false) (rw c.ask_first-first.ensures.asked_value at c.take.ensures)
