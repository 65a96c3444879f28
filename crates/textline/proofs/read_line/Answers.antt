-- `read_line` is right because it asks whether the record is sound, and does what the line asks where the next block starts.
use mathlib.Core.Path.{sym, ◌∙◌}
use Rattle.settings.specs.laws.Right.{settings_right}
use Rattle.bench.specs.laws.Sound.{sound as bench_sound}
use Rattle.machine.specs.laws.Right.{sound}
use Rattle.textline.specs.computed.TextLine.{read_line_of}
use Rattle.textline.proofs.read_line.Goals as goal

pub returns-then-not-is_sound : goal.returns-then-not-is_sound
unfolding read_line_of
returns-then-not-is_sound c = c.refused.ensures ∙ rw (sym c.is_sound.ensures ∙ c.if-not-is_sound.true)

pub start_of-start-requires : goal.start_of-start-requires
start_of-start-requires c = (sound c.args.m (sym c.is_sound.ensures ∙ c.if-not-is_sound.false)).right.queue.most

pub ask_line-requires : goal.ask_line-requires
ask_line-requires c =
    let s = sound c.args.m (sym c.is_sound.ensures ∙ c.if-not-is_sound.false) in
    (settings_right _ (bench_sound s.bench).settings).scale_most

pub returns : goal.returns
unfolding read_line_of
returns c =
    rw (sym c.is_sound.ensures ∙ c.if-not-is_sound.false) (rw (c.ask_line.ensures, c.start_of-start.ensures) at c.take.ensures)
