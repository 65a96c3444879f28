-- The questions are those of the definition, and what an accepted block asks of the code follows from them.
use Rattle.std.proofs.Common.{sym, ap, ◌∙◌}
use Rattle.question.specs.Question.{number_told}
use Rattle.settings.specs.laws.Right.{settings_right}
use Rattle.bench.specs.computed.Calls.{load_of}
use Rattle.bench.specs.laws.Sound.{sound, loadable}
use Rattle.bench.proofs.tested.SoundBench.load.Goals as goal

pub capacity-requires : goal.capacity-requires
capacity-requires c = (sound c.args.self.sound).settings

pub ask_load-requires : goal.ask_load-requires
ask_load-requires c = let s = sound c.args.self.sound in ((settings_right _ s.settings).wide, s.in_travel)

pub returns-in-Err : goal.returns-in-Err
unfolding load_of
returns-in-Err c =
    simp (c.args.self.sound, sym (rw (c.is_nothing.ensures, c.capacity.ensures) at c.ask_load.ensures) ∙ c.in-Err.is)

pub begin-begun-requires : goal.begin-begun-requires
begin-begun-requires c =
    let s = sound c.args.self.sound in
    loadable _ (settings_right _ s.settings).wide s.in_travel _ _ _
    (ap number_told (sym (rw (c.is_nothing.ensures, c.capacity.ensures) at c.ask_load.ensures) ∙ c.in_default.is))

pub returns : goal.returns
unfolding load_of
returns c =
    simp (
      c.moved.ensures,
      c.begin-begun.ensures,
      c.args.self.sound,
      sym (rw (c.is_nothing.ensures, c.capacity.ensures) at c.ask_load.ensures) ∙ c.in_default.is,
    )
