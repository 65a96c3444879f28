-- `look_ahead` is right because its test is the definition's, and `look_sound` does the rest.
use borrow.Author.Rules.{rules}
use mathlib.Core.Path.{sym, ◌∙◌}
use Rattle.look.specs.laws.Ahead.{unsound}
use Rattle.look.proofs.look_ahead.Statement.{statement}
use Rattle.look.proofs.look_ahead.Tie as tie

is_sound-requires : tie.Need-is_sound-requires
is_sound-requires c κs = search rules

refused-requires : tie.Need-refused-requires
refused-requires c κs = search rules

returns-then-not-is_sound : tie.Need-returns-then-not-is_sound
returns-then-not-is_sound c =
    let e = c.before in
    let s = e.args in
    c.refused.ensures ∙ sym (unsound s.m s.ticks (sym e.is_sound.ensures ∙ e.if-not-is_sound.true))

look_sound-requires : tie.Need-look_sound-requires
look_sound-requires c κs = sym c.is_sound.ensures ∙ c.if-not-is_sound.false

returns : tie.Need-returns
returns c = c.look_sound.ensures

pub look_ahead_spec : {M : Type 1} → statement M
look_ahead_spec = tie.close (tie.spec is_sound-requires refused-requires returns-then-not-is_sound look_sound-requires returns)
