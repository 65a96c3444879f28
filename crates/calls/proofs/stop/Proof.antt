-- `stop` is right because on words of a sound record it stores what a stop changes.
use borrow.Author.Rules.{rules}
use mathlib.Core.Path.{sym, ◌∙◌}
use Rattle.calls.specs.laws.Told.{told_refused, stop_told}
use Rattle.calls.proofs.stop.Statement.{statement}
use Rattle.calls.proofs.stop.Tie as tie

is_sound-requires : tie.Need-is_sound-requires
is_sound-requires c κs = search rules

returns-then-not-is_sound : tie.Need-returns-then-not-is_sound
returns-then-not-is_sound c = told_refused _ (sym c.is_sound.ensures ∙ c.if-not-is_sound.true) _

store_stop-requires : tie.Need-store_stop-requires
store_stop-requires c κs = let e = c.before in sym e.is_sound.ensures ∙ e.if-not-is_sound.false

returns : tie.Need-returns
returns c =
    let e = c.before.before in
    simp c.store_stop.ensures (stop_told _ (sym e.is_sound.ensures ∙ e.if-not-is_sound.false))

pub stop_spec : {M : Type 1} → statement M
stop_spec = tie.close (tie.spec is_sound-requires returns-then-not-is_sound store_stop-requires returns)
