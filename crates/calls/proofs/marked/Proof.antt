-- `marked` is right because words of a sound record change in their mark alone.
use borrow.Author.Rules.{rules}
use mathlib.Core.Path.{sym, ◌∙◌}
use Rattle.calls.specs.laws.Told.{told_refused, mark_told}
use Rattle.calls.proofs.marked.Statement.{statement}
use Rattle.calls.proofs.marked.Tie as tie

is_sound-requires : tie.Need-is_sound-requires
is_sound-requires c κs = search rules

returns-then-not-is_sound : tie.Need-returns-then-not-is_sound
returns-then-not-is_sound c = told_refused _ (sym c.is_sound.ensures ∙ c.if-not-is_sound.true) _

store_mark-requires : tie.Need-store_mark-requires
store_mark-requires c κs = let e = c.before in sym e.is_sound.ensures ∙ e.if-not-is_sound.false

returns : tie.Need-returns
returns c =
    let e = c.before.before in
    simp c.store_mark.ensures (mark_told _ (sym e.is_sound.ensures ∙ e.if-not-is_sound.false) _)

pub marked_spec : {M : Type 1} → statement M
marked_spec = tie.close (tie.spec is_sound-requires returns-then-not-is_sound store_mark-requires returns)
