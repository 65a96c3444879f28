-- `marked` is right because it sets the mark of the bench and nothing else.
use borrow.Author.Rules.{rules}
use mathlib.Core.Path.{sym, ◌∙◌}
use Rattle.machine.specs.laws.Calls.{marked_done}
use Rattle.machine.proofs.Machine.marked.Statement.{statement}
use Rattle.machine.proofs.Machine.marked.Tie as tie

is_sound-requires : tie.Need-is_sound-requires
is_sound-requires c κs = search rules

refused-requires : tie.Need-refused-requires
refused-requires c κs = search rules

returns-then-not-is_sound : tie.Need-returns-then-not-is_sound
returns-then-not-is_sound c = c.refused.ensures ∙ simp (sym c.is_sound.ensures ∙ c.if-not-is_sound.true)

returns : tie.Need-returns
returns c =
    let s = c.before.before.before in
    let tested = sym c.is_sound.ensures ∙ c.if-not-is_sound.false in
    marked_done s.args.self s.args.mark tested

pub marked_spec : {M : Type 1} → statement M
marked_spec = tie.close (tie.spec is_sound-requires refused-requires returns-then-not-is_sound returns)
