-- `progress_right` is right because it asks the stage, what is known and the counts.
use borrow.Author.Rules.{rules}
use mathlib.Core.Path.{◌≡◌, sym, ◌∙◌}
use mir.Syntax.{w64}
use mir.Val.{SFits}
use mir.Facts.{to_z-of_z}
use Rattle.plane.specs.Travel.{within_of}
use Rattle.progress.specs.computed.Right.{stages, progress_right}
use Rattle.progress.proofs.progress.progress_right.Statement.{statement}
use Rattle.progress.proofs.progress.progress_right.Tie as tie

-- what the first call says, over the word itself
stage_is : (c : tie.After-within) → c.within.result ≡ within_of stages c.args.p.stage
stage_is c = let f : SFits w64 c.args.p.stage = search rules in simp to_z-of_z at c.within.ensures

within-requires : tie.Need-within-requires
within-requires c κs = search rules

returns-then-not-within : tie.Need-returns-then-not-within
unfolding progress_right
returns-then-not-within c = rw (sym (stage_is c.before) ∙ c.if-not-within.true)

known_right-requires : tie.Need-known_right-requires
known_right-requires c κs = search rules

returns-then-not-known_right : tie.Need-returns-then-not-known_right
unfolding progress_right
returns-then-not-known_right c =
    let e1 = c.before.before in
    rw (sym (stage_is e1.before) ∙ e1.if-not-within.false, sym c.known_right.ensures ∙ c.if-not-known_right.true)

counts_right-requires : tie.Need-counts_right-requires
counts_right-requires c κs = search rules

returns : tie.Need-returns
unfolding progress_right
returns c =
    let e2 = c.before in
    let e1 = e2.before.before in
    c.counts_right.ensures
    ∙ rw (sym (stage_is e1.before) ∙ e1.if-not-within.false, sym e2.known_right.ensures ∙ e2.if-not-known_right.false)

pub progress_right_spec : {M : Type 1} → statement M
progress_right_spec = tie.close (tie.spec within-requires returns-then-not-within known_right-requires returns-then-not-known_right
    counts_right-requires returns)
