-- `long_right` is right because it asks both words.
use mathlib.Core.Path.{sym, ◌∙◌}
use mir.Syntax.{w64}
use mir.Val.{SFits}
use mir.Facts.{to_z-of_z}
use Rattle.progress.specs.computed.Right.{long_right}
use borrow.Author.Rules.{rules}
use Rattle.progress.proofs.long.long_right.Statement.{statement}
use Rattle.progress.proofs.long.long_right.Tie as tie

is_count-requires : tie.Need-is_count-requires
is_count-requires c κs = search rules

returns-then-not-is_count : tie.Need-returns-then-not-is_count
unfolding long_right
returns-then-not-is_count c =
    let f : SFits w64 c.args.w.low = search rules in
    let low = simp to_z-of_z at c.is_count.ensures in
    rw (sym low ∙ c.if-not-is_count.true)

within-requires : tie.Need-within-requires
within-requires c κs = search rules

returns : tie.Need-returns
unfolding long_right
returns c =
    let w = c.args.w in
    let f : SFits w64 w.low = search rules in
    let g : SFits w64 w.high = search rules in
    let e = c.before.before in
    let low = simp to_z-of_z at e.is_count.ensures in
    let high = simp to_z-of_z at c.within.ensures in
    high ∙ rw (sym low ∙ e.if-not-is_count.false)

pub long_right_spec : {M : Type 1} → statement M
long_right_spec = tie.close (tie.spec is_count-requires returns-then-not-is_count within-requires returns)
