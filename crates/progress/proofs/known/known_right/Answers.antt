-- `known_right` is right because it asks both ranges.
use Rattle.std.proofs.Common.{sym, ◌∙◌, rules}
use mir.Syntax.{w64}
use mir.Val.{SFits}
use mir.Facts.{to_z-of_z}
use Rattle.progress.specs.computed.Right.{known_right}
use Rattle.progress.proofs.known.known_right.Goals as goal

pub returns-then-within : goal.returns-then-within
unfolding known_right
returns-then-within c =
    let m : SFits w64 c.args.k.motion = search rules in
    let f : SFits w64 c.args.k.feed = search rules in
    let motion = simp to_z-of_z at c.within.ensures in
    let feed = simp to_z-of_z at c.within-then-within.ensures in
    feed ∙ rw (sym motion ∙ c.if-within.true)

pub returns-else-within : goal.returns-else-within
unfolding known_right
returns-else-within c =
    let m : SFits w64 c.args.k.motion = search rules in
    let motion = simp to_z-of_z at c.within.ensures in
    c.if-within.false ∙ rw (sym motion ∙ c.if-within.false)
