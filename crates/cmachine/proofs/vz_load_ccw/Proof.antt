-- `vz_load_ccw` is right because it gives the machine the arc's block.
use borrow.Author.Rules.{rules}
use mathlib.Core.Path.{ap, ◌∙◌}
use mir.Syntax.{w64}
use mir.Val.{SFits}
use mir.Facts.{to_z-of_z}
use Rattle.block.specs.declared.Block.{Block}
use Rattle.calls.specs.Calls.{WordCall}
use Rattle.calls.specs.computed.Calls.{told_of}
use Rattle.cmachine.proofs.vz_load_ccw.Statement.{statement}
use Rattle.cmachine.proofs.vz_load_ccw.Tie as tie

arc-path-requires : tie.Need-arc-path-requires
arc-path-requires c κs = search rules

block-requires : tie.Need-block-requires
block-requires c κs = search rules

load-requires : tie.Need-load-requires
load-requires c κs = search rules

returns : tie.Need-returns
returns c =
    let s = c.before.before.before.before in
    let r : SFits w64 c.load.result = search rules in
    let x = s.ranges.x in
    let y = s.ranges.y in
    let feed = s.ranges.feed in
    let i = s.ranges.i in
    let j = s.ranges.j in
    simp to_z-of_z (c.load.ensures ∙ ap (λ (b : Block). told_of s.args.words.now (WordCall.load b)) (simp
    (to_z-of_z, c.arc-path.ensures) at c.block.ensures))

pub vz_load_ccw_spec : {M : Type 1} → statement M
vz_load_ccw_spec = tie.close (tie.spec arc-path-requires block-requires load-requires returns)
