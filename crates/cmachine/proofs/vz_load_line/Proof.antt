-- `vz_load_line` is right because it gives the machine the line's block.
use borrow.Author.Rules.{rules}
use mathlib.Core.Path.{ap, ◌∙◌}
use mir.Syntax.{w64}
use mir.Val.{SFits}
use mir.Facts.{to_z-of_z}
use Rattle.block.specs.declared.Block.{Block}
use Rattle.calls.specs.Calls.{WordCall}
use Rattle.calls.specs.computed.Calls.{told_of}
use Rattle.cmachine.proofs.vz_load_line.Statement.{statement}
use Rattle.cmachine.proofs.vz_load_line.Tie as tie

block-requires : tie.Need-block-requires
block-requires c κs = search rules

load-requires : tie.Need-load-requires
load-requires c κs = search rules

returns : tie.Need-returns
returns c =
    let s = c.before.before.before in
    let r : SFits w64 c.load.result = search rules in
    let x = s.ranges.x in
    let y = s.ranges.y in
    let feed = s.ranges.feed in
    simp to_z-of_z (c.load.ensures ∙ ap (λ (b : Block). told_of s.args.words.now (WordCall.load b)) (simp to_z-of_z at
    c.block.ensures))

pub vz_load_line_spec : {M : Type 1} → statement M
vz_load_line_spec = tie.close (tie.spec block-requires load-requires returns)
