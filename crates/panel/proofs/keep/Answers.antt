-- `keep` is right because it puts as many bytes behind those held as there is room for.
use Rattle.panel.specs.laws.Line.{kept}
use Rattle.panel.proofs.keep.Goals as goal

pub returns : goal.returns
returns c =
    let s = c.args in
    kept s.held s.scratch.now s.bytes.now c.requires c.min-from.ensures c.min-more.ensures c.text.ensures
