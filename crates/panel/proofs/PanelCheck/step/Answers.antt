-- `step` is right because each stage has its case.
use Rattle.panel.specs.laws.Hand.{hands_header, hands_lines, hands_over}
use Rattle.panel.proofs.PanelCheck.step.Goals as goal

pub returns-in-Header : goal.returns-in-Header
returns-in-Header c =
    let s = c.args in
    let w = c.header-place.ensures in
    rw c.unwrap_or.ensures
    (hands_header s.self s.scratch.now s.piece.now s.last s.out.now c.in-Header.is c.requires.0 c.min.ensures
    (record { room = c.requires.1; buffer = w.buffer; place = w.place }))

pub returns-in-Lines : goal.returns-in-Lines
returns-in-Lines c =
    let s = c.args in
    hands_lines s.self s.scratch.now s.piece.now s.last s.out.now c.in-Lines.is c.line.ensures

pub returns-in-Over : goal.returns-in-Over
returns-in-Over c = let s = c.args in hands_over s.self s.scratch.now s.piece.now s.last s.out.now c.in-Over.is
