-- `too_long` asks whether the line can be counted, and then writes 30 with the next line.
use native.Mathlib.Omega.{arith}
use Rattle.panel.specs.laws.Hand.{hands_beyond, hands_thirty}
use Rattle.panel.proofs.PanelCheck.too_long.Goals as goal

pub returns-then-lines : goal.returns-then-lines
returns-then-lines c free =
    let s = c.args in
    rw c.last.ensures (hands_beyond s.self.tally s.self.left s.out.now s.took free (omega arith))

pub returns : goal.returns
returns c free =
    let s = c.args in
    let w = c.refused-place.ensures in
    rw (c.last-2.ensures, c.unwrap_or.ensures)
    (hands_thirty s.self.tally s.self.left s.out.now s.took free (omega arith)
    (record { room = c.requires; buffer = w.buffer; place = w.place }))
