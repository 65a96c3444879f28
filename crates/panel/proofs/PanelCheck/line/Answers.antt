-- `line` is right because what the bytes taken come to picks the case of the definition.
use mathlib.Core.Path.{sym}
use native.Mathlib.Omega.{arith}
use lib.Seq.{length-take-le}
use Rattle.panel.specs.laws.Taken.{taken_few}
use Rattle.panel.specs.laws.Line.{gathered, line_handed_lem, line_waits}
use Rattle.panel.proofs.PanelCheck.line.Goals as goal

pub slice_bounds-keep-end : goal.slice_bounds-keep-end
slice_bounds-keep-end c =
    let s = c.args in
    sym (length-take-le _ _ (omega (arith, c.taken-took.ensures, taken_few s.self.left s.piece.now)))

pub overflow_sub-check : goal.overflow_sub-check
overflow_sub-check c = let s = c.args in omega (arith, c.taken-took.ensures, taken_few s.self.left s.piece.now)

pub returns-in-TooMany : goal.returns-in-TooMany
returns-in-TooMany c =
    let s = c.args in
    let come = gathered s.self s.scratch.now s.piece.now c.taken-took.ensures c.keep-held.ensures in
    line_handed_lem s.self s.scratch.now s.piece.now s.last come c.in-TooMany.ensures (c.too_long.ensures _)

pub returns-in-End : goal.returns-in-End
returns-in-End c =
    let s = c.args in
    let come = gathered s.self s.scratch.now s.piece.now c.taken-took.ensures c.keep-held.ensures in
    line_handed_lem s.self s.scratch.now s.piece.now s.last come c.in-End.ensures (c.total.ensures _)

pub returns-in-Wait : goal.returns-in-Wait
returns-in-Wait c =
    let s = c.args in
    let come = gathered s.self s.scratch.now s.piece.now c.taken-took.ensures c.keep-held.ensures in
    line_handed_lem s.self s.scratch.now s.piece.now s.last come c.in-Wait.ensures
    (rw c.wait.ensures (line_waits s.self s.scratch.now s.piece.now s.last come s.out.now))

pub returns-in-Line : goal.returns-in-Line
returns-in-Line c =
    let s = c.args in
    let come = gathered s.self s.scratch.now s.piece.now c.taken-took.ensures c.keep-held.ensures in
    line_handed_lem s.self s.scratch.now s.piece.now s.last come c.in-Line.ensures (c.row.ensures _)
