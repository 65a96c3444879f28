-- `make` is right because it makes the bench of these settings and lays the words of its record.
use Rattle.std.proofs.Common.{rules, w64, SFits}
use mir.Facts.{to_z-of_z}
use Rattle.encoding.specs.Words.{settings_of}
use Rattle.calls.specs.laws.Make.{make_told}
use Rattle.calls.proofs.make.Goals as goal

pub returns : goal.returns
returns c =
    let r : SFits w64 c.answer_number.result = search rules in
    let g = c.args in
    let p = c.ranges.p in
    let w = c.ranges.w in
    let xlo = c.ranges.xlo in
    let xhi = c.ranges.xhi in
    let ylo = c.ranges.ylo in
    let yhi = c.ranges.yhi in
    let given = simp to_z-of_z at c.settings.ensures in
    let made = simp given at c.make-a.ensures in
    simp to_z-of_z
    (simp (c.answer_number.ensures, c.lay.ensures, c.encode-front.ensures)
    (make_told g.words.now (search rules) (settings_of g.p g.w g.xlo g.xhi g.ylo g.yhi) made))
