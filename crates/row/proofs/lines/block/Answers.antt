-- Its pieces, one after the other, are the fields of the line with what stands between them.
use Rattle.std.proofs.Common.{rules, sym, ◌∙◌, ◌+◌, length, leb-true, SFits}
use Rattle.std.specs.Int.{w64}
use mir.Facts.{to_z-of_z}
use Rattle.row.specs.computed.Buffer.{line_room}
use Rattle.row.specs.laws.Puts.{◌then◌, with_room}
use Rattle.row.proofs.lines.block.Goals as goal

pub returns-clause-buffer : goal.returns-clause-buffer
returns-clause-buffer c =
    let a = c.args in
    let room = leb-true (a.at + line_room) (length a.out.now) (sym c.has_room.ensures ∙ c.if-not-has_room.false) in
    let letter = rw c.letter.ensures at c.byte-at.ensures in
    let fits-x : SFits w64 a.row.x = search rules in
    let fits-y : SFits w64 a.row.y = search rules in
    let x = simp to_z-of_z at c.signed-at.ensures in
    let y = simp to_z-of_z at c.signed-at-2.ensures in
    let later = c.number-at-3.ensures then x then y then c.number.ensures in
    (with_room a.out.now a.at room
    (c.number-at.ensures then c.number-at-2.ensures then letter then c.byte-at-2.ensures then later)).0
