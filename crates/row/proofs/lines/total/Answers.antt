-- Its pieces, one after the other, are the fields of the line with what stands between them.
use Rattle.std.proofs.Common.{sym, ◌∙◌, ◌+◌, length, leb-true}
use Rattle.row.specs.computed.Buffer.{line_room}
use Rattle.row.specs.laws.Puts.{◌then◌, with_room}
use Rattle.row.proofs.lines.total.Goals as goal

pub returns-clause-buffer : goal.returns-clause-buffer
returns-clause-buffer c =
    let a = c.args in
    let room = leb-true (a.at + line_room) (length a.out.now) (sym c.has_room.ensures ∙ c.if-not-has_room.false) in
    (with_room a.out.now a.at room
    (c.text-at.ensures then c.number-at.ensures then c.number-at-2.ensures then c.long.ensures)).0
