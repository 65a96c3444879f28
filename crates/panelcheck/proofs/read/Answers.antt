-- The part of the buffer behind the rows that wait has the bytes that are left.
use Rattle.std.proofs.Common.{arith}
use lib.ListN.{length-take, length-drop}
use Rattle.panelcheck.specs.laws.Read.{reads_behind}
use Rattle.panelcheck.proofs.read.Goals as goal

pub returns : goal.returns
returns c =
    reads_behind c.args.check c.args.scratch.now c.args.piece.now c.args.last c.args.rows.now c.args.waiting
    c.requires _
    (simp (length-take, length-drop) (omega arith)) c.read.ensures
