-- `block_of` is right because each part of the block does its own.
use borrow.Author.Rules.{rules}
use mir.Syntax.{w64}
use mir.Val.{SFits}
use mir.Facts.{to_z-of_z}
use Rattle.reader.specs.Reader.{coordinate, block_at}
use Rattle.reader.specs.laws.Small.{coordinate_fits}
use Rattle.reader.proofs.command.block_of.Goals as goal

pub returns : goal.returns
unfolding block_at
returns c =
    let s = c.args in
    let at_x : SFits w64 s.at.x = search rules in
    let at_y : SFits w64 s.at.y = search rules in
    let x : SFits w64 (coordinate s.scale s.ws.x s.at.x) = coordinate_fits _ s.ws.x _ c.requires.1.x at_x in
    let y : SFits w64 (coordinate s.scale s.ws.y s.at.y) = coordinate_fits _ s.ws.y _ c.requires.1.y at_y in
    let x_is = simp to_z-of_z at c.coordinate_of.ensures in
    let y_is = simp to_z-of_z at c.coordinate_of-2.ensures in
    rw (c.path_of.ensures, c.feed_number.ensures, x_is, y_is, to_z-of_z x, to_z-of_z y)
