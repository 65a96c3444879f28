-- No circle point passes the radius, which the least side reaches.
use Rattle.std.proofs.Common.{◌≡◌, rules, sym, ap, ap₂, ◌∙◌, SFits}
use Rattle.std.specs.Int.{w64}
use mir.Facts.{to_z-of_z}
use Rattle.clearance.specs.computed.Travel.{reaches, smaller_of}
use Rattle.clearance.specs.laws.Inside.{surrounding}
use Rattle.clearance.proofs.surrounds.Goals as goal

pub returns : goal.returns
returns c =
    let room = c.args.room in
    let right : SFits w64 room.right = search rules in
    let left : SFits w64 room.left = search rules in
    let up : SFits w64 room.up = search rules in
    let down : SFits w64 room.down = search rules in
    let fits_x : SFits w64 c.smaller-x.result = search rules in
    let fits_y : SFits w64 c.smaller-y.result = search rules in
    let fits : SFits w64 c.smaller.result = search rules in
    let x : c.smaller-x.result ≡ smaller_of room.right room.left = simp to_z-of_z at c.smaller-x.ensures in
    let y : c.smaller-y.result ≡ smaller_of room.up room.down = simp to_z-of_z at c.smaller-y.ensures in
    let both : c.smaller.result ≡ smaller_of c.smaller-x.result c.smaller-y.result = simp to_z-of_z at c.smaller.ensures in
    let is : c.reaches_axis.result ≡ reaches c.args.n c.smaller.result = simp to_z-of_z at c.reaches_axis.ensures in
    λ e. surrounding c.args.n room (sym (is ∙ ap (reaches c.args.n) (both ∙ ap₂ smaller_of x y)) ∙ e)
