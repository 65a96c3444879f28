-- `vz_make` is right because it is the make on these words.
use borrow.Author.Rules.{rules}
use mir.Syntax.{w64}
use mir.Val.{SFits}
use mir.Facts.{to_z-of_z}
use Rattle.cmachine.proofs.vz_make.Statement.{statement}
use Rattle.cmachine.proofs.vz_make.Tie as tie

make-requires : tie.Need-make-requires
make-requires c κs = search rules

returns : tie.Need-returns
returns c =
    let r : SFits w64 c.make.result = search rules in
    let f = c.ranges in
    let p = f.p in
    let w = f.w in
    let xlo = f.xlo in
    let xhi = f.xhi in
    let ylo = f.ylo in
    let yhi = f.yhi in
    simp to_z-of_z (simp to_z-of_z at c.make.ensures)

pub vz_make_spec : {M : Type 1} → statement M
vz_make_spec = tie.close (tie.spec make-requires returns)
