-- `change` is right because it is the definition's own tests.
use mir.Facts.{to_z-of_z}
use Rattle.plane.specs.Pulse.{change_of}
use Rattle.plane.proofs.pulse.change.Statement.{statement}
use Rattle.plane.proofs.pulse.change.Tie as tie

returns-then-before-after : tie.Need-returns-then-before-after
unfolding change_of
returns-then-before-after c =
    let before = c.ranges.before in
    let after = c.ranges.after in
    simp (simp to_z-of_z at c.if-before-after.true)

returns-then-after-before : tie.Need-returns-then-after-before
unfolding change_of
returns-then-after-before c =
    let before = c.ranges.before in
    let after = c.ranges.after in
    simp (simp to_z-of_z at c.if-before-after.false, simp to_z-of_z at c.if-after-before.true)

returns : tie.Need-returns
unfolding change_of
returns c =
    let before = c.ranges.before in
    let after = c.ranges.after in
    simp (simp to_z-of_z at c.if-before-after.false, simp to_z-of_z at c.if-after-before.false)

pub change_spec : {M : Type 1} → statement M
change_spec = tie.close (tie.spec returns-then-before-after returns-then-after-before returns)
