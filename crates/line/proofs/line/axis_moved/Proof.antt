-- `axis_moved` is right because it puts the sign of the way on what has moved.
use borrow.Author.Rules.{rules}
use mathlib.Core.Path.{sym, ap, ◌∙◌}
use native.Mathlib.Omega.{arith}
use mir.Syntax.{w64}
use mir.Val.{SFits}
use mir.Facts.{to_z-of_z}
use Rattle.whole.specs.Sign.{signed}
use Rattle.whole.specs.laws.Order.{abs_fits}
use Rattle.whole.specs.laws.Sign.{signed_size}
use Rattle.line.specs.laws.Axis.{moved_within}
use Rattle.line.specs.laws.Signed.{moved_signed}
use Rattle.line.proofs.line.axis_moved.Statement.{statement}
use Rattle.line.proofs.line.axis_moved.Tie as tie

moved-requires : tie.Need-moved-requires
moved-requires c κs = search rules

join-requires : tie.Need-join-requires
join-requires c κs =
    let s = c.before in
    let x = s.requires in
    let within = moved_within s.args.q s.args.way.magnitude x.some s.args.done x.due in
    abs_fits _ (omega (arith, signed_size s.args.way.negative c.moved.result, c.moved.ensures))

returns : tie.Need-returns
returns c =
    let s = c.before.before in
    let x = s.requires in
    let f : SFits w64 c.join.result = search rules in
    to_z-of_z f ∙ c.join.ensures ∙ ap (signed s.args.way.negative) c.moved.ensures
    ∙ sym (moved_signed s.args.q x.some s.args.way.negative s.args.way.magnitude s.args.done x.due)

pub axis_moved_spec : {M : Type 1} → statement M
axis_moved_spec = tie.close (tie.spec moved-requires join-requires returns)
