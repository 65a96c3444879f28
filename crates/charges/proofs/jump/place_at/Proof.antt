-- `place_at` is right because a rank's quotient by the quarter counts the quadrants, and the rest is the rank in the last of them.
use native.Mathlib.Nat.{mod-lt}
use native.Mathlib.Omega.{arith}
use Rattle.charges.specs.computed.Jump.{place_at}
use Rattle.charges.specs.laws.Jump.{quarter_some, placed}
use Rattle.charges.proofs.jump.place_at.Statement.{statement}
use Rattle.charges.proofs.jump.place_at.Tie as tie

nonzero_div-rank : tie.Need-nonzero_div-rank
nonzero_div-rank c = omega (arith, quarter_some c.args.n c.requires.0 c.requires.1)

nonzero_rem-rank-2 : tie.Need-nonzero_rem-rank-2
nonzero_rem-rank-2 c = omega (arith, quarter_some c.args.n c.requires.0 c.requires.1)

place_in-requires : tie.Need-place_in-requires
place_in-requires c κs =
    let p = c.requires in
    rw p.2 (placed c.args.n p.0 p.1 _ (mod-lt c.args.rank (quarter_some c.args.n p.0 p.1)))

returns : tie.Need-returns
unfolding place_at
returns c = c.place_in.ensures

pub place_at_spec : {M : Type 1} → statement M
place_at_spec = tie.close (tie.spec nonzero_div-rank nonzero_rem-rank-2 place_in-requires returns)
