-- `span_to` is right because it is the definition, over numbers below 10,000,000,000.
use Prim.Native.Nat.{ℕ, ◌*◌, ◌≤◌}
use native.Mathlib.Nat.{mul-le-mul}
use native.Mathlib.Omega.{arith}
use borrow.Author.Rules.{rules}
use Rattle.circle.specs.declared.quadrant.Place.{Place}
use Rattle.charges.specs.computed.Sum.{pulses_to, toll_of}
use Rattle.charges.specs.computed.Asked.{Tolled}
use Rattle.charges.proofs.sum.span_to.Statement.{statement}
use Rattle.charges.proofs.sum.span_to.Tie as tie

-- the quadrants before, in pulses
before_small : {Q R : ℕ} {q : Place} → Tolled Q R q → q.quadrant * (2 * R) ≤ 3 * (2 * 1414214)
before_small {Q} {R} {q} m =
    let k : q.quadrant ≤ 3 = omega (arith, m.ranked.four) in
    let d : 2 * R ≤ 2 * 1414214 = omega (arith, m.radius) in
    mul-le-mul k d

rank-cycles-requires : tie.Need-rank-cycles-requires
rank-cycles-requires c κs = c.requires.ranked

overflow_mul-pulses : tie.Need-overflow_mul-pulses
overflow_mul-pulses c = search rules

overflow_mul-pulses-2 : tie.Need-overflow_mul-pulses-2
overflow_mul-pulses-2 c = omega (arith, before_small c.requires)

overflow_add-pulses : tie.Need-overflow_add-pulses
overflow_add-pulses c = search rules

overflow_sub-pulses : tie.Need-overflow_sub-pulses
overflow_sub-pulses c = search rules

overflow_add-pulses-2 : tie.Need-overflow_add-pulses-2
overflow_add-pulses-2 c = let m = c.requires in omega (arith, before_small m, m.radius, m.side)

overflow_mul-charges : tie.Need-overflow_mul-charges
overflow_mul-charges c = let m = c.requires in omega (arith, m.rank, c.rank-cycles.ensures)

overflow_mul-charges-2 : tie.Need-overflow_mul-charges-2
overflow_mul-charges-2 c = let m = c.requires in omega (arith, before_small m, m.radius, m.side)

overflow_add-charges : tie.Need-overflow_add-charges
overflow_add-charges c =
    let m = c.requires in
    omega (arith, before_small m, m.radius, m.side, m.rank, c.rank-cycles.ensures)

returns : tie.Need-returns
unfolding toll_of pulses_to
returns c = rw c.rank-cycles.ensures

pub span_to_spec : {M : Type 1} → statement M
span_to_spec = tie.close (tie.spec rank-cycles-requires overflow_mul-pulses overflow_mul-pulses-2 overflow_add-pulses overflow_sub-pulses
    overflow_add-pulses-2 overflow_mul-charges overflow_mul-charges-2 overflow_add-charges returns)
