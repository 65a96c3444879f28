-- A start has small numbers.
use Rattle.std.proofs.Common.{arith}
use Rattle.charges.specs.laws.Jump.{start_on, start_bounds}
use Rattle.charges.proofs.search.cycles_near.Goals as goal

pub quadrant_charges-round-requires : goal.quadrant_charges-round-requires
quadrant_charges-round-requires c = let b = start_bounds c.requires in (b.quarter, b.radius)

pub overflow_mul-round : goal.overflow_mul-round
overflow_mul-round c = omega (arith, start_bounds c.requires, c.quadrant_charges-round.ensures)

pub overflow_add-s : goal.overflow_add-s
overflow_add-s c = omega (arith, start_bounds c.requires, c.quadrant_charges-round.ensures, c.min.ensures)

pub rank_near-rank-requires : goal.rank_near-rank-requires
rank_near-rank-requires c =
    let b = start_bounds c.requires in
    ((start_on c.requires).bound, b.some, b.quarter, b.radius, omega (arith, c.quadrant_charges-round.ensures, c.min.ensures))

pub overflow_add-s-2 : goal.overflow_add-s-2
overflow_add-s-2 c = omega (arith, start_bounds c.requires)
