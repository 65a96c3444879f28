-- A u64 has 20 digits at most.
use Rattle.std.proofs.Common.{arith}
use Rattle.row.specs.laws.Decimal.{digits_most}
use Rattle.row.specs.laws.Puts.{◌then◌, at_most}
use Rattle.row.proofs.push.number.Goals as goal

pub digits-last-requires : goal.digits-last-requires
digits-last-requires c = omega (arith, digits_most c.args.n c.ranges.n)

pub byte-requires : goal.byte-requires
byte-requires c = let p = c.digits-last.ensures in omega (arith, p.place, p.len, digits_most c.args.n c.ranges.n)

pub returns : goal.returns
returns c = at_most (c.digits-last.ensures then c.byte.ensures) (omega (arith, digits_most c.args.n c.ranges.n))
