-- A count is its high part's decimal and eighteen digits more, or its low part alone.
use Rattle.std.proofs.Common.{rules, ◌+◌, ◌/◌, ◌^◌, ◌<◌, ◌≤◌, arith, append_assoc}
use Rattle.row.specs.laws.Long.{long_some, high_digits}
use Rattle.row.specs.laws.Puts.{◌then◌, at_most}
use Rattle.row.proofs.push.long.Goals as goal

pub digits-first-requires : goal.digits-first-requires
digits-first-requires c =
    let low : c.args.n.low < 2 ^ 64 = search rules in
    let high : c.args.n.high < 2 ^ 32 = search rules in
    omega (arith, high_digits c.args.n.low c.args.n.high low high)

pub last_digits-last-requires : goal.last_digits-last-requires
last_digits-last-requires c =
    let low : c.args.n.low < 2 ^ 64 = search rules in
    let high : c.args.n.high < 2 ^ 32 = search rules in
    let p = c.digits-first.ensures in
    (omega (arith, p.place, p.len, high_digits c.args.n.low c.args.n.high low high), omega arith, omega arith)

pub byte-requires : goal.byte-requires
byte-requires c =
    let low : c.args.n.low < 2 ^ 64 = search rules in
    let high : c.args.n.high < 2 ^ 32 = search rules in
    let p = c.digits-first.ensures in
    let q = c.last_digits-last.ensures in
    omega (arith, p.place, p.len, q.most, q.len, high_digits c.args.n.low c.args.n.high low high)

pub returns : goal.returns
returns c =
    let n = c.args.n in
    let low : n.low < 2 ^ 64 = search rules in
    let high : n.high < 2 ^ 32 = search rules in
    let some : 1 ≤ n.high + n.low / 10 ^ 18 = omega (arith, c.if-high-eq0.false) in
    rw (long_some n.low n.high some, append_assoc)
    (at_most (c.digits-first.ensures then c.last_digits-last.ensures then c.byte.ensures)
    (omega (arith, high_digits n.low n.high low high)))
