-- `cycles` is right because ranks count from the X axis on, and are below those of a full turn.
use borrow.Author.Rules.{rules}
use mathlib.Core.Path.{◌∙◌}
use native.Mathlib.Omega.{arith}
use Rattle.circle.specs.computed.Count.{places_to, circle_cycles}
use Rattle.circle.proofs.laws.Count.{quarter_bound, rank_bound}
use Rattle.circle.proofs.count.cycles.Statement.{statement}
use Rattle.circle.proofs.count.cycles.Tie as tie

overflow_mul-quarter : tie.Need-overflow_mul-quarter
overflow_mul-quarter c = rw c.requires.2 (omega (arith, quarter_bound c.args.n c.args.p c.requires.0))

seen_rank-requires : tie.Need-seen_rank-requires
seen_rank-requires c κs = search rules

seen_rank-requires-2 : tie.Need-seen_rank-requires-2
seen_rank-requires-2 c κs = search rules

way_on-requires : tie.Need-way_on-requires
way_on-requires c κs =
    let s = c.before.before in
    let n = s.args.n in
    let from = rank_bound n s.args.turn s.args.p s.requires.0 in
    let to = rank_bound n s.args.turn s.args.e s.requires.1 in
    rw (c.seen_rank.ensures, c.seen_rank-2.ensures, s.requires.2)
    (omega (arith, quarter_bound n s.args.p s.requires.0))

returns : tie.Need-returns
unfolding circle_cycles places_to
returns c =
    let s = c.before.before.before in
    c.way_on.ensures ∙ rw (c.seen_rank.ensures, c.seen_rank-2.ensures, s.requires.2)

pub cycles_spec : {M : Type 1} → statement M
cycles_spec = tie.close (tie.spec overflow_mul-quarter seen_rank-requires seen_rank-requires-2 way_on-requires returns)
