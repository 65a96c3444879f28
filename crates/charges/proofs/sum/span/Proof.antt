-- `span` is right because ranks and tolls count from the X axis on, and the sum in closed form is that of the walk.
use mathlib.Core.Path.{◌≡◌, ap, ◌∙◌}
use Prim.Native.Nat.{ℕ, ◌*◌}
use native.Mathlib.Omega.{arith}
use Rattle.whole.specs.Root.{nearest_root}
use Rattle.circle.specs.computed.Step.{seen_place}
use Rattle.circle.specs.Circle.{quarter_of}
use Rattle.circle.proofs.laws.Circle.{on_circle_to, radius_bound}
use Rattle.circle.proofs.laws.Count.{quarter_bound, rank_bound}
use Rattle.charges.specs.computed.Sum.{span_to, round_charges_of}
use Rattle.charges.specs.laws.Sum.{toll_bound, round_bound, span_closed}
use borrow.Author.Rules.{rules}
use Rattle.charges.proofs.sum.span.Statement.{statement}
use Rattle.charges.proofs.sum.span.Tie as tie

-- the ways from the X axis on to p and to e
from_is : (c : tie.After-seen_span-from) → (let s = c.args in
    c.seen_span-from.result ≡ span_to (quarter_of s.n) (nearest_root s.n) (seen_place s.turn s.p))
from_is c = c.seen_span-from.ensures ∙ rw (c.nearest_root-quarter.ensures, c.nearest_root-radius.ensures)

to_is : (c : tie.After-seen_span-to) → (let s = c.args in
    c.seen_span-to.result ≡ span_to (quarter_of s.n) (nearest_root s.n) (seen_place s.turn s.e))
to_is c = c.seen_span-to.ensures ∙ rw (c.nearest_root-quarter.ensures, c.nearest_root-radius.ensures)

overflow_mul-n : tie.Need-overflow_mul-n
overflow_mul-n c = omega (arith, (on_circle_to c.args.n c.args.p c.requires.0).bound)

nearest_root-quarter-requires : tie.Need-nearest_root-quarter-requires
nearest_root-quarter-requires c κs = search rules

nearest_root-radius-requires : tie.Need-nearest_root-radius-requires
nearest_root-radius-requires c κs = search rules

seen_span-from-requires : tie.Need-seen_span-from-requires
seen_span-from-requires c κs = search rules

seen_span-to-requires : tie.Need-seen_span-to-requires
seen_span-to-requires c κs = search rules

overflow_mul-quarter : tie.Need-overflow_mul-quarter
overflow_mul-quarter c =
    let s = c.before.before.before.before in
    rw c.nearest_root-quarter.ensures (omega (arith, quarter_bound s.args.n s.args.p s.requires.0))

way_on-requires : tie.Need-way_on-requires
way_on-requires c κs =
    let s = c.before.before.before.before in
    let n = s.args.n in
    let from = rank_bound n s.args.turn s.args.p s.requires.0 in
    let to = rank_bound n s.args.turn s.args.e s.requires.1 in
    rw (from_is c.before, to_is c, c.nearest_root-quarter.ensures)
    (omega (arith, quarter_bound n s.args.p s.requires.0))

quadrant_charges-requires : tie.Need-quadrant_charges-requires
quadrant_charges-requires c κs =
    let roots = c.before.before.before in
    let s = roots.before.before in
    let o = on_circle_to s.args.n s.args.p s.requires.0 in
    rw (roots.nearest_root-quarter.ensures, roots.nearest_root-radius.ensures)
    (quarter_bound s.args.n s.args.p s.requires.0, radius_bound s.args.n o.some o.bound)

-- the charges of a full turn
round_is : (c : tie.After-quadrant_charges) → (let s = c.args in
    4 * c.quadrant_charges.result ≡ round_charges_of (quarter_of s.n) (nearest_root s.n))
round_is c =
    let roots = c.before.before.before.before in
    ap (λ (r : ℕ). 4 * r) c.quadrant_charges.ensures ∙ rw (roots.nearest_root-quarter.ensures, roots.nearest_root-radius.ensures)

overflow_mul-quadrant_charges : tie.Need-overflow_mul-quadrant_charges
overflow_mul-quadrant_charges c =
    let s = c.before.before.before.before.before.before in
    omega (arith, round_is c, round_bound s.args.n s.args.p s.requires.0)

way_on-requires-2 : tie.Need-way_on-requires-2
way_on-requires-2 c κs =
    let s = c.before.before.before.before.before.before in
    let n = s.args.n in
    let from = toll_bound n s.args.turn s.args.p s.requires.0 in
    let to = toll_bound n s.args.turn s.args.e s.requires.1 in
    rw (from_is c.before.before.before, to_is c.before.before, round_is c)
    (omega (arith, round_bound n s.args.p s.requires.0))

returns : tie.Need-returns
returns c =
    let r = c.before in
    let k = r.before in
    let roots = k.before.before.before in
    let s = roots.before.before in
    let n = s.args.n in
    span_closed n s.args.turn s.args.p s.args.e
    (on_circle_to n s.args.p s.requires.0).circle (on_circle_to n s.args.e s.requires.1).circle
    k.way_on.result c.way_on-2.result
    (k.way_on.ensures ∙ rw (from_is k.before.before, to_is k.before, roots.nearest_root-quarter.ensures))
    (c.way_on-2.ensures ∙ rw (from_is k.before.before, to_is k.before, round_is r))

pub span_spec : {M : Type 1} → statement M
span_spec = tie.close (tie.spec overflow_mul-n nearest_root-quarter-requires nearest_root-radius-requires seen_span-from-requires
    seen_span-to-requires overflow_mul-quarter way_on-requires quadrant_charges-requires overflow_mul-quadrant_charges way_on-requires-2
    returns)
