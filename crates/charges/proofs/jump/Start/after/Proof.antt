-- `after` is right because the walk is at the place whose rank is so much more, and its charges are the tolls apart.
use mathlib.Core.Path.{◌≡◌, ap, ◌∙◌}
use Prim.Native.Nat.{ℕ, ◌*◌}
use native.Mathlib.Omega.{arith}
use Rattle.circle.specs.computed.Step.{seen_place}
use Rattle.charges.specs.computed.Sum.{round_charges_of}
use Rattle.charges.specs.computed.Jump.{point_on}
use Rattle.charges.specs.laws.Jump.{start_on, quarter_is, radius_is, place_after_lem, tolled_after, start_bounds, toll_after, reached_is}
use Rattle.charges.proofs.jump.Start.after.Statement.{statement}
use Rattle.charges.proofs.jump.Start.after.Tie as tie

-- the place is that of the walk
there : (c : tie.After-place_at-place) → (let s = c.args in
    c.place_at-place.result ≡ seen_place s.self.turn (point_on s.self s.cycles))
there c = let s = c.before.before.before in c.place_at-place.ensures ∙ place_after_lem s.requires.0 s.args.cycles

round_is : (c : tie.After-quadrant_charges-round) → (let s = c.args.self in
    4 * c.quadrant_charges-round.result ≡ round_charges_of s.quarter s.radius)
round_is c = ap (λ (r : ℕ). 4 * r) c.quadrant_charges-round.ensures

overflow_add-from : tie.Need-overflow_add-from
overflow_add-from c = let s = c.before.before in omega (arith, start_bounds s.requires.0)

place_at-place-requires : tie.Need-place_at-place-requires
place_at-place-requires c κs = let h = c.requires.0 in ((start_on h).some, (start_on h).bound, quarter_is h)

span_to-to-requires : tie.Need-span_to-to-requires
span_to-to-requires c κs =
    let s = c.before.before.before in
    rw (quarter_is s.requires.0, radius_is s.requires.0, there c) (tolled_after s.requires.0 s.args.cycles)

quadrant_charges-round-requires : tie.Need-quadrant_charges-round-requires
quadrant_charges-round-requires c κs = let b = start_bounds c.requires.0 in (b.quarter, b.radius)

overflow_mul-round : tie.Need-overflow_mul-round
overflow_mul-round c = omega (arith, round_is c, (start_bounds c.requires.0).round)

way_on-charges-requires : tie.Need-way_on-charges-requires
way_on-charges-requires c κs =
    let w = c.before in
    let s = w.before.before.before.before in
    let b = start_bounds s.requires.0 in
    rw (round_is c, w.span_to-to.ensures, there w.before) (omega (arith, toll_after s.requires.0 s.args.cycles))

returns : tie.Need-returns
returns c =
    let r = c.before in
    let w = r.before in
    let q = w.before in
    let s = q.before.before.before in
    reached_is s.requires.0 s.args.cycles c.way_on-charges.result q.place_at-place.result s.requires.1 s.requires.2 q.place_at-place.ensures
    (c.way_on-charges.ensures ∙ rw (round_is r, w.span_to-to.ensures))

pub after_spec : {M : Type 1} → statement M
after_spec = tie.close (tie.spec overflow_add-from place_at-place-requires span_to-to-requires quadrant_charges-round-requires
    overflow_mul-round way_on-charges-requires returns)
