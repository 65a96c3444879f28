-- The charges on a way round: each step raises the toll by its own, so their sum from p on to e is told by the tolls, without a walk.
use Rattle.std.specs.Prelude.{◌≡◌, refl, ◌⊎◌, Bool, true, false, cond, eqb}
use Rattle.std.proofs.Math.Path.{sym, ap}
use Rattle.std.proofs.Common.{◌∙◌, inl, inr, mul-le-mul_right, eqb-true}
use Prim.Native.Nat.{ℕ, zero, suc, ◌+◌, ◌-◌, ◌*◌, ◌≤◌, ◌<◌}
use Rattle.std.proofs.Math.Decide.{dec_lt, ℕ_discrete}
use native.Mathlib.Omega.{arith}
use Rattle.whole.specs.Root.{nearest_root}
use Rattle.circle.specs.declared.plane.Offset.{Offset}
use Rattle.circle.specs.declared.plane.Turn.{Turn}
use Rattle.circle.specs.declared.quadrant.Place.{Place}
use Rattle.circle.specs.Circle.{Circle, on_circle}
use Rattle.circle.specs.computed.Step.{place, next_quadrant, seen_place}
use Rattle.circle.specs.computed.Step.{first_step, in_quadrant, next_place, step_of, after_of}
use Rattle.circle.specs.computed.Count.{rank_of, onward, places_to, circle_cycles}
use Rattle.circle.specs.Circle.{quarter_of}
use Rattle.circle.specs.computed.Charge.{step_charge}
use Rattle.circle.proofs.laws.Octant.{Axis, unique, under_axis, nearest_axis, some}
use Rattle.circle.proofs.laws.Step.{Step, step_is, stays, ahead}
use Rattle.circle.proofs.laws.Circle.{circle_some, on_circle_to, radius_bound}
use Rattle.circle.proofs.laws.Next.{On, seen_form}
use Rattle.circle.proofs.laws.Rank.{NextQuadrant, next, home, next_quadrant_lem, axis_point, rank_low, rank_above, rank_step}
use Rattle.circle.proofs.laws.Rank.{place_lt, place_injective, onward_lt, onward_ge, onward_range}
use Rattle.circle.proofs.laws.Walk.{after_front, after_circle, quarter_axis, seen_step, cycles_range, after_cycles}
use Rattle.circle.proofs.laws.Charge.{by_pulses, step_charge_lem, charge_range}
use Rattle.circle.proofs.laws.Count.{quarter_bound, ranked, rank_bound}
use Rattle.charges.specs.computed.Sum.{charges_in, span_of, pulses_to, toll_of, round_charges_of, charges_of}
use Rattle.charges.specs.computed.Asked.{Tolled}

-- ---- a step raises the toll by its charge, and the round's last step comes back to 0, as the rank does

-- as `Move`, with the charge
data Charged (n : ℕ) (p s : Place) (w : ℕ) : Type 0 where
  within : s.quadrant ≡ p.quadrant → Step n p.along p.across (s.along, s.across)
      → w ≡ by_pulses p.along p.across (s.along, s.across) → Charged n p s w
  onto : NextQuadrant p.quadrant s.quadrant → s.across ≡ 0 → Step n p.along p.across (0, s.along)
      → w ≡ by_pulses p.along p.across (0, s.along) → Charged n p s w

charged : (n : ℕ) (p : Place) → On n p → Charged n p (next_place n p) (by_pulses p.along p.across (first_step n p.along p.across))
unfolding next_place
charged n p o = by (first_step n p.along p.across) (step_is p.along p.across o.some)
  where
    at : (a b : ℕ) (t : Bool) → eqb a 0 ≡ t → Step n p.along p.across (a, b)
        → Charged n p (cond t (place (next_quadrant p.quadrant) b 0) (place p.quadrant a b)) (by_pulses p.along p.across (a, b))
    at a b true e st =
        let z = eqb-true a 0 e in
        onto (next_quadrant_lem p.quadrant o.four) refl (rw z at st) (ap (λ (t : ℕ). by_pulses p.along p.across (t, b)) z)
    at a b false e st = within refl st refl

    by : (s : ℕ × ℕ) → Step n p.along p.across s → Charged n p (in_quadrant p.quadrant s) (by_pulses p.along p.across s)
    by s st = at s.0 s.1 (eqb s.0 0) refl st

pub data Tolls (Q R : ℕ) (p s : Place) (w : ℕ) : Type 0 where
  more : rank_of Q s ≡ rank_of Q p + 1 → toll_of Q R s ≡ toll_of Q R p + w → Tolls Q R p s w
  wrap : rank_of Q p + 1 ≡ 4 * Q → rank_of Q s ≡ 0 → toll_of Q R p + w ≡ round_charges_of Q R → toll_of Q R s ≡ 0 → Tolls Q R p s w

module _ {n Q R : ℕ} (k : Axis (2 * n) Q) (ax : Axis n R) where
  tolls : {p s : Place} {w : ℕ} → On n p → Charged n p s w → Tolls Q R p s w
  unfolding rank_of toll_of pulses_to
  tolls {p} {s} o (within e st c) =
      let u = under_axis o.on ax in
      let g = ahead st in
      let kq = ap (λ (t : ℕ). t * Q) e in
      let kr = ap (λ (t : ℕ). t * (2 * R)) e in
      let r = rank_step k o.on st in
      let sent : pulses_to R s ≡ pulses_to R p + (p.along - s.along + (s.across - p.across)) = omega (arith, kr, g.in_x, g.up_y) in
      more (omega (arith, kq, r)) (omega (arith, kq, r, sent))
  tolls {p} {s} o (onto (next h j) e st c) =
      let u = under_axis o.on ax in
      let kq = ap (λ (t : ℕ). t * Q) j in
      let kr = ap (λ (t : ℕ). t * (2 * R)) j in
      let r = rank_step k o.on st in
      let a = rank_above k 0 s.along (stays o.on st) (omega arith) in
      let l = rank_low Q s.along s.across (omega arith) in
      let there = unique (axis_point o.on st) ax in
      let sent : pulses_to R s ≡ pulses_to R p + (p.along - 0 + (s.along - p.across)) = omega (arith, kr) in
      let step : rank_of Q s ≡ rank_of Q p + 1 = omega (arith, kq, r, a, l) in
      more step (omega (arith, step, sent))
  tolls {p} {s} o (onto (home h j) e st c) =
      let u = under_axis o.on ax in
      let kq = ap (λ (t : ℕ). t * Q) h in
      let kr = ap (λ (t : ℕ). t * (2 * R)) h in
      let zq = ap (λ (t : ℕ). t * Q) j in
      let zr = ap (λ (t : ℕ). t * (2 * R)) j in
      let r = rank_step k o.on st in
      let a = rank_above k 0 s.along (stays o.on st) (omega arith) in
      let l = rank_low Q s.along s.across (omega arith) in
      let there = unique (axis_point o.on st) ax in
      let sent : pulses_to R p + (p.along - 0 + (s.along - p.across)) ≡ 8 * R = omega (arith, kr) in
      let step : rank_of Q p + 1 ≡ 4 * Q = omega (arith, kq, r, a) in
      let back : rank_of Q s ≡ 0 = omega (arith, zq, l) in
      wrap step back (omega (arith, step, sent)) (omega (arith, back, zr))

-- ---- the sum on a walk

-- one step of a walk
pub step_tolls : {n : ℕ} (t : Turn) (p : Offset) → Circle n p
    → Tolls (quarter_of n) (nearest_root n) (seen_place t p) (seen_place t (step_of n t p)) (step_charge n t p)
step_tolls {n} t p c =
    let ax = nearest_axis n (circle_some c) in
    let o = (seen_form t p c).on in
    rw (seen_step t p c, step_charge_lem t p c) (tolls (quarter_axis c) ax o (charged n (seen_place t p) o))

-- after c steps that came over the X axis v times: rank and toll have both grown by what was done, less v rounds
pub record Along (n : ℕ) (t : Turn) (p : Offset) (c v : ℕ) : Type 0 where
  pub rank : rank_of (quarter_of n) (seen_place t (after_of n t p c)) + v * (4 * quarter_of n) ≡ rank_of (quarter_of n) (seen_place t p) + c
  pub toll : toll_of (quarter_of n) (nearest_root n) (seen_place t (after_of n t p c))
      + v * round_charges_of (quarter_of n) (nearest_root n)
      ≡ toll_of (quarter_of n) (nearest_root n) (seen_place t p) + charges_in n t p c

pub along : {n : ℕ} (t : Turn) (p : Offset) (c : ℕ) → Circle n p → (v : ℕ) × Along n t p c v
unfolding after_of charges_in
along t p zero o = (0, record { rank = omega arith; toll = omega arith })
along {n} t p (suc c) o = on (along t p c o) (step_tolls t at (after_circle t p c o))
  where
    Q : ℕ
    Q = quarter_of n

    R : ℕ
    R = nearest_root n

    at : Offset
    at = after_of n t p c

    on : (v : ℕ) × Along n t p c v → Tolls Q R (seen_place t at) (seen_place t (step_of n t at)) (step_charge n t at)
        → (v : ℕ) × Along n t p (suc c) v
    on (v, i) (more r m) = (v, record { rank = omega (arith, i.rank); toll = omega (arith, i.toll) })
    on (v, i) (wrap r z m y) = (suc v, record { rank = omega (arith, i.rank); toll = omega (arith, i.toll) })

-- each step is charged 1,000 at least and 1,414 at most
pub charges_range : (n : ℕ) (t : Turn) (p : Offset) (c : ℕ) → (1000 * c ≤ charges_in n t p c) × (charges_in n t p c ≤ 1414 * c)
unfolding charges_in step_charge
charges_range n t p zero = omega arith
charges_range n t p (suc c) = omega (arith, charges_range n t p c, charge_range (after_of n t p c) (step_of n t (after_of n t p c)))

-- so k more cost 1,000 each at least
pub charges_more : (n : ℕ) (t : Turn) (p : Offset) (c k : ℕ) → charges_in n t p c + 1000 * k ≤ charges_in n t p (c + k)
unfolding charges_in step_charge
charges_more n t p c zero = let none : c + 0 ≡ c = omega arith in omega (arith, ap (charges_in n t p) none)
charges_more n t p c (suc k) =
    let one : c + suc k ≡ suc (c + k) = omega arith in
    let q = after_of n t p (c + k) in
    rw one (omega (arith, charges_more n t p c k, charge_range q (step_of n t q)))

-- ---- the way to an end

module _ (n : ℕ) (t : Turn) where
  abbrev rank : Offset → ℕ
  rank p = rank_of (quarter_of n) (seen_place t p)

  abbrev toll : Offset → ℕ
  toll p = toll_of (quarter_of n) (nearest_root n) (seen_place t p)

  abbrev round : ℕ
  round = round_charges_of (quarter_of n) (nearest_root n)

  -- the cycles from one rank on to another
  abbrev to : Offset → Offset → ℕ
  to p e = onward (4 * quarter_of n) (rank p) (rank e)

  -- to a higher rank the way does not come over the X axis, to another it does once
  data Span (p e : Offset) : Type 0 where
    straight_on : rank p < rank e → toll e ≡ toll p + charges_in n t p (circle_cycles n t p e) → Span p e
    over : rank e ≤ rank p → toll e + round ≡ toll p + charges_in n t p (circle_cycles n t p e) → Span p e

  way : (p e : Offset) → Circle n p → Circle n e → Span p e
  unfolding circle_cycles places_to
  way p e o on = by (along t p (circle_cycles n t p e) o)
    where
      some_quarter : 1 ≤ quarter_of n
      some_quarter = some (quarter_axis o)

      there : after_of n t p (circle_cycles n t p e) ≡ e
      there = after_cycles t e on p o

      at : (v C : ℕ) → rank e + v * (4 * quarter_of n) ≡ rank p + to p e → toll e + v * round ≡ toll p + C
          → Dec (rank p < rank e) → ((rank p < rank e) × (toll e ≡ toll p + C)) ⊎ ((rank e ≤ rank p) × (toll e + round ≡ toll p + C))
      at zero C r m (yes h) = inl (h, omega arith)
      at (suc v) C r m (yes h) = absurd (omega (arith, onward_lt (4 * quarter_of n) (rank p) (rank e) h, some_quarter))
      at v C r m (no f) = let g : rank e ≤ rank p = omega arith in inr (g, turn v r m g)
        where
          below : rank p < 4 * quarter_of n
          below = place_lt (quarter_axis o) (seen_form t p o).on

          turn : (v : ℕ) → rank e + v * (4 * quarter_of n) ≡ rank p + to p e → toll e + v * round ≡ toll p + C → rank e ≤ rank p
              → toll e + round ≡ toll p + C
          turn zero r m g = absurd (omega (arith, onward_ge (4 * quarter_of n) (rank p) (rank e) g, some_quarter, below))
          turn (suc zero) r m g = omega arith
          turn (suc (suc v)) r m g = absurd (omega (arith, onward_ge (4 * quarter_of n) (rank p) (rank e) g, some_quarter, below))

      by : (v : ℕ) × Along n t p (circle_cycles n t p e) v → Span p e
      by (v, i) = done (at v C (rw there at i.rank) (rw there at i.toll) (dec_lt (rank p) (rank e)))
        where
          C : ℕ
          C = charges_in n t p (circle_cycles n t p e)

          done : ((rank p < rank e) × (toll e ≡ toll p + C)) ⊎ ((rank e ≤ rank p) × (toll e + round ≡ toll p + C)) → Span p e
          done (inl (h, m)) = straight_on h m
          done (inr (h, m)) = over h m

  -- the tolls are in the order of the ranks
  toll_lt : (p e : Offset) → Circle n p → Circle n e → rank p < rank e → toll p < toll e
  toll_lt p e o on h = by (way p e o on)
    where
      by : Span p e → toll p < toll e
      by (straight_on g m) = omega (arith, charges_range n t p (circle_cycles n t p e), (cycles_range t e on p o).0)
      by (over g m) = absurd (omega arith)

  toll_le : (p e : Offset) → Circle n p → Circle n e → rank e ≤ rank p → toll e ≤ toll p
  toll_le p e o on h = by (ℕ_discrete (rank e) (rank p))
    where
      by : Dec (rank e ≡ rank p) → toll e ≤ toll p
      by (yes s) =
          let place = place_injective (quarter_axis o) (seen_form t e on).on (seen_form t p o).on s in
          let same = ap (toll_of (quarter_of n) (nearest_root n)) place in
          omega arith
      by (no f) = let l = toll_lt e p on o (omega arith) in omega arith

  -- the sum of the charges from p on to e, full turns and passes over axes included, in closed form
  pub charges_closed : (p e : Offset) → Circle n p → Circle n e → charges_in n t p (circle_cycles n t p e) ≡ charges_of n t p e
  unfolding charges_of
  charges_closed p e o on = by (way p e o on)
    where
      by : Span p e → charges_in n t p (circle_cycles n t p e) ≡ onward round (toll p) (toll e)
      by (straight_on h m) = omega (arith, onward_lt round (toll p) (toll e) (toll_lt p e o on h))
      by (over h m) = omega (arith, onward_ge round (toll p) (toll e) (toll_le p e o on h))

  -- so a way is told by its ends
  pub span_closed : (p e : Offset) → Circle n p → Circle n e → (cycles charges : ℕ)
      → cycles ≡ onward (4 * quarter_of n) (rank p) (rank e) → charges ≡ onward round (toll p) (toll e)
      → record { cycles = cycles; charges = charges } ≡ span_of n t p e
  unfolding span_of circle_cycles places_to charges_of
  span_closed p e o on cycles charges c h = λ i. record { cycles = c i; charges = (h ∙ sym (charges_closed p e o on)) i }

  -- ---- step by step

  pub charges_front : (p : Offset) (c : ℕ) → charges_in n t p (suc c) ≡ step_charge n t p + charges_in n t (step_of n t p) c
  unfolding charges_in after_of
  charges_front p zero = omega arith
  charges_front p (suc c) = let f = after_front n t p c in omega (arith, charges_front p c, ap (step_charge n t) f)

-- ---- what the code relies on

pub tolled : (n : ℕ) (t : Turn) (p : Offset) → on_circle n p ≡ true → Tolled (quarter_of n) (nearest_root n) (seen_place t p)
tolled n t p e =
    let o = on_circle_to n p e in
    let u = under_axis (seen_form t p o.circle).on.on (nearest_axis n o.some) in
    record {
      ranked = ranked n t p e;
      rank = omega (arith, rank_bound n t p e, quarter_bound n p e);
      radius = radius_bound n o.some o.bound;
      reach = u.0;
      side = u.1;
    }

pub toll_bound : (n : ℕ) (t : Turn) (p : Offset) → on_circle n p ≡ true
    → toll_of (quarter_of n) (nearest_root n) (seen_place t p) < round_charges_of (quarter_of n) (nearest_root n)
unfolding toll_of pulses_to
toll_bound n t p e =
    let o = on_circle_to n p e in
    let f = (seen_form t p o.circle).on in
    let u = under_axis f.on (nearest_axis n o.some) in
    let k : (seen_place t p).quadrant ≤ 3 = omega (arith, f.four) in
    omega (arith, rank_bound n t p e, mul-le-mul_right (2 * nearest_root n) k, u.1)

-- the charges of the largest circle's full turn
pub round_bound : (n : ℕ) (p : Offset) → on_circle n p ≡ true → round_charges_of (quarter_of n) (nearest_root n) ≤ 9400000000
round_bound n p e = let o = on_circle_to n p e in omega (arith, quarter_bound n p e, radius_bound n o.some o.bound)

pub charges_bound : (n : ℕ) (t : Turn) (p e : Offset) → on_circle n p ≡ true → on_circle n e ≡ true → charges_of n t p e ≤ 9400000000
unfolding charges_of
charges_bound n t p e op oe =
    let range = onward_range (round n t) (toll n t p) (toll n t e) (toll_bound n t p op) (toll_bound n t e oe) in
    omega (arith, round_bound n p op, range.1)
