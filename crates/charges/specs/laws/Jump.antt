-- The place of a rank is a circle point of that rank; so the walk after c cycles is at the place of its rank, round and round, and its
-- charges are the tolls apart.
use Rattle.std.specs.Prelude.{◌≡◌, Bool, cond, nat_abs}
use Rattle.std.proofs.Math.Path.{refl, ap}
use Rattle.std.proofs.Common.{sym, ◌∙◌, div-add-mod', lt_of_not-le, mul-le-mul_right, arith}
use Rattle.std.proofs.Math.Logic.{inl, inr}
use Rattle.std.proofs.Math.Bool.{true, false}
use Prim.Native.Nat.{ℕ, zero, suc, ◌+◌, ◌-◌, ◌*◌, ◌/◌, ◌%◌, ◌≤◌, ◌<◌}
use Rattle.std.proofs.Math.Nat.{mod-lt}
use Rattle.std.proofs.Math.Decide.{dec_le}
use Rattle.std.proofs.Math.Dec.{leb}
use borrow.Author.Tests.{leb-true, leb-false}
use Rattle.whole.specs.Root.{nearest_root}
use Rattle.whole.specs.laws.Quotient.{quotient}
use Rattle.circle.specs.declared.plane.Offset.{Offset}
use Rattle.circle.specs.declared.plane.Turn.{Turn}
use Rattle.circle.specs.declared.quadrant.Place.{Place}
use Rattle.circle.specs.Circle.{Circle, largest_n, on_circle}
use Rattle.circle.specs.computed.Step.{place, seen, point_at, seen_place, step_of, after_of}
use Rattle.circle.specs.computed.Count.{rank_of, onward, places_to, circle_cycles}
use Rattle.circle.specs.Circle.{quarter_of}
use Rattle.circle.proofs.laws.Octant.{Octant, Axis, apart, apart_le, self_square, some, within_axis, nearest_axis}
use Rattle.circle.proofs.laws.Circle.{OnCircle, on_circle_to, radius_bound, seen_seen}
use Rattle.circle.proofs.laws.Code.{turned_small}
use Rattle.circle.proofs.laws.Next.{On, seen_form}
use Rattle.circle.proofs.laws.Rank.{After, more, wrap, rank_low, rank_above, place_lt, place_injective, move, rank_move}
use Rattle.circle.proofs.laws.Rank.{onward_lt, onward_ge}
use Rattle.circle.proofs.laws.Walk.{after_circle, quarter_axis, seen_step}
use Rattle.circle.proofs.laws.Count.{rank_bound}
use Rattle.circle.proofs.laws.Stepper.{after_on}
use Rattle.charges.specs.declared.Span.{Span}
use Rattle.charges.specs.declared.jump.Start.{Start}
use Rattle.charges.specs.computed.Sum.{charges_in, toll_of, round_charges_of, charges_of, span_to}
use Rattle.charges.specs.computed.Asked.{Placed, Tolled, Started}
use Rattle.charges.specs.computed.Jump.{beside, place_in, place_at, jump_start, point_on, charges_on, arrived_of}
use Rattle.charges.specs.laws.Sum.{charges_closed, tolled, toll_bound, round_bound}

-- ---- the place of a rank

pub record At (n Q r : ℕ) (q : Place) : Type 0 where
  pub on : On n q
  pub rank : rank_of Q q ≡ r

module _ (n : ℕ) {Q : ℕ} (k : Axis (2 * n) Q) where
  -- to half a quarter the shorter coordinate leaves room for a longer one ..
  room : (y : ℕ) → 2 * y ≤ Q → 2 * (y * y) + 1 ≤ n + y
  room y h = omega (arith, apart_le h)

  -- .. and the nearest root is the one
  pub beside_octant : (y : ℕ) → 2 * y ≤ Q → Octant n (beside n y) y
  beside_octant y h = by (dec_le y (beside n y))
    where
      root : Axis (n - y * y) (beside n y)
      root = nearest_axis (n - y * y) (omega (arith, room y h, self_square y))

      by : Dec (y ≤ beside n y) → Octant n (beside n y) y
      by (yes g) = let r = root in omega (arith, room y h, self_square y)
      by (no f) = let r = root in absurd (omega (arith, room y h, self_square y, apart (lt_of_not-le f)))

  pub place_in_lem : (j i : ℕ) → j < 4 → i < Q → At n Q (j * Q + i) (place_in n Q j i)
  unfolding place_in rank_of
  place_in_lem j i four h = by (leb (2 * i) Q) refl
    where
      by : (t : Bool) → leb (2 * i) Q ≡ t → At n Q (j * Q + i) (cond t (place j (beside n i) i) (place j (Q - i) (beside n (Q - i))))
      by true e =
          let o = beside_octant i (leb-true (2 * i) Q e) in
          record { on = record { four = four; some = some o; on = inl o }; rank = omega (arith, rank_low Q (beside n i) i o.wide) }
      by false e =
          let l = leb-false (2 * i) Q e in
          let o = beside_octant (Q - i) (omega arith) in
          let r = rank_above k (Q - i) (beside n (Q - i)) (inr o) o.wide in
          record { on = record { four = four; some = omega arith; on = inr o }; rank = omega (arith, r) }

  -- the quarters of a rank, round and round, and what is left of it
  rounds : (r a b k i : ℕ) → a * Q + i ≡ r → b * 4 + k ≡ a → k < 4 → i < Q → k * Q + i ≡ r % (4 * Q)
  rounds r a b k i e f l h =
      let up : k + 1 ≤ 4 = omega arith in
      sym (quotient r (4 * Q) b (k * Q + i) (omega (arith, ap (λ (t : ℕ). t * Q) f)) (omega (arith, mul-le-mul_right Q up))).1

  pub place_at_lem : (r : ℕ) → At n Q (r % (4 * Q)) (place_at n Q r)
  unfolding place_at
  place_at_lem r =
      let four : r / Q % 4 < 4 = mod-lt (r / Q) (omega arith) in
      let rest = mod-lt r (some k) in
      let p = place_in_lem (r / Q % 4) (r % Q) four rest in
      let round = rounds r (r / Q) (r / Q / 4) (r / Q % 4) (r % Q) (div-add-mod' r Q) (div-add-mod' (r / Q) 4) four rest in
      record { on = p.on; rank = p.rank ∙ round }

-- ---- ranks, round and round

-- c on from r in a round of T, after some whole rounds
pub record Onward (T r c s : ℕ) : Type 0 where
  pub rounds : ℕ
  pub adds_up : s + rounds * T ≡ r + c
  pub below : s < T

onward_next : {T r c s s' : ℕ} → Onward T r c s → After T s s' → s' < T → Onward T r (suc c) s'
onward_next o (more e) h = record { rounds = o.rounds; adds_up = omega (arith, o.adds_up); below = h }
onward_next o (wrap e f) h = record { rounds = o.rounds + 1; adds_up = omega (arith, o.adds_up); below = h }

pub onward_is : {T r c s : ℕ} → Onward T r c s → s ≡ (r + c) % T
onward_is {T} {r} {c} {s} o = sym (quotient (r + c) T o.rounds s (omega (arith, o.adds_up)) o.below).1

module _ {n : ℕ} (t : Turn) (p : Offset) (o : Circle n p) where
  abbrev pub Q : ℕ
  Q = quarter_of n

  abbrev pub rank : Offset → ℕ
  rank q = rank_of Q (seen_place t q)

  on : (q : Offset) → Circle n q → On n (seen_place t q)
  on q c = (seen_form t q c).on

  after_onward : (c : ℕ) → Onward (4 * Q) (rank p) c (rank (after_of n t p c))
  unfolding after_of
  after_onward zero = record { rounds = 0; adds_up = omega arith; below = place_lt (quarter_axis o) (on p o) }
  after_onward (suc c) =
      let q = after_of n t p c in
      let d = after_circle t p c o in
      rw (seen_step t q d)
      (onward_next (after_onward c) (rank_move (quarter_axis o) (on q d) (move n (seen_place t q) (on q d)))
      (rw (seen_step t q d) at (place_lt (quarter_axis o) (on (step_of n t q) (after_circle t p (suc c) o)))))

  -- after c cycles the walk is at the point whose rank is c more
  pub after_rank : (c : ℕ) → rank (after_of n t p c) ≡ (rank p + c) % (4 * Q)
  after_rank c = onward_is (after_onward c)

  -- so it is at the place of that rank
  pub after_place : (c : ℕ) → place_at n Q (rank p + c) ≡ seen_place t (after_of n t p c)
  after_place c =
      let q = after_of n t p c in
      let a = place_at_lem n (quarter_axis o) (rank p + c) in
      place_injective (quarter_axis o) a.on (on q (after_circle t p c o)) (a.rank ∙ sym (after_rank c))

  -- to a full turn, the cycles there are those that led there ..
  pub cycles_after : (c : ℕ) → 1 ≤ c → c ≤ 4 * Q → circle_cycles n t p (after_of n t p c) ≡ c
  unfolding circle_cycles places_to
  cycles_after c l h = by (rank (after_of n t p c)) (after_onward c) (place_lt (quarter_axis o) (on p o))
    where
      by : (s : ℕ) → Onward (4 * Q) (rank p) c s → rank p < 4 * Q → onward (4 * Q) (rank p) s ≡ c
      by s w lt = at w.rounds w.adds_up
        where
          at : (v : ℕ) → s + v * (4 * Q) ≡ rank p + c → onward (4 * Q) (rank p) s ≡ c
          at zero e = omega (arith, onward_lt (4 * Q) (rank p) s (omega arith))
          at (suc zero) e = omega (arith, onward_ge (4 * Q) (rank p) s (omega arith))
          at (suc (suc v)) e = absurd (omega arith)

  abbrev pub toll : Offset → ℕ
  toll q = toll_of Q (nearest_root n) (seen_place t q)

  -- .. and their charges are the tolls apart
  pub charges_after : (c : ℕ) → 1 ≤ c → c ≤ 4 * Q
      → charges_in n t p c ≡ onward (round_charges_of Q (nearest_root n)) (toll p) (toll (after_of n t p c))
  unfolding charges_of
  charges_after c l h =
      let e = after_of n t p c in
      ap (charges_in n t p) (sym (cycles_after c l h)) ∙ charges_closed n t p e o (after_circle t p c o)

-- ---- what the code asks

module _ (n : ℕ) (any : 1 ≤ n) (bound : n ≤ largest_n) where
  quarter : Axis (2 * n) (quarter_of n)
  quarter = nearest_axis (2 * n) (omega arith)

  pub quarter_some : 1 ≤ quarter_of n
  quarter_some = some quarter

  pub quarter_most : quarter_of n ≤ 2000000
  quarter_most = within_axis quarter 2000000 (omega arith)

  pub placed : (i : ℕ) → i < quarter_of n → Placed n (quarter_of n) i
  placed i h = record {
    quarter = quarter_most;
    rank = h;
    low = λ l. omega (arith, room n quarter i l, self_square i);
    high = λ l. below (quarter_of n - i) (omega arith);
  }
    where
      below : (y : ℕ) → 2 * y ≤ quarter_of n → y * y ≤ n
      below y l = omega (arith, room n quarter y l, self_square y)

-- ---- a start

pub started : (n : ℕ) (t : Turn) (p : Offset) → on_circle n p ≡ true → Started (jump_start n t p)
unfolding jump_start
started n t p e = record { on = e; is = refl }

pub record StartBounds (s : Start) : Type 0 where
  pub some : 1 ≤ s.quarter
  pub quarter : s.quarter ≤ 2000000
  pub radius : s.radius ≤ 1414214
  pub rank : s.from.cycles < 4 * s.quarter
  pub toll : s.from.charges < round_charges_of s.quarter s.radius
  pub round : round_charges_of s.quarter s.radius ≤ 9400000000

module _ {s : Start} (h : Started s) where
  pub start_on : OnCircle s.n s.at
  start_on = on_circle_to s.n s.at h.on

  pub quarter_is : s.quarter ≡ quarter_of s.n
  unfolding jump_start
  quarter_is = ap (λ (x : Start). x.quarter) h.is

  pub radius_is : s.radius ≡ nearest_root s.n
  unfolding jump_start
  radius_is = ap (λ (x : Start). x.radius) h.is

  pub place_is : s.place ≡ seen_place s.turn s.at
  unfolding jump_start
  place_is = ap (λ (x : Start). x.place) h.is

  pub from_is : s.from ≡ span_to (quarter_of s.n) (nearest_root s.n) (seen_place s.turn s.at)
  unfolding jump_start
  from_is = ap (λ (x : Start). x.from) h.is

  -- its numbers are small
  pub start_bounds : StartBounds s
  start_bounds =
      let n = s.n in
      let o = start_on in
      let rank = rank_bound n s.turn s.at h.on in
      let toll = toll_bound n s.turn s.at h.on in
      let most = round_bound n s.at h.on in
      record {
        some = rw quarter_is (quarter_some n o.some o.bound);
        quarter = rw quarter_is (quarter_most n o.some o.bound);
        radius = rw radius_is (radius_bound n o.some o.bound);
        rank = rw (quarter_is, ap (λ (w : Span). w.cycles) from_is) rank;
        toll = rw (quarter_is, radius_is, ap (λ (w : Span). w.charges) from_is) toll;
        round = rw (quarter_is, radius_is) most;
      }

  -- the place so many cycles on
  pub place_after_lem : (c : ℕ) → place_at s.n s.quarter (s.from.cycles + c) ≡ seen_place s.turn (point_on s c)
  place_after_lem c = rw (quarter_is, ap (λ (w : Span). w.cycles) from_is) (after_place s.turn s.at start_on.circle c)

  pub tolled_after : (c : ℕ) → Tolled (quarter_of s.n) (nearest_root s.n) (seen_place s.turn (point_on s c))
  tolled_after c = tolled s.n s.turn (point_on s c) (after_on s.n s.turn s.at c h.on)

  pub toll_after : (c : ℕ) → toll_of s.quarter s.radius (seen_place s.turn (point_on s c)) < round_charges_of s.quarter s.radius
  toll_after c = rw (quarter_is, radius_is) (toll_bound s.n s.turn (point_on s c) (after_on s.n s.turn s.at c h.on))

  -- what the code answers is where the walk is
  pub reached_is : (c w : ℕ) (q : Place) → 1 ≤ c → c ≤ 4 * s.quarter → q ≡ place_at s.n s.quarter (s.from.cycles + c)
      → w ≡ onward (round_charges_of s.quarter s.radius) s.from.charges (toll_of s.quarter s.radius q)
      → record { cycles = c; charges = w; place = q } ≡ arrived_of s c
  unfolding arrived_of
  reached_is c w q l m e f =
      let there = e ∙ place_after_lem c in
      let most : c ≤ 4 * quarter_of s.n = omega (arith, quarter_is) in
      let toll = ap (λ (w : Span). w.charges) from_is in
      let apart = charges_after s.turn s.at start_on.circle c l most in
      let sum : w ≡ charges_on s c = rw (f, quarter_is, radius_is, toll, there) (sym apart) in
      λ i. record { cycles = c; charges = sum i; place = there i }

-- back from quadrant form
pub seen_point : {n : ℕ} (t : Turn) (p : Offset) → Circle n p → seen t (point_at (seen_place t p)) ≡ p
seen_point t p o = ap (seen t) (seen_form t p o).is ∙ seen_seen t p

-- small coordinates
pub record SmallPlace (q : Place) : Type 0 where
  pub four : q.quadrant < 4
  pub along : q.along ≤ 1414214
  pub across : q.across ≤ 1414214
  pub height : nat_abs (point_at q).y ≤ 1414214

pub reached_small : {s : Start} → Started s → (c : ℕ) → SmallPlace (arrived_of s c).place
unfolding arrived_of
reached_small {s} h c =
    let m = tolled_after h c in
    let q = seen_place s.turn (point_on s c) in
    let a : q.along ≤ 1414214 = omega (arith, m.reach, m.radius) in
    let b : q.across ≤ 1414214 = omega (arith, m.side, m.radius) in
    record { four = m.ranked.four; along = a; across = b; height = (turned_small q.quadrant 1414214 _ a b).1 }
