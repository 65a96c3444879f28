-- Travel seen from the centre, and the test without a walk.
use Rattle.std.specs.Prelude.{◌≡◌, true, ◌↔◌, ℤ, neg_ℤ, ◌+ℤ◌, ◌-ℤ◌, ◌≤ℤ◌}
use Prim.Native.Nat.{ℕ, ◌≤◌}
use Rattle.std.proofs.Common.{arith}
use Rattle.whole.specs.laws.Difference.{parts, negated, added}
use Rattle.whole.specs.laws.Order.{◌≼◌, from_≤ℤ, to_≤ℤ}
use Rattle.whole.specs.laws.Test.{same_test}
use Rattle.plane.specs.declared.point.Point.{Point}
use Rattle.plane.specs.declared.travel.Travel.{Travel}
use Rattle.plane.specs.Travel.{visits_inside}
use Rattle.plane.specs.laws.Travel.{Bounded, visits, visits_test}
use Rattle.circle.specs.declared.plane.Offset.{Offset}
use Rattle.circle.specs.Circle.{Circle}
use Rattle.circle.specs.Next.{ToVisit}
use Rattle.circle.specs.computed.Step.{after_of}
use Rattle.circle.specs.computed.Count.{circle_cycles}
use Rattle.circle.proofs.laws.Walk.{walk_of, walk_to, ends, ends_cycles}
use Rattle.clearance.specs.declared.Room.{Room}
use Rattle.clearance.specs.computed.Inside.{Inside as InRoom}
use Rattle.clearance.specs.computed.Travel.{stays_inside}
use Rattle.clearance.specs.laws.Inside.{stays_inside_lem}
use Rattle.arc.specs.declared.arc.Arc.{Arc}
use Rattle.arc.specs.Centre.{seen_from, back_from}
use Rattle.arc.specs.computed.Centre.{room_of}
use Rattle.arc.specs.computed.Arc.{StandsOnArc, arc_after, arc_cycles}
use Rattle.arc.specs.laws.Centre.{back_seen}
use Rattle.arc.specs.laws.Step.{circles, circle_here, circle_there}

-- ---- in travel, seen from the centre and on the table

-- one side of one axis: o is at most u - c, so c + o is at most u
below_side : (c o u : ℤ) → o ≤ℤ (u -ℤ c) → c +ℤ o ≼ u
below_side c o u h = omega (arith, from_≤ℤ h, added (parts c) (parts o), added (parts u) (negated (parts c)))

side_below : (c o u : ℤ) → c +ℤ o ≼ u → o ≤ℤ (u -ℤ c)
side_below c o u h = to_≤ℤ o (u -ℤ c) (omega (arith, added (parts c) (parts o), added (parts u) (negated (parts c))))

above_side : (c o l : ℤ) → neg_ℤ o ≤ℤ (c -ℤ l) → l ≼ c +ℤ o
above_side c o l h = omega (arith, from_≤ℤ h, negated (parts o), added (parts c) (parts o), added (parts c) (negated (parts l)))

side_above : (c o l : ℤ) → l ≼ c +ℤ o → neg_ℤ o ≤ℤ (c -ℤ l)
side_above c o l h =
    to_≤ℤ (neg_ℤ o) (c -ℤ l) (omega (arith, negated (parts o), added (parts c) (parts o), added (parts c) (negated (parts l))))

module _ (t : Travel) (c : Point) (o : Offset) where
  pub on_table : InRoom (room_of t c) o → Bounded t (back_from c o)
  on_table i = record {
    x = record { above = above_side c.x o.x t.x.lower i.left; below = below_side c.x o.x t.x.upper i.right };
    y = record { above = above_side c.y o.y t.y.lower i.down; below = below_side c.y o.y t.y.upper i.up };
  }

  pub from_centre : Bounded t (back_from c o) → InRoom (room_of t c) o
  from_centre i = record {
    right = side_below c.x o.x t.x.upper i.x.below;
    up = side_below c.y o.y t.y.upper i.y.below;
    left = side_above c.x o.x t.x.lower i.x.above;
    down = side_above c.y o.y t.y.lower i.y.above;
  }

-- ---- the test without a walk says that every point still to visit is in travel

module _ (a : Arc) (at : Point) (on : StandsOnArc a at) where
  on_here : Circle a.square (seen_from a.centre at)
  on_here = circle_here a at (circles on)

  on_there : Circle a.square (seen_from a.centre a.end)
  on_there = circle_there a at (circles on)

  pub stays_visits : (t : Travel) → Bounded t at
      → stays_inside (room_of t a.centre) a.square a.turn (seen_from a.centre at) (seen_from a.centre a.end)
      ≡ visits_inside t (arc_after a at) (arc_cycles a at)
  unfolding arc_after arc_cycles
  stays_visits t here = same_test to from
    where
      N : ℕ
      N = a.square

      room : Room
      room = room_of t a.centre

      p : Offset
      p = seen_from a.centre at

      e : Offset
      e = seen_from a.centre a.end

      test : (stays_inside room N a.turn p e ≡ true) ↔ (InRoom room p × ((q : Offset) → ToVisit N a.turn p e q → InRoom room q))
      test = stays_inside_lem a.turn room p e on_here on_there

      to_visit : (c : ℕ) → 1 ≤ c → c ≤ circle_cycles N a.turn p e → ToVisit N a.turn p e (after_of N a.turn p c)
      to_visit c some most =
          record {
            cycles = circle_cycles N a.turn p e;
            ends = ends a.turn e on_there p on_here;
            cycle = c;
            begun = some;
            within = most;
            walk = walk_of a.turn p c on_here;
          }

      to : stays_inside room N a.turn p e ≡ true
          → visits_inside t (λ c. back_from a.centre (after_of N a.turn p c)) (circle_cycles N a.turn p e) ≡ true
      to h =
          visits_test t _ _
          (λ c some most. on_table t a.centre (after_of N a.turn p c) ((test.0 h).1 (after_of N a.turn p c) (to_visit c some most)))

      from : visits_inside t (λ c. back_from a.centre (after_of N a.turn p c)) (circle_cycles N a.turn p e) ≡ true
          → stays_inside room N a.turn p e ≡ true
      from v =
          test.1 (
            from_centre t a.centre p (rw (back_seen a.centre at) here),
            λ q w.
                let same = walk_to a.turn p w.cycle q on_here w.walk in
                let most = (ends_cycles a.turn p e w.cycles on_here on_there).0 w.ends in
                from_centre t a.centre q (rw same (visits t _ _ v w.cycle w.begun (omega (arith, w.within, most)))),
          )
