-- An arc in work: what its test says, and that one cycle keeps it.
use Rattle.std.specs.Prelude.{◌≡◌, true, false, ℕ, suc, ◌≤◌, ℤ, pos, negsuc, nat_abs}
use Rattle.std.proofs.Common.{subst, sym, ◌∙◌, arith, true≢false}
use Rattle.whole.specs.laws.Order.{◌≼◌}
use Rattle.whole.specs.laws.Test.{both, joined, refuted}
use Rattle.plane.specs.declared.point.Point.{Point}
use Rattle.plane.specs.declared.travel.Travel.{Travel}
use Rattle.plane.specs.Travel.{inside_of, visits_inside}
use Rattle.plane.specs.Point.{Near}
use Rattle.plane.specs.computed.Travel.{Wide}
use Rattle.plane.specs.laws.Travel.{InRange, Bounded, inside, inside_test_lem, visits, visits_test, travel_near}
use Rattle.circle.specs.Circle.{on_circle}
use Rattle.arc.specs.declared.arc.Arc.{Arc}
use Rattle.arc.specs.Centre.{seen_from}
use Rattle.arc.specs.computed.Arc.{StandsOnArc, arc_after, arc_cycles, arc_at, centres}
use Rattle.arc.specs.laws.Step.{Circles, cycles_bounds, arc_end, more_cycles, next_circles, after_next}

-- a number between -b and b has at most the magnitude b
bounded : (b : ℕ) (z : ℤ) → negsuc b ≼ z → z ≼ pos (suc b) → nat_abs z ≤ suc b
bounded b (pos a) l h = omega arith
bounded b (negsuc a) l h = omega arith

pub centre_near : {p : Point} → inside_of centres p ≡ true → Near 2000000 p
centre_near {p} e =
    let i = inside e in
    record { x = bounded 1999999 p.x i.x.above i.x.below; y = bounded 1999999 p.y i.y.above i.y.below }

-- ---- the test

pub record ArcAt (t : Travel) (a : Arc) (at : Point) : Type 0 where
  pub centre : inside_of centres a.centre ≡ true
  pub on : on_circle a.square (seen_from a.centre at) ≡ true
  pub end_on : on_circle a.square (seen_from a.centre a.end) ≡ true
  pub stays : visits_inside t (arc_after a at) (arc_cycles a at) ≡ true

pub arc_at_lem : {t : Travel} {a : Arc} {at : Point} → arc_at t a at ≡ true → ArcAt t a at
unfolding arc_at
arc_at_lem e =
    let c = both e in
    let o = both c.1 in
    let r = both o.1 in
    record { centre = c.0; on = o.0; end_on = r.0; stays = r.1 }

pub arc_test : {t : Travel} {a : Arc} {at : Point} → ArcAt t a at → arc_at t a at ≡ true
unfolding arc_at
arc_test i = joined i.centre (joined i.on (joined i.end_on i.stays))

-- ---- what follows for an arc in work in a travel that is wide enough

module _ {t : Travel} {a : Arc} {at : Point} (i : ArcAt t a at) where
  both_on : Circles a at
  both_on = record { on = i.on; end_on = i.end_on }

  pub visited : (c : ℕ) → 1 ≤ c → c ≤ arc_cycles a at → Bounded t (arc_after a at c)
  visited c some most = visits t (arc_after a at) (arc_cycles a at) i.stays c some most

  pub end_inside : Bounded t a.end
  end_inside = let b = cycles_bounds a at both_on in
      subst (Bounded t) (arc_end a at both_on) (visited (arc_cycles a at) b.0 (omega arith))

  pub next_inside : Bounded t (arc_after a at 1)
  next_inside = visited 1 (omega arith) (cycles_bounds a at both_on).0

  pub on_arc : Wide t → Bounded t at → StandsOnArc a at
  on_arc w here =
      record {
        centre = centre_near i.centre;
        here = travel_near w here;
        there = travel_near w end_inside;
        on = i.on;
        end_on = i.end_on;
      }

  -- one cycle that is not the last keeps the arc in work
  pub keeps : (arc_after a at 1 ≡ a.end → ⊥) → ArcAt t a (arc_after a at 1)
  keeps f =
      let n = next_circles a at both_on in
      record {
        centre = i.centre;
        on = n.on;
        end_on = i.end_on;
        stays =
            visits_test t _ _
            (λ c some most. rw (after_next a at c) (visited (suc c) (omega arith) (omega (arith, more_cycles a at both_on f))));
      }

-- a centre within ±2,000,000 is one that the test of an arc lets through
pub centre_inside : (p : Point) → Near 2000000 p → inside_of centres p ≡ true
centre_inside p n = inside_test_lem {t = centres} {p = p} (record { x = by p.x n.x; y = by p.y n.y })
  where
    by : (z : ℤ) → nat_abs z ≤ 2000000 → InRange centres.x z
    by (pos a) h = record { above = omega arith; below = omega arith }
    by (negsuc a) h = record { above = omega arith; below = omega arith }

-- no arc is in work whose end is out of travel
pub arc_out : (t : Travel) (a : Arc) (at : Point) → inside_of t a.end ≡ false → arc_at t a at ≡ false
arc_out t a at out = refuted _ (λ e. true≢false (sym (inside_test_lem (end_inside (arc_at_lem e))) ∙ out))

pub ruleset in_work = (arc_out, centre_near, inside, travel_near)
