-- What a sum of charges pays for: the most cycles are those that it pays where it does not pay one more, and there is one such number.
use Rattle.std.specs.Prelude.{◌≡◌, Bool, cond}
use Rattle.std.proofs.Math.Path.{refl, ap}
use Rattle.std.proofs.Common.{sym, ◌∙◌, le_trans, le_antisymm}
use Rattle.std.proofs.Math.Bool.{true, false}
use Prim.Native.Nat.{ℕ, zero, suc, ◌+◌, ◌-◌, ◌*◌, ◌/◌, ◌≤◌, ◌<◌, min}
use Rattle.std.proofs.Math.Decide.{dec_le, dec_lt, ℕ_discrete}
use native.Mathlib.Omega.{arith}
use Rattle.std.proofs.Math.Dec.{leb}
use borrow.Author.Tests.{leb-true, leb-false}
use Rattle.circle.specs.declared.plane.Offset.{Offset}
use Rattle.circle.specs.declared.plane.Turn.{Turn}
use Rattle.circle.specs.declared.quadrant.Place.{Place}
use Rattle.circle.specs.Circle.{on_circle}
use Rattle.circle.specs.computed.Step.{seen, point_at, after_of}
use Rattle.circle.proofs.laws.Octant.{unless}
use Rattle.circle.proofs.laws.Circle.{on_circle_to}
use Rattle.circle.proofs.laws.Stepper.{after_on}
use Rattle.charges.specs.declared.jump.Arrived.{Arrived}
use Rattle.charges.specs.declared.jump.Start.{Start}
use Rattle.charges.specs.Paid.{most_paid}
use Rattle.charges.specs.computed.Sum.{charges_in}
use Rattle.charges.specs.computed.Paid.{paid_of}
use Rattle.charges.specs.computed.Jump.{jump_start, charges_on, arrived_of}
use Rattle.charges.specs.computed.Asked.{Started}
use Rattle.charges.specs.laws.Sum.{charges_more}
use Rattle.charges.specs.laws.Jump.{place_is, seen_point}

-- charges that never fall
abbrev pub Grows : (ℕ → ℕ) → Type 0
Grows C = (c : ℕ) → C c ≤ C (suc c)

-- c cycles, at most so many, are paid, and one more is too many or not paid
pub record Most (C : ℕ → ℕ) (s most c : ℕ) : Type 0 where
  pub within : c ≤ most
  pub pays : C c ≤ s
  pub stops : c < most → s < C (suc c)

module _ (C : ℕ → ℕ) (s : ℕ) where
  pub most_paid_lem : (most : ℕ) → C 0 ≤ s → Most C s most (most_paid C s most)
  unfolding most_paid
  most_paid_lem zero h = record { within = omega arith; pays = h; stops = λ l. absurd (omega arith) }
  most_paid_lem (suc m) h = by (leb (C (suc m)) s) refl (most_paid_lem m h)
    where
      by : (t : Bool) → leb (C (suc m)) s ≡ t → Most C s m (most_paid C s m) → Most C s (suc m) (cond t (suc m) (most_paid C s m))
      by true e o = record { within = omega arith; pays = leb-true (C (suc m)) s e; stops = λ l. absurd (omega arith) }
      by false e o = record { within = omega (arith, o.within); pays = o.pays; stops = λ l. last (dec_lt (most_paid C s m) m) }
        where
          last : Dec (most_paid C s m < m) → s < C (suc (most_paid C s m))
          last (yes g) = o.stops g
          last (no f) =
              let here : most_paid C s m ≡ m = omega (arith, o.within) in
              omega (arith, leb-false (C (suc m)) s e, ap (λ (c : ℕ). C (suc c)) here)

module _ (C : ℕ → ℕ) (grows : Grows C) where
  pub grows_to : (c d : ℕ) → c ≤ d → C c ≤ C d
  grows_to c zero h = let e : c ≡ 0 = omega arith in omega (arith, ap C e)
  grows_to c (suc d) h = by (ℕ_discrete c (suc d)) (grows_to c d)
    where
      by : Dec (c ≡ suc d) → (c ≤ d → C c ≤ C d) → C c ≤ C (suc d)
      by (yes e) k = omega (arith, ap C e)
      by (no f) k = le_trans (k (omega arith)) (grows d)

  -- more cycles than that are not paid
  pub most_holds : (s most c d : ℕ) → Most C s most c → d ≤ most → C d ≤ s → d ≤ c
  most_holds s most c d m l p = unless (λ g. omega (arith, m.stops (omega arith), grows_to (suc c) d g))

  pub most_unique : (s most c : ℕ) → Most C s most c → c ≡ most_paid C s most
  most_unique s most c m =
      let d = most_paid C s most in
      let o = most_paid_lem C s most (le_trans (grows_to 0 c (omega arith)) m.pays) in
      le_antisymm (most_holds s most d c o m.within m.pays) (most_holds s most c d m o.within o.pays)

-- ---- on a circle

module _ (n : ℕ) (t : Turn) (p : Offset) where
  pub charges_grow : Grows (charges_in n t p)
  unfolding charges_in
  charges_grow c = omega arith

-- ---- the search

-- some cycles are paid, `high` are not or are more than are asked, and the next to try lie between
pub record Searching (s : Start) (most sum : ℕ) (low : Arrived) (high next step : ℕ) : Type 0 where
  pub is : low ≡ arrived_of s low.cycles
  pub pays : low.charges ≤ sum
  pub below : low.cycles < high
  pub within : high ≤ most + 1
  pub stops : high ≤ most → sum < charges_on s high
  pub after : low.cycles + 1 < high → low.cycles < next
  pub before : low.cycles + 1 < high → next < high
  pub short : step ≤ most

pub reached_cycles : (s : Start) (c : ℕ) {r : Arrived} → r ≡ arrived_of s c → r.cycles ≡ c
unfolding arrived_of
reached_cycles s c e = ap (λ (x : Arrived). x.cycles) e

reached_charges : (s : Start) (c : ℕ) {r : Arrived} → r ≡ arrived_of s c → r.charges ≡ charges_on s c
unfolding arrived_of
reached_charges s c e = ap (λ (x : Arrived). x.charges) e

module _ (s : Start) (most sum : ℕ) where
  -- where c cycles are paid, no more are paid than the rest has 1,000s
  enough : (c high rest : ℕ) → charges_on s c + rest ≡ sum → (high ≤ most → sum < charges_on s high)
      → (h : ℕ) → h ≡ min high (c + rest / 1000 + 1) → h ≤ most → sum < charges_on s h
  enough c high rest adds stops h e l = by (dec_le high (c + rest / 1000 + 1))
    where
      by : Dec (high ≤ c + rest / 1000 + 1) → sum < charges_on s h
      by (yes g) = let same : h ≡ high = omega arith in rw same (stops (omega arith))
      by (no f) =
          let same : h ≡ c + (rest / 1000 + 1) = omega arith in
          rw same (omega (arith, charges_more s.n s.turn s.at c (rest / 1000 + 1)))

  pub search_start : Started s → (high guess next : ℕ)
      → high ≡ min (most + 1) (0 + sum / 1000 + 1) → 1 ≤ guess → next ≡ min guess (high - 1)
      → Searching s most sum (record { cycles = 0; charges = 0; place = s.place }) high next 0
  unfolding arrived_of charges_in after_of
  search_start h high guess next e g f =
      record {
        is = λ i. record { cycles = 0; charges = 0; place = place_is h i };
        pays = omega arith;
        below = omega arith;
        within = omega arith;
        stops = enough 0 (most + 1) sum (omega arith) (λ l. absurd (omega arith)) high e;
        after = λ l. omega arith;
        before = λ l. omega arith;
        short = omega arith;
      }

  module _ {low : Arrived} {high next step : ℕ} (i : Searching s most sum low high next step) where
    pub search_paid : low.cycles + 1 < high → (r : Arrived) → r ≡ arrived_of s next → r.charges ≤ sum
        → (h d : ℕ) → h ≡ min high (next + (sum - r.charges) / 1000 + 1) → d ≡ min (2 * step + 1) ((h - next) / 2)
        → Searching s most sum r h (next + d) d
    search_paid l r e p h d f g =
        let x = reached_charges s next e in
        let c = reached_cycles s next e in
        let b = i.before l in
        record {
          is = e ∙ ap (arrived_of s) (sym c);
          pays = p;
          below = omega (arith, i.before l);
          within = omega (arith, i.within);
          stops = enough next high (sum - r.charges) (omega arith) i.stops h f;
          after = λ m. omega arith;
          before = λ m. omega arith;
          short = omega (arith, i.within);
        }

    pub search_unpaid : low.cycles + 1 < high → (r : Arrived) → r ≡ arrived_of s next → sum < r.charges
        → (d : ℕ) → d ≡ min (2 * step + 1) ((next - low.cycles) / 2) → Searching s most sum low next (next - d) d
    search_unpaid l r e p d g =
        let x = reached_charges s next e in
        let a = i.after l in
        let b = i.before l in
        record {
          is = i.is;
          pays = i.pays;
          below = a;
          within = omega (arith, i.within);
          stops = λ m. omega arith;
          after = λ m. omega arith;
          before = λ m. omega arith;
          short = omega (arith, i.within);
        }

    pub search_end : high ≤ low.cycles + 1 → low ≡ arrived_of s (most_paid (charges_on s) sum most)
    search_end l =
        let top : high ≡ suc low.cycles = omega (arith, i.below) in
        let x = reached_charges s low.cycles i.is in
        let m : Most (charges_on s) sum most low.cycles = record {
          within = omega (arith, i.within);
          pays = omega (arith, i.pays);
          stops = λ u. rw (← top) (i.stops (omega arith));
        } in
        i.is ∙ ap (arrived_of s) (most_unique (charges_on s) (charges_grow s.n s.turn s.at) sum most low.cycles m)

-- what is found, back from quadrant form
pub paid_is : (n : ℕ) (t : Turn) (p : Offset) (most sum : ℕ) → on_circle n p ≡ true → {r : Arrived} {at : Offset}
    → r ≡ arrived_of (jump_start n t p) (most_paid (charges_in n t p) sum most) → at ≡ seen t (point_at r.place)
    → record { cycles = r.cycles; charges = r.charges; at = at } ≡ paid_of n t p most sum
unfolding jump_start arrived_of paid_of
paid_is n t p most sum on e f =
    let c = most_paid (charges_in n t p) sum most in
    let place = ap (λ (x : Arrived). x.place) e in
    let on_there = on_circle_to n (after_of n t p c) (after_on n t p c on) in
    let there = f ∙ ap (λ (q : Place). seen t (point_at q)) place ∙ seen_point t (after_of n t p c) on_there.circle in
    λ i. record { cycles = (e i).cycles; charges = (e i).charges; at = there i }
