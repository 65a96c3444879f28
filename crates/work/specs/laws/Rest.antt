-- So many cycles at once are so many cycles one by one.
use Rattle.std.specs.Prelude.{◌≡◌, Bool, true, false, eqb}
use Rattle.std.proofs.Math.Path.{refl, ap}
use Rattle.std.proofs.Common.{subst}
use Prim.Native.Nat.{ℕ, zero, suc, ◌+◌, ◌*◌}
use native.Mathlib.Omega.{arith}
use Rattle.std.proofs.Math.Dec.{T}
use Rattle.plane.specs.declared.point.Point.{Point}
use Rattle.plane.specs.declared.travel.Travel.{Travel}
use Rattle.plane.specs.Point.{equal_point}
use Rattle.plane.specs.computed.Travel.{Wide}
use Rattle.plane.specs.laws.Travel.{Bounded}
use Rattle.line.specs.declared.line.Line.{Line}
use Rattle.line.specs.Line.{line_point}
use Rattle.line.specs.computed.Line.{stepped_of}
use Rattle.line.specs.laws.Cycles.{cycles_bound}
use Rattle.circle.specs.declared.plane.Offset.{Offset}
use Rattle.circle.specs.computed.Charge.{step_charge}
use Rattle.charges.specs.computed.Sum.{charges_in}
use Rattle.arc.specs.declared.arc.Arc.{Arc}
use Rattle.arc.specs.computed.Arc.{arc_after, arc_stepped}
use Rattle.arc.specs.computed.Charge.{arc_charge, arc_charges_in}
use Rattle.arc.specs.laws.Step.{seen_after, after_none, after_next}
use Rattle.arc.specs.laws.Work.{on_arc}
use Rattle.divider.specs.laws.Ticks.{total}
use Rattle.divider.specs.laws.Closed.{total_same}
use Rattle.work.specs.declared.Work.{Work}
use Rattle.work.specs.Work.{is_nothing, following, charges_for}
use Rattle.work.specs.computed.Work.{work_sound, line_cycle, arc_cycle, cycle_of, due_of}
use Rattle.work.specs.computed.Rest.{Countable}
use Rattle.work.specs.laws.Sound.{line_work, arc_work}

-- ---- c cycles on, before the end

abbrev pub line_on : Line → (c : ℕ) → Line
line_on l c = record { start = l.start; end = l.end; feed = l.feed; cycles = l.cycles; done = l.done + c }

-- what is in work then, and its point
pub record Reached : Type 0 where
  pub at : Point
  pub work : Work

unfoldable pub reached_of : (at : Point) → Work → (c : ℕ) → Reached
reached_of at Work.Nothing c = record { at = at; work = Work.Nothing }
reached_of at (Work.Line l) c = record { at = line_point l.start l.end (l.done + c); work = Work.Line (line_on l c) }
reached_of at (Work.Arc a) c = record { at = arc_after a at c; work = Work.Arc a }

-- the due of the cycle that comes then
abbrev pub dues_of : (q0 : ℕ) (at : Point) → Work → (c : ℕ) → ℕ
dues_of q0 at w c = due_of q0 (reached_of at w c).at (reached_of at w c).work

module _ (q0 : ℕ) (t : Travel) (at : Point) where
  -- none
  pub reached_none : (w : Work) → work_sound q0 t at w ≡ true → reached_of at w 0 ≡ record { at = at; work = w }
  unfolding work_sound reached_of
  reached_none Work.Nothing e = refl
  reached_none (Work.Line l) e =
      let none : l.done + 0 ≡ l.done = omega arith in
      rw (none, ← (line_work e).line.reached)
  reached_none (Work.Arc a) e = rw (after_none a at)

  -- what the code asks
  pub countable : (w : Work) → Wide t → Bounded t at → work_sound q0 t at w ≡ true → Countable at w
  unfolding work_sound
  countable Work.Nothing wide here e = tt
  countable (Work.Line l) wide here e =
      let d = (line_work e).line.drawing in
      omega (arith, d.due, d.own, cycles_bound l.start l.end d.short_x d.short_y)
  countable (Work.Arc a) wide here e = on_arc (arc_work e).arc wide here

-- one, and then c more
pub reached_next : (at : Point) (w : Work) (c : ℕ) → is_nothing (cycle_of at w).work ≡ false
    → reached_of (cycle_of at w).at (cycle_of at w).work c ≡ reached_of at w (suc c)
unfolding cycle_of line_cycle arc_cycle stepped_of arc_stepped reached_of
reached_next at Work.Nothing c more = refl
reached_next at (Work.Line l) c more = by (eqb (l.done + 1) l.cycles) more
  where
    by : (ended : Bool) → is_nothing (following ended (Work.Line (stepped_of l).line)) ≡ false
        → reached_of (stepped_of l).at (following ended (Work.Line (stepped_of l).line)) c ≡ reached_of at (Work.Line l) (suc c)
    by true m = absurd (subst T m tt)
    by false m = let one : l.done + 1 + c ≡ l.done + suc c = omega arith in rw one
reached_next at (Work.Arc a) c more = by (equal_point (arc_after a at 1) a.end) more
  where
    by : (ended : Bool) → is_nothing (following ended (Work.Arc a)) ≡ false
        → reached_of (arc_after a at 1) (following ended (Work.Arc a)) c ≡ reached_of at (Work.Arc a) (suc c)
    by true m = absurd (subst T m tt)
    by false m = rw (after_next a at c)

-- ---- the dues of the cycles that are left

module _ (q0 : ℕ) (at : Point) where
  pub dues_first : (t : Travel) (w : Work) → work_sound q0 t at w ≡ true → dues_of q0 at w 0 ≡ due_of q0 at w
  dues_first t w e = ap (λ (s : Reached). due_of q0 s.at s.work) (reached_none q0 t at w e)

  pub dues_next : (w : Work) → is_nothing (cycle_of at w).work ≡ false
      → (c : ℕ) → dues_of q0 (cycle_of at w).at (cycle_of at w).work c ≡ dues_of q0 at w (suc c)
  dues_next w more c = ap (λ (s : Reached). due_of q0 s.at s.work) (reached_next at w c more)

  -- an arc's are its charges times q0
  arc_dues : (a : Arc) (c : ℕ) → total (dues_of q0 at (Work.Arc a)) c ≡ arc_charges_in a at c * q0
  unfolding total charges_in reached_of arc_charge
  arc_dues a zero = omega arith
  arc_dues a (suc c) =
      let charge = ap (λ (p : Offset). step_charge a.square a.turn p * q0) (seen_after a at c) in
      omega (arith, arc_dues a c, charge)

  -- those of the next cycles are their charges times q0
  pub dues_for : (w : Work) → is_nothing w ≡ false → (c : ℕ) → total (dues_of q0 at w) c ≡ charges_for at w c * q0
  unfolding reached_of
  dues_for Work.Nothing busy c = absurd (subst T busy tt)
  dues_for (Work.Line l) busy c = omega (arith, total_same (1000 * q0) c)
  dues_for (Work.Arc a) busy c = arc_dues a c
