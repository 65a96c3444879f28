-- The cycles that what is in work has left to its end: each cycle does one of them, and the last leads to the end.
use Rattle.std.specs.Prelude.{◌≡◌, refl, Bool, true, false, ℕ, suc, ◌+◌, ◌-◌, ◌*◌, ◌^◌, ◌≤◌, ◌<◌, T, eqb}
use Rattle.std.proofs.Common.{sym, ap, subst, ◌∙◌, mul-le-mul, mul-le-mul_left, mul-le-mul_right, arith, eqb-true}
use Rattle.std.proofs.lemmas.Bool.{eqb-false}
use Rattle.plane.specs.declared.point.Point.{Point}
use Rattle.plane.specs.declared.travel.Travel.{Travel}
use Rattle.plane.specs.Point.{equal_point}
use Rattle.plane.specs.laws.Point.{equal_point_lem, equal_itself}
use Rattle.line.specs.declared.line.Line.{Line}
use Rattle.line.specs.Line.{line_point}
use Rattle.line.specs.computed.Line.{stepped_of}
use Rattle.line.specs.laws.Cycles.{cycles_bound}
use Rattle.line.specs.laws.Points.{point_end}
use Rattle.line.specs.laws.Work.{Drawn, some_cycle}
use Rattle.arc.specs.declared.arc.Arc.{Arc}
use Rattle.arc.specs.computed.Arc.{arc_after, arc_cycles, arc_stepped}
use Rattle.arc.specs.laws.Step.{Circles, cycles_bounds, last_cycle, more_cycles, next_circles}
use Rattle.arc.specs.laws.Charge.{charges_most, charges_least, last_charge, more_charges}
use Rattle.divider.specs.computed.Divider.{last_tick}
use Rattle.divider.specs.laws.Last.{last_tick_lem}
use Rattle.work.specs.declared.Work.{Work}
use Rattle.work.specs.Work.{is_nothing, following, feed_of, end_of}
use Rattle.work.specs.computed.Work.{work_sound, line_cycle, arc_cycle, cycle_of}
use Rattle.work.specs.Work.{cycles_left, added_of, charges_left}
use Rattle.work.specs.computed.Work.{charge_of, due_of}
use Rattle.work.specs.computed.Sound.{Feed}
use Rattle.work.specs.laws.Sound.{line_work, arc_work}
use Rattle.work.specs.laws.Charge.{due_range}
use Rattle.run.specs.computed.Run.{SoundIn}

line_counts : (l : Line) → Drawn l → (ended : Bool) → eqb (l.done + 1) l.cycles ≡ ended
    → l.cycles - l.done ≡ suc (cycles_left (stepped_of l).at (following ended (Work.Line (stepped_of l).line)))
unfolding stepped_of
line_counts l d true e = omega (arith, eqb-true (l.done + 1) l.cycles e)
line_counts l d false e = omega (arith, d.due, eqb-false (l.done + 1) l.cycles e)

arc_counts : (a : Arc) (at : Point) → Circles a at → (ended : Bool) → equal_point (arc_after a at 1) a.end ≡ ended
    → arc_cycles a at ≡ suc (cycles_left (arc_after a at 1) (following ended (Work.Arc a)))
arc_counts a at c true e = (last_cycle a at c).1 (equal_point_lem _ _ e)
arc_counts a at c false e = let n = more_cycles a at c (λ q. subst T (sym (equal_itself a.end) ∙ (rw q at e)) tt) in omega arith

-- a line or an arc that is sound has not ended, and has so few cycles and charges left that its end tick can be found
pub record Working (q0 f k charges : ℕ) : Type 0 where
  pub feed : Feed q0 f
  pub some : 1 ≤ k
  pub few : k ≤ 8000000
  pub most : charges ≤ 9400000000
  pub least : 1000 * k ≤ charges

working : (q0 : ℕ) (t : Travel) (at : Point) (w : Work) → work_sound q0 t at w ≡ true → is_nothing w ≡ false
    → Working q0 (feed_of w) (cycles_left at w) (charges_left at w)
unfolding work_sound
working q0 t at Work.Nothing e busy = absurd (subst T busy tt)
working q0 t at (Work.Line l) e busy =
    let w = line_work e in
    let d = w.line.drawing in
    let bound = cycles_bound l.start l.end d.short_x d.short_y in
    record { feed = w.feed; some = omega (arith, d.due); few = omega (arith, d.own); most = omega (arith, d.own); least = omega arith }
working q0 t at (Work.Arc a) e busy =
    let w = arc_work e in
    let on : Circles a at = record { on = w.arc.on; end_on = w.arc.end_on } in
    record {
      feed = w.feed;
      some = (cycles_bounds a at on).0;
      few = (cycles_bounds a at on).1;
      most = charges_most a at on;
      least = charges_least a at on;
    }

pub counts : (q0 : ℕ) (t : Travel) (at : Point) (w : Work) → work_sound q0 t at w ≡ true → is_nothing w ≡ false
    → cycles_left at w ≡ suc (cycles_left (cycle_of at w).at (cycle_of at w).work)
unfolding work_sound cycle_of line_cycle arc_cycle arc_stepped
counts q0 t at Work.Nothing e busy = absurd (subst T busy tt)
counts q0 t at (Work.Line l) e busy = line_counts l (line_work e).line.drawing (eqb (l.done + 1) l.cycles) refl
counts q0 t at (Work.Arc a) e busy =
    let w = (arc_work e).arc in
    arc_counts a at (record { on = w.on; end_on = w.end_on }) (equal_point (arc_after a at 1) a.end) refl

-- ---- the charges that are left: a cycle takes its own off

pub record PaysOff (at : Point) (w : Work) (there : Point) (rest : Work) : Type 0 where
  pub charges : charges_left at w ≡ charge_of at w + charges_left there rest
  pub least : 1000 * cycles_left there rest ≤ charges_left there rest
  pub none : cycles_left there rest ≡ 0 → charges_left there rest ≡ 0

line_paid : (l : Line) → Drawn l → (ended : Bool) → eqb (l.done + 1) l.cycles ≡ ended
    → PaysOff (line_point l.start l.end l.done) (Work.Line l) (stepped_of l).at (following ended (Work.Line (stepped_of l).line))
unfolding stepped_of
line_paid l d true e = record { charges = omega (arith, d.due, line_counts l d true e); least = omega arith; none = λ z. omega arith }
line_paid l d false e = record { charges = omega (arith, d.due, line_counts l d false e); least = omega arith; none = λ z. omega arith }

arc_paid : (a : Arc) (at : Point) → Circles a at → (ended : Bool) → equal_point (arc_after a at 1) a.end ≡ ended
    → PaysOff at (Work.Arc a) (arc_after a at 1) (following ended (Work.Arc a))
arc_paid a at c true e =
    record { charges = omega (arith, last_charge a at c (equal_point_lem _ _ e)); least = omega arith; none = λ z. omega arith }
arc_paid a at c false e =
    let next = next_circles a at c in
    record {
      charges = more_charges a at c (λ q. subst T (sym (equal_itself a.end) ∙ (rw q at e)) tt);
      least = charges_least a (arc_after a at 1) next;
      none = λ z. omega (arith, (cycles_bounds a (arc_after a at 1) next).0);
    }

pays : (q0 : ℕ) (t : Travel) (at : Point) (w : Work) → work_sound q0 t at w ≡ true → is_nothing w ≡ false
    → PaysOff at w (cycle_of at w).at (cycle_of at w).work
unfolding work_sound cycle_of line_cycle arc_cycle arc_stepped
pays q0 t at Work.Nothing e busy = absurd (subst T busy tt)
pays q0 t at (Work.Line l) e busy =
    let p = line_paid l (line_work e).line.drawing (eqb (l.done + 1) l.cycles) refl in
    record { charges = p.charges; least = p.least; none = p.none }
pays q0 t at (Work.Arc a) e busy =
    let w = (arc_work e).arc in
    arc_paid a at (record { on = w.on; end_on = w.end_on }) (equal_point (arc_after a at 1) a.end) refl

pub same_feed : (at : Point) (w : Work) → is_nothing (cycle_of at w).work ≡ false → feed_of (cycle_of at w).work ≡ feed_of w
unfolding cycle_of line_cycle arc_cycle stepped_of
same_feed at Work.Nothing more = refl
same_feed at (Work.Line l) more = by (eqb (l.done + 1) l.cycles) more
  where
    by : (ended : Bool) → is_nothing (following ended (Work.Line (stepped_of l).line)) ≡ false
        → feed_of (following ended (Work.Line (stepped_of l).line)) ≡ l.feed
    by true m = absurd (subst T m tt)
    by false m = refl
same_feed at (Work.Arc a) more = by (equal_point (arc_stepped a at).at a.end) more
  where
    by : (ended : Bool) → is_nothing (following ended (Work.Arc a)) ≡ false → feed_of (following ended (Work.Arc a)) ≡ a.feed
    by true m = absurd (subst T m tt)
    by false m = refl

line_ends : (l : Line) → Drawn l → (ended : Bool) → eqb (l.done + 1) l.cycles ≡ ended
    → end_of (stepped_of l).at (following ended (Work.Line (stepped_of l).line)) ≡ l.end
unfolding stepped_of
line_ends l d true e = ap (line_point l.start l.end) (eqb-true (l.done + 1) l.cycles e ∙ d.own)
    ∙ point_end l.start l.end (some_cycle l d)
line_ends l d false e = refl

arc_ends : (a : Arc) (at : Point) (ended : Bool) → equal_point (arc_after a at 1) a.end ≡ ended
    → end_of (arc_after a at 1) (following ended (Work.Arc a)) ≡ a.end
arc_ends a at true e = equal_point_lem _ _ e
arc_ends a at false e = refl

-- a cycle does not move the end; after the last cycle the point is there
pub ends : (q0 : ℕ) (t : Travel) (at : Point) (w : Work) → work_sound q0 t at w ≡ true
    → end_of (cycle_of at w).at (cycle_of at w).work ≡ end_of at w
unfolding work_sound cycle_of line_cycle arc_cycle arc_stepped
ends q0 t at Work.Nothing e = refl
ends q0 t at (Work.Line l) e = line_ends l (line_work e).line.drawing (eqb (l.done + 1) l.cycles) refl
ends q0 t at (Work.Arc a) e = arc_ends a at (equal_point (arc_after a at 1) a.end) refl

module _ {q0 : ℕ} {at : Point} {r : ℕ} {w : Work} (i : SoundIn q0 at r w) where
  pub in_work_lem : Working q0 (feed_of w) (cycles_left at w) (charges_left at w)
  in_work_lem = working q0 i.travel at w i.sound i.busy

  pub cycle_counts : cycles_left at w ≡ suc (cycles_left (cycle_of at w).at (cycle_of at w).work)
  cycle_counts = counts q0 i.travel at w i.sound i.busy

  pub same_end : end_of (cycle_of at w).at (cycle_of at w).work ≡ end_of at w
  same_end = ends q0 i.travel at w i.sound

  paid_off : PaysOff at w (cycle_of at w).at (cycle_of at w).work
  paid_off = pays q0 i.travel at w i.sound i.busy

  -- what the cycles left ask for, the next cycle and those after it
  pub cycle_pays : charges_left at w * q0 ≡ due_of q0 at w + charges_left (cycle_of at w).at (cycle_of at w).work * q0
  cycle_pays = omega (arith, ap (λ (c : ℕ). c * q0) paid_off.charges)

  -- each of those at least what a tick adds
  pub each_pays : cycles_left (cycle_of at w).at (cycle_of at w).work * added_of w
      ≤ charges_left (cycle_of at w).at (cycle_of at w).work * q0
  each_pays =
      let k = cycles_left (cycle_of at w).at (cycle_of at w).work in
      omega (arith, mul-le-mul_left (1000 * k) in_work_lem.feed.most, mul-le-mul_right q0 paid_off.least)

  pub none_pays : cycles_left (cycle_of at w).at (cycle_of at w).work ≡ 0 → charges_left (cycle_of at w).at (cycle_of at w).work * q0 ≡ 0
  none_pays z = omega (arith, ap (λ (c : ℕ). c * q0) (paid_off.none z))

  pub added_some : 1 ≤ added_of w
  added_some = omega (arith, in_work_lem.feed.some)

  -- a tick adds at most what any cycle takes
  pub feed_due : Feed (due_of q0 at w) (added_of w)
  feed_due = record { some = added_some; most = omega (arith, in_work_lem.feed.most, (due_range q0 at w).0) }

  pub due_most : due_of q0 at w ≤ 1696800000000
  due_most = omega (arith, (due_range q0 at w).1, i.capacity)

  pub rest_most : r ≤ 1696800000000
  rest_most = omega (arith, i.below, i.capacity)

  dues : charges_left at w * q0 ≤ 9400000000 * 1200000000
  dues = mul-le-mul in_work_lem.most i.capacity

  -- every cycle left is due at least what a tick adds
  pub all_pays : cycles_left at w * added_of w ≤ charges_left at w * q0
  all_pays = omega (arith, mul-le-mul_left (1000 * cycles_left at w) in_work_lem.feed.most, mul-le-mul_right q0 in_work_lem.least)

  pub end_fits : charges_left at w * q0 + added_of w + r < 2 ^ 64
  end_fits = omega (arith, dues, in_work_lem.feed.most, i.capacity, i.below)

  -- what the code of the end tick asks
  pub end_asks : (1 ≤ added_of w) × (charges_left at w * q0 + added_of w < 2 ^ 64)
  end_asks = (added_some, omega (arith, dues, in_work_lem.feed.most, i.capacity))

  -- the end tick is a tick, and its number fits
  pub end_range : (1 ≤ last_tick (charges_left at w * q0) (added_of w) r (cycles_left at w))
      × (last_tick (charges_left at w * q0) (added_of w) r (cycles_left at w) ≤ 9400000 * q0)
  end_range =
      let k = cycles_left at w in
      let D = charges_left at w * q0 in
      let e = last_tick_lem D (added_of w) r k added_some in
      let some : 1000 ≤ added_of w = omega (arith, in_work_lem.feed.some) in
      let one : 1 ≤ q0 = omega (arith, in_work_lem.feed) in
      let S = 9400000 * q0 in
      let enough : k ≤ S = omega (arith, in_work_lem.few, mul-le-mul_left 9400000 one) in
      let reached : D ≤ r + S * added_of w = omega (arith, mul-le-mul_left S some, mul-le-mul_right q0 in_work_lem.most) in
      (omega (arith, e.enough, in_work_lem.some), omega (arith, e.first S enough reached))
