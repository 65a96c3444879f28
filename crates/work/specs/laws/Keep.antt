-- A working tick keeps what is in work sound, and what is sound is ready for the next tick.
use Rattle.std.specs.Prelude.{◌≡◌, Bool, ℕ, ◌+◌, ◌*◌, ◌≤◌, ◌<◌, eqb}
use Rattle.std.proofs.Math.Path.{refl, subst}
use Rattle.std.proofs.Common.{sym, ◌∙◌}
use Rattle.std.proofs.Math.Bool.{true, false}
use native.Mathlib.Omega.{arith}
use Rattle.std.proofs.Math.Dec.{T}
use borrow.Author.Tests.{eqb-false}
use Rattle.plane.specs.declared.point.Point.{Point}
use Rattle.plane.specs.declared.travel.Travel.{Travel}
use Rattle.plane.specs.Point.{equal_point}
use Rattle.plane.specs.computed.Travel.{Wide}
use Rattle.plane.specs.laws.Point.{equal_itself}
use Rattle.plane.specs.laws.Travel.{Bounded}
use Rattle.line.specs.declared.line.Line.{Line}
use Rattle.line.specs.computed.Line.{stepped_of}
use Rattle.line.specs.laws.Points.{point_inside}
use Rattle.line.specs.laws.Work.{some_cycle, line_test}
use Rattle.circle.specs.Charge.{diagonal}
use Rattle.arc.specs.declared.arc.Arc.{Arc}
use Rattle.arc.specs.computed.Arc.{arc_after, arc_stepped}
use Rattle.arc.specs.laws.Work.{next_inside, on_arc, keeps}
use Rattle.divider.specs.Divider.{fed_of}
use Rattle.divider.specs.laws.Ticks.{tick, stays_below}
use Rattle.work.specs.declared.Work.{Work}
use Rattle.work.specs.Work.{is_nothing, following, feed_of, added_of}
use Rattle.work.specs.computed.Work.{work_sound, line_cycle, arc_cycle, cycle_of, due_of, advance_by, advance_of}
use Rattle.work.specs.computed.Asked.{Ready}
use Rattle.work.specs.laws.Charge.{due_range}
use Rattle.work.specs.laws.Sound.{LineWork, line_work, line_sound_lem, ArcWork, arc_work, arc_sound_lem}

-- what is in work, sound at a point and a remainder
pub record SoundAt (q0 : ℕ) (t : Travel) (at : Point) (r : ℕ) (w : Work) : Type 0 where
  pub inside : Bounded t at
  pub below : r < diagonal * q0
  pub sound : work_sound q0 t at w ≡ true

module _ (q0 : ℕ) (t : Travel) where
  pub feed_most : (at : Point) (w : Work) → work_sound q0 t at w ≡ true → feed_of w ≤ q0
  unfolding work_sound
  feed_most at Work.Nothing e = omega arith
  feed_most at (Work.Line l) e = (line_work e).feed.most
  feed_most at (Work.Arc a) e = (arc_work e).feed.most

  -- what a tick of what is sound asks
  pub ready : {at : Point} {r : ℕ} (w : Work) → is_nothing w ≡ false → Wide t → q0 ≤ 1200000000 → SoundAt q0 t at r w → Ready at r w
  unfolding work_sound
  ready Work.Nothing busy wide small s = absurd (subst T busy tt)
  ready (Work.Line l) busy wide small s = let i = line_work s.sound in (line_test i.line, omega (arith, s.below, i.feed.most))
  ready (Work.Arc a) busy wide small s = let i = arc_work s.sound in
      (on_arc i.arc wide s.inside, omega (arith, s.below, i.feed.most))

  -- ---- a cycle that does not end its block leaves a line or an arc in work

  line_kept : {at : Point} {l : Line} → LineWork q0 t at l → (ended : Bool) → eqb (l.done + 1) l.cycles ≡ ended
      → work_sound q0 t (stepped_of l).at (following ended (Work.Line (stepped_of l).line)) ≡ true
  unfolding work_sound stepped_of
  line_kept w true e = refl
  line_kept {l = l} w false e =
      let d = w.line.drawing in
      let more = eqb-false (l.done + 1) l.cycles e in
      line_sound_lem (record {
        start = w.start;
        end = w.end;
        feed = w.feed;
        line = record {
          drawing = record { short_x = d.short_x; short_y = d.short_y; own = d.own; due = omega arith };
          reached = refl;
        };
      })

  arc_kept : {at : Point} {a : Arc} → ArcWork q0 t at a → (ended : Bool) → equal_point (arc_after a at 1) a.end ≡ ended
      → work_sound q0 t (arc_after a at 1) (following ended (Work.Arc a)) ≡ true
  unfolding work_sound
  arc_kept w true e = refl
  arc_kept {a = a} w false e = arc_sound_lem (record {
    feed = w.feed;
    arc =
        keeps w.arc (λ q. subst T (sym (equal_itself a.end) ∙ (rw q at e)) tt);
  })

  -- where a cycle leads
  pub record Kept (at : Point) (w : Work) : Type 0 where
    pub inside : Bounded t at
    pub sound : work_sound q0 t at w ≡ true

  pub cycle_keeps : {at : Point} (w : Work) → Bounded t at → work_sound q0 t at w ≡ true → Kept (cycle_of at w).at (cycle_of at w).work
  unfolding work_sound cycle_of line_cycle arc_cycle arc_stepped stepped_of
  cycle_keeps Work.Nothing i e = record { inside = i; sound = refl }
  cycle_keeps (Work.Line l) i e =
      let w = line_work e in
      let d = w.line.drawing in
      record {
        inside = point_inside l.start l.end (some_cycle l d) (l.done + 1) (omega (arith, d.own, d.due)) w.start w.end;
        sound = line_kept w (eqb (l.done + 1) l.cycles) refl;
      }
  cycle_keeps {at} (Work.Arc a) i e =
      let w = arc_work e in
      record { inside = next_inside w.arc; sound = arc_kept w (equal_point (arc_after a at 1) a.end) refl }

  -- ---- a working tick

  pub keeps_sound : {at : Point} {r : ℕ} (w : Work) → SoundAt q0 t at r w
      → SoundAt q0 t (advance_of q0 at r w).at (advance_of q0 at r w).remainder (advance_of q0 at r w).work
  unfolding advance_of
  keeps_sound {at} {r} w s =
      let f = fed_of (due_of q0 at w) (added_of w) r in
      let d = due_range q0 at w in
      by f.cycle f.remainder
      (stays_below (diagonal * q0) (omega (arith, feed_most at w s.sound, d.0)) d.1 s.below (tick (due_of q0 at w) (added_of w) r))
    where
      by : (cycle : Bool) (rest : ℕ) → rest < diagonal * q0
          → let a = advance_by at w (record { remainder = rest; cycle = cycle }) in SoundAt q0 t a.at a.remainder a.work
      by true rest below = let k = cycle_keeps w s.inside s.sound in record { inside = k.inside; below = below; sound = k.sound }
      by false rest below = record { inside = s.inside; below = below; sound = s.sound }
