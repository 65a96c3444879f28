-- A cycle and a tick, put together from what the code's calls give.
use Rattle.std.specs.Prelude.{◌≡◌, Bool, true, false, ℕ, ◌≤◌, eqb}
use Rattle.std.proofs.Math.Path.{ap}
use Rattle.std.proofs.Common.{◌∙◌}
use Rattle.plane.specs.declared.point.Point.{Point}
use Rattle.plane.specs.Point.{equal_point}
use Rattle.plane.specs.laws.Pulse.{change_small}
use Rattle.plane.specs.Byte.{cycle_byte}
use Rattle.line.specs.declared.line.Line.{Line}
use Rattle.line.specs.declared.line.Stepped.{Stepped}
use Rattle.line.specs.computed.Line.{stepped_of}
use Rattle.arc.specs.declared.arc.Arc.{Arc}
use Rattle.arc.specs.declared.arc.Stepped.{Stepped as ArcStep}
use Rattle.arc.specs.computed.Arc.{arc_stepped}
use Rattle.divider.specs.declared.Fed.{Fed}
use Rattle.divider.specs.Divider.{fed_of}
use Rattle.work.specs.declared.Work.{Work}
use Rattle.work.specs.declared.Cycle.{Cycle}
use Rattle.work.specs.Work.{following, added_of}
use Rattle.work.specs.computed.Work.{cycle_with, line_cycle, arc_cycle, cycle_of, due_of, advance_by, advance_of}

pub line_cycle_lem : (l : Line) {s : Stepped} {ended : Bool} {byte : ℕ} → s ≡ stepped_of l → eqb s.line.done l.cycles ≡ ended
    → byte ≡ cycle_byte s.pulses ended
    → cycle_with s.at byte ended (Work.Line s.line) ≡ line_cycle l
unfolding line_cycle stepped_of
line_cycle_lem l {s} step end byte = rw (byte, ← end, step)

pub arc_cycle_lem : (at : Point) (a : Arc) {s : ArcStep} {ended : Bool} {byte : ℕ} → s ≡ arc_stepped a at → equal_point s.at a.end ≡ ended
    → byte ≡ cycle_byte s.pulses ended
    → cycle_with s.at byte ended (Work.Arc a) ≡ arc_cycle at a
unfolding arc_cycle arc_stepped
arc_cycle_lem at a {s} step end byte = rw (byte, ← end, step)

-- codes are small
pub line_codes : (l : Line) {s : Stepped} → s ≡ stepped_of l → (s.pulses.x ≤ 2) × (s.pulses.y ≤ 2)
unfolding stepped_of
line_codes l e = rw e (change_small _ _, change_small _ _)

pub arc_codes : (at : Point) (a : Arc) {s : ArcStep} → s ≡ arc_stepped a at → (s.pulses.x ≤ 2) × (s.pulses.y ≤ 2)
unfolding arc_stepped
arc_codes at a e = rw e (change_small _ _, change_small _ _)

-- ---- a working tick

module _ (q0 : ℕ) (at : Point) (r : ℕ) (w : Work) {f : Fed} (fed : f ≡ fed_of (due_of q0 at w) (added_of w) r) where
  pub tick_cycle : {c : Cycle} → f.cycle ≡ true → c ≡ cycle_of at w
      → record { at = c.at; remainder = f.remainder; byte = c.byte; work = c.work } ≡ advance_of q0 at r w
  unfolding advance_of
  tick_cycle {c} due cycle = taken c cycle ∙ ap (advance_by at w) fed
    where
      taken : (c : Cycle) → c ≡ cycle_of at w → record {
        at = c.at;
        remainder = f.remainder;
        byte = c.byte;
        work =
            c.work;
      } ≡ advance_by at w f
      taken c e = rw (due, e)

  pub tick_none : f.cycle ≡ false → record { at = at; remainder = f.remainder; byte = 0; work = w } ≡ advance_of q0 at r w
  unfolding advance_of
  tick_none left_over = left ∙ ap (advance_by at w) fed
    where
      left : record { at = at; remainder = f.remainder; byte = 0; work = w } ≡ advance_by at w f
      left = rw left_over
