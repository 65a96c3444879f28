-- The pulses of ticks lead from point to point, so their sum is the way.
use Rattle.std.specs.Prelude.{◌≡◌, Bool, cond, ◌||◌, List, [], ◌∷◌, ◌++◌, ℕ, zero, suc, ◌+◌, eqb, ℤ, pos, ◌+ℤ◌, Result, Ok, Err}
use Rattle.std.proofs.Math.Path.{sym, ap}
use Rattle.std.proofs.Common.{◌∙◌, arith}
use Rattle.std.proofs.Math.Bool.{true, false}
use Rattle.std.proofs.Math.IntN.{+ℤ_idr}
use Rattle.question.specs.declared.Question.{Question}
use Rattle.whole.specs.laws.Difference.{ring, var, num, ◌⊕◌}
use Rattle.plane.specs.declared.point.Point.{Point}
use Rattle.plane.specs.declared.travel.Travel.{Travel}
use Rattle.plane.specs.Point.{equal_point}
use Rattle.plane.specs.Pulse.{pulse_of, shifted_of, pulses_between}
use Rattle.plane.specs.Byte.{cycle_byte, code_x, code_y}
use Rattle.plane.specs.laws.Byte.{told}
use Rattle.plane.specs.laws.Travel.{Bounded, inside}
use Rattle.line.specs.Line.{line_point}
use Rattle.line.specs.computed.Line.{stepped_of}
use Rattle.line.specs.laws.Pulses.{point_next, pulses_next}
use Rattle.line.specs.laws.Work.{some_cycle}
use Rattle.arc.specs.computed.Arc.{arc_after, arc_stepped}
use Rattle.arc.specs.laws.Step.{after_none}
use Rattle.divider.specs.Divider.{fed_of}
use Rattle.work.specs.declared.Work.{Work}
use Rattle.work.specs.Work.{is_nothing, added_of}
use Rattle.work.specs.computed.Work.{work_sound, line_cycle, arc_cycle, cycle_of, due_of, advance_by, advance_of}
use Rattle.work.specs.laws.Sound.{line_work, arc_work}
use Rattle.settings.specs.Settings.{capacity_of}
use Rattle.bench.specs.declared.Bench.{Bench}
use Rattle.bench.specs.computed.Bench.{sound_of}
use Rattle.bench.specs.Bench.{moved_of}
use Rattle.bench.specs.computed.Calls.{ticks, working, tick_of}
use Rattle.bench.specs.laws.Sound.{sound}
use Rattle.invariant.specs.laws.Calls.{tick_keeps}
use Rattle.book.specs.Sums.{pulses_in}
use Rattle.book.proofs.laws.Byte.{sent_one, onward}
use Rattle.book.proofs.laws.Way.{arc_way}
use Rattle.ahead.specs.computed.Ahead.{in_front, ticking_of}

-- these bytes lead from one point to the other
pub record Leads (from : Point) (bytes : List ℕ) (to : Point) : Type 0 where
  pub x : to.x ≡ from.x +ℤ pulses_in code_x bytes
  pub y : to.y ≡ from.y +ℤ pulses_in code_y bytes

pub leads_none : (at : Point) → Leads at [] at
leads_none at = record { x = sym (+ℤ_idr at.x); y = sym (+ℤ_idr at.y) }

pulses_both : (code : ℕ → ℕ) (a b : List ℕ) → pulses_in code (a ++ b) ≡ pulses_in code a +ℤ pulses_in code b
pulses_both code [] b = let z = pulses_in code b in ring (var z) (num 0 ⊕ var z) (omega arith)
pulses_both code (x ∷ a) b =
    let p = pulse_of (code x) in
    let u = pulses_in code a in
    let v = pulses_in code b in
    ap (λ (z : ℤ). p +ℤ z) (pulses_both code a b) ∙ ring (var p ⊕ (var u ⊕ var v)) (var p ⊕ var u ⊕ var v) (omega arith)

pub leads_both : {from mid to : Point} {a b : List ℕ} → Leads from a mid → Leads mid b to → Leads from (a ++ b) to
leads_both {from} {a = a} {b = b} h g =
    record {
      x = rw (pulses_both code_x a b) (onward from.x (pulses_in code_x a) (pulses_in code_x b) h.x g.x);
      y = rw (pulses_both code_y a b) (onward from.y (pulses_in code_y a) (pulses_in code_y b) h.y g.y);
    }

leads_zero : (at : Point) → Leads at (0 ∷ []) at
leads_zero at = record { x = sym (+ℤ_idr at.x); y = sym (+ℤ_idr at.y) }

leads_byte : (from to : Point) (last : Bool) → to ≡ shifted_of from (pulses_between from to)
    → Leads from (cycle_byte (pulses_between from to) last ∷ []) to
leads_byte from to last e =
    let k = told from to last in
    record {
      x = sent_one code_x _ from.x k.x (ap (λ (p : Point). p.x) e);
      y = sent_one code_y _ from.y k.y (ap (λ (p : Point). p.y) e);
    }

-- ---- a cycle, a working tick, a tick

module _ (q0 : ℕ) (t : Travel) (at : Point) where
  cycle_leads : (w : Work) → Bounded t at → work_sound q0 t at w ≡ true → Leads at ((cycle_of at w).byte ∷ []) (cycle_of at w).at
  unfolding work_sound cycle_of line_cycle arc_cycle stepped_of arc_stepped
  cycle_leads Work.Nothing here e = leads_zero at
  cycle_leads (Work.Line l) here e =
      let i = (line_work e).line in
      let some = some_cycle l i.drawing in
      let here = line_point l.start l.end l.done in
      let pulses = sym (pulses_next l.start l.end some l.done) in
      rw i.reached
      (leads_byte here (line_point l.start l.end (l.done + 1)) (eqb (l.done + 1) l.cycles)
      (point_next l.start l.end some l.done ∙ ap (shifted_of here) pulses))
  cycle_leads (Work.Arc a) here e =
      leads_byte at (arc_after a at 1) (equal_point (arc_after a at 1) a.end)
      (rw (after_none a at) at ((arc_way here (arc_work e).arc).pulses 0))

  advance_leads : (r : ℕ) (w : Work) → Bounded t at → work_sound q0 t at w ≡ true
      → Leads at ((advance_of q0 at r w).byte ∷ []) (advance_of q0 at r w).at
  unfolding advance_of
  advance_leads r w here e = by (fed_of (due_of q0 at w) (added_of w) r).cycle
    where
      by : (c : Bool)
          → (let a = advance_by at w (record { remainder = (fed_of (due_of q0 at w) (added_of w) r).remainder; cycle = c }) in
          Leads at (a.byte ∷ []) a.at)
      by true = cycle_leads w here e
      by false = leads_zero at

tick_leads : (m : Bench) → sound_of m ≡ true → Leads m.at (in_front (tick_of m).tick []) (tick_of m).bench.at
unfolding tick_of moved_of
tick_leads m e = rw e (by (m.held || is_nothing m.work))
  where
    by : (still : Bool)
        → (let a = advance_of (capacity_of m.settings) m.at m.remainder m.work in
        let k = cond still (ticks (Ok 0) m) (working m a) in
        Leads m.at (in_front k.tick []) k.bench.at)
    by true = leads_zero m.at
    by false =
        let s = sound e in
        advance_leads (capacity_of m.settings) m.settings.travel m.at m.remainder m.work (inside s.in_travel) s.work

-- ---- ticks one after the other

pub after_tick : {from mid to : Point} (k : Result ℕ Question) (bytes : List ℕ) → Leads from (in_front k []) mid → Leads mid bytes to
    → Leads from (in_front k bytes) to
after_tick {from} (Ok b) bytes h g =
    record {
      x = onward from.x (pulse_of (code_x b)) (pulses_in code_x bytes) (one from.x (code_x b) h.x) g.x;
      y = onward from.y (pulse_of (code_y b)) (pulses_in code_y bytes) (one from.y (code_y b) h.y) g.y;
    }
  where
    one : (u : ℤ) (c : ℕ) {v : ℤ} → v ≡ u +ℤ (pulse_of c +ℤ pos 0) → v ≡ u +ℤ pulse_of c
    one u c e = e ∙ ap (λ (z : ℤ). u +ℤ z) (+ℤ_idr (pulse_of c))
after_tick {from} (Err n) bytes h g =
    record {
      x = g.x ∙ ap (λ (z : ℤ). z +ℤ pulses_in code_x bytes) (h.x ∙ +ℤ_idr from.x);
      y = g.y ∙ ap (λ (z : ℤ). z +ℤ pulses_in code_y bytes) (h.y ∙ +ℤ_idr from.y);
    }

pub ticking_leads : (n : ℕ) (m : Bench) → sound_of m ≡ true → Leads m.at (ticking_of n m).bytes (ticking_of n m).bench.at
unfolding ticking_of
ticking_leads zero m e = leads_none m.at
ticking_leads (suc n) m e =
    let next = (tick_of m).bench in
    after_tick (tick_of m).tick (ticking_of n next).bytes (tick_leads m e) (ticking_leads n next (tick_keeps m e))
