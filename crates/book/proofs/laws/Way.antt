-- The way of an accepted block, whatever its path: it begins at the start, stays in travel, goes by pulses and ends on the commanded end.
use Rattle.std.specs.Prelude.{◌≡◌, true, false, ℕ, zero, suc, ◌+◌, ◌≤◌, ℤ, pos, negsuc, nat_abs, ◌+ℤ◌, ◌-ℤ◌}
use Rattle.std.proofs.Common.{sym, ap, subst, ◌∙◌, add-one, arith}
use Rattle.whole.specs.laws.Difference.{ring, var, ◌⊕◌, ◌⊖◌}
use Rattle.whole.specs.laws.Order.{abs_neg}
use Rattle.plane.specs.declared.point.Point.{Point}
use Rattle.plane.specs.declared.travel.Travel.{Travel}
use Rattle.plane.specs.Pulse.{pulse_of, change_of, shifted_of, pulses_between}
use Rattle.plane.specs.laws.Point.{same_point}
use Rattle.plane.specs.laws.Pulse.{change_pulse}
use Rattle.plane.specs.laws.Travel.{Bounded}
use Rattle.circle.specs.declared.plane.Offset.{Offset}
use Rattle.circle.specs.declared.plane.Turn.{Turn}
use Rattle.circle.specs.declared.plane.Turn.TheVariants.{Clockwise, Counterclockwise}
use Rattle.circle.specs.Circle.{on_circle}
use Rattle.circle.specs.computed.Step.{seen, step_of, after_of}
use Rattle.circle.specs.computed.Stepper as stepper
use Rattle.circle.proofs.laws.Code.{turned_small}
use Rattle.circle.proofs.laws.Stepper.{way, pulse_enter, pulse_small, after_on}
use Rattle.line.specs.Line.{line_cycles, line_point}
use Rattle.line.specs.laws.Cycles.{cycles_some}
use Rattle.line.specs.laws.Points.{point_start, point_end, point_inside}
use Rattle.line.specs.laws.Pulses.{point_next, pulses_next}
use Rattle.arc.specs.declared.arc.Arc.{Arc}
use Rattle.arc.specs.Centre.{seen_from}
use Rattle.arc.specs.computed.Arc.{arc_after, arc_cycles}
use Rattle.arc.specs.laws.Step.{Circles, after_none, cycles_bounds, arc_end}
use Rattle.arc.specs.laws.Work.{ArcAt, visited}
use Rattle.block.specs.declared.Block.{Block}
use Rattle.block.specs.declared.Path.{Path}
use Rattle.block.specs.Block.{arc_of, cycles_along, point_along, block_cycles, block_point}
use Rattle.block.specs.Questions.{offset_right}

-- ---- what load's questions 12 to 16 settle, by the path

pub record LineRight (t : Travel) (start end : Point) : Type 0 where
  pub end_inside : Bounded t end
  pub apart : start ≡ end → ⊥

pub record ArcRight (t : Travel) (start : Point) (a : Arc) (centre : Offset) : Type 0 where
  pub offset : offset_right centre ≡ true
  pub at : ArcAt t a start

abbrev pub PathRight : Travel → Point → Block → Path → Type 0
PathRight t start b Path.Line = LineRight t start b.end
PathRight t start b (Path.Arc turn centre) = ArcRight t start (arc_of start b turn centre) centre

-- ---- the way, of any path

pub record Way (t : Travel) (start end : Point) (cycles : ℕ) (point : ℕ → Point) : Type 0 where
  pub some : 1 ≤ cycles
  pub begins : point 0 ≡ start
  pub ends : point cycles ≡ end
  pub inside : (c : ℕ) → c ≤ cycles → Bounded t (point c)
  pub pulses : (c : ℕ) → point (c + 1) ≡ shifted_of (point c) (pulses_between (point c) (point (c + 1)))

line_way : {t : Travel} {start end : Point} → Bounded t start → LineRight t start end
    → Way t start end (line_cycles start end) (line_point start end)
line_way {t} {start} {end} here r =
    let some = cycles_some start end r.apart in
    record {
      some = some;
      begins = point_start start end some;
      ends = point_end start end some;
      inside = λ c most. point_inside start end some c most here r.end_inside;
      pulses = λ c. point_next start end some c ∙ ap (shifted_of (line_point start end c)) (sym (pulses_next start end some c));
    }

-- a change by at most one is its pulse
shift : (u d : ℤ) → nat_abs d ≤ 1 → u +ℤ d ≡ u +ℤ pulse_of (change_of u (u +ℤ d))
shift u (pos zero) h = ap (λ (c : ℕ). u +ℤ pulse_of c) (sym (change_pulse u false false))
shift u (pos (suc zero)) h = ap (λ (c : ℕ). u +ℤ pulse_of c) (sym (change_pulse u true false))
shift u (pos (suc (suc n))) h = absurd (omega arith)
shift u (negsuc zero) h = ap (λ (c : ℕ). u +ℤ pulse_of c) (sym (change_pulse u true true))
shift u (negsuc (suc n)) h = absurd (omega arith)

-- seen from a centre c
pulse_from : (c p q : ℤ) → nat_abs (q -ℤ p) ≤ 1 → c +ℤ q ≡ (c +ℤ p) +ℤ pulse_of (change_of (c +ℤ p) (c +ℤ q))
pulse_from c p q h =
    subst (λ (z : ℤ). z ≡ (c +ℤ p) +ℤ pulse_of (change_of (c +ℤ p) z))
    (ring (var c ⊕ var p ⊕ (var q ⊖ var p)) (var c ⊕ var q) (omega arith))
    (shift (c +ℤ p) (q -ℤ p) h)

seen_small : (turn : Turn) (p : Offset) → (nat_abs p.x ≤ 1) × (nat_abs p.y ≤ 1)
    → (nat_abs (seen turn p).x ≤ 1) × (nat_abs (seen turn p).y ≤ 1)
seen_small Clockwise p h = (h.0, rw (abs_neg p.y) h.1)
seen_small Counterclockwise p h = h

step_small : (n : ℕ) (turn : Turn) (p : Offset) → on_circle n p ≡ true
    → (nat_abs (way p (step_of n turn p)).x ≤ 1) × (nat_abs (way p (step_of n turn p)).y ≤ 1)
unfolding stepper.step_pulse stepper.enter_of
step_small n turn p on =
    let s = stepper.enter_of n turn p in
    let m = pulse_small (stepper.move_of s) in
    subst (λ (o : Offset). (nat_abs o.x ≤ 1) × (nat_abs o.y ≤ 1)) (pulse_enter n turn p on)
    (seen_small turn _ (turned_small s.quadrant 1 (stepper.quadrant_pulse (stepper.move_of s)) m.0 m.1))

pub arc_way : {t : Travel} {a : Arc} {start : Point} → Bounded t start → ArcAt t a start
    → Way t start a.end (arc_cycles a start) (arc_after a start)
unfolding arc_after after_of
arc_way {t} {a} {start} here i =
    let on : Circles a start = record { on = i.on; end_on = i.end_on } in
    record {
      some = (cycles_bounds a start on).0;
      begins = after_none a start;
      ends = arc_end a start on;
      inside = inside;
      pulses = pulses;
    }
  where
    inside : (c : ℕ) → c ≤ arc_cycles a start → Bounded t (arc_after a start c)
    inside zero most = rw (after_none a start) here
    inside (suc c) most = visited i (suc c) (omega arith) most

    pulses : (c : ℕ) → arc_after a start (c + 1)
        ≡ shifted_of (arc_after a start c) (pulses_between (arc_after a start c) (arc_after a start (c + 1)))
    pulses c =
        let p = after_of a.square a.turn (seen_from a.centre start) c in
        let q = step_of a.square a.turn p in
        let small = step_small a.square a.turn p (after_on a.square a.turn (seen_from a.centre start) c i.on) in
        rw (add-one c) (same_point (pulse_from a.centre.x p.x q.x small.0)
        (pulse_from a.centre.y p.y q.y small.1))

pub block_way : {t : Travel} {start : Point} (b : Block) → Bounded t start → PathRight t start b b.path
    → Way t start b.end (block_cycles start b) (block_point start b)
unfolding block_cycles block_point arc_of
block_way {t} {start} b here right = by b.path right
  where
    by : (p : Path) → PathRight t start b p → Way t start b.end (cycles_along start b p) (point_along start b p)
    by Path.Line r = line_way here r
    by (Path.Arc turn centre) r = arc_way here r.at
