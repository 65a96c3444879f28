-- A line in work: what its test says, and what the code needs of it.
use Rattle.std.specs.Prelude.{◌≡◌, true, ℕ, ◌+◌, ◌≤◌, ◌<◌, ℤ, nat_abs, ◌+ℤ◌, ◌-ℤ◌}
use Rattle.std.proofs.Math.Path.{sym, ap₂}
use Rattle.std.proofs.Common.{ap, ◌∙◌, arith, leb-true, le-leb, eqb-true, eq-eqb, ltb-true, lt-ltb}
use Rattle.whole.specs.laws.Difference.{ring, var, ◌⊕◌, ◌⊖◌}
use Rattle.whole.specs.laws.Test.{both, joined}
use Rattle.plane.specs.declared.point.Point.{Point}
use Rattle.plane.specs.declared.pulse.Pulses.{Pulses}
use Rattle.plane.specs.Pulse.{shifted_of}
use Rattle.plane.specs.laws.Point.{equal_point_lem, equal_itself}
use Rattle.plane.specs.laws.Fits.{FitsPoint}
use Rattle.line.specs.declared.line.Line.{Line}
use Rattle.line.specs.Line.{increment_x, increment_y, line_cycles, axis_steps, axis_moved, line_point}
use Rattle.line.specs.computed.Line.{drawn_of, line_at, stepped_of}
use Rattle.line.specs.computed.Register.{AxisFits}
use Rattle.line.specs.laws.Signed.{moved_size}
use Rattle.line.specs.laws.Cycles.{increment_x_lem, increment_y_lem, cycles_bound}
use Rattle.line.specs.laws.Points.{point_fits}
use Rattle.line.specs.laws.Pulses.{point_next, pulses_next}

pub record Drawn (l : Line) : Type 0 where
  pub short_x : nat_abs (increment_x l.start l.end) ≤ 2000000
  pub short_y : nat_abs (increment_y l.start l.end) ≤ 2000000
  pub own : l.cycles ≡ line_cycles l.start l.end
  pub due : l.done < l.cycles

pub drawn : {l : Line} → drawn_of l ≡ true → Drawn l
unfolding drawn_of
drawn {l} e =
    let short = both e in
    let axes = both short.0 in
    let rest = both short.1 in
    record {
      short_x = leb-true _ _ axes.0;
      short_y = leb-true _ _ axes.1;
      own = eqb-true _ _ rest.0;
      due =
          ltb-true _ _ rest.1;
    }

pub drawn_test : {l : Line} → Drawn l → drawn_of l ≡ true
unfolding drawn_of
drawn_test d =
    joined (joined (le-leb _ _ d.short_x) (le-leb _ _ d.short_y)) (joined (eq-eqb _ _ d.own) (lt-ltb _ _ d.due))

module _ (l : Line) (d : Drawn l) where
  pub some_cycle : 0 < line_cycles l.start l.end
  some_cycle = omega (arith, d.own, d.due)

  axis : (a : ℕ) → a ≤ line_cycles l.start l.end → AxisFits l.cycles a l.done
  axis a short =
      let bound = cycles_bound l.start l.end d.short_x d.short_y in
      record { some = omega (arith, d.due); wide = omega (arith, d.own); short = omega (arith, d.own); due = omega (arith, d.due) }

  pub axis_x : AxisFits l.cycles (nat_abs (increment_x l.start l.end)) l.done
  axis_x = axis _ (increment_x_lem l.start l.end)

  pub axis_y : AxisFits l.cycles (nat_abs (increment_y l.start l.end)) l.done
  axis_y = axis _ (increment_y_lem l.start l.end)

-- a line in work at a point
pub record LineAt (l : Line) (at : Point) : Type 0 where
  pub drawing : Drawn l
  pub reached : at ≡ line_point l.start l.end l.done

pub line_at_lem : {l : Line} {at : Point} → line_at l at ≡ true → LineAt l at
unfolding line_at
line_at_lem e = let b = both e in record { drawing = drawn b.0; reached = equal_point_lem _ _ b.1 }

-- what the axes have moved, from the point
gone : (s v m : ℤ) → v ≡ s +ℤ m → nat_abs (v -ℤ s) ≡ nat_abs m
gone s v m e = ap nat_abs (ap (λ (z : ℤ). z -ℤ s) e ∙ ring (var s ⊕ var m ⊖ var s) (var m) (omega arith))

module _ (l : Line) (at : Point) (i : LineAt l at) where
  own_moved : (a : ℤ) → nat_abs (axis_moved (line_cycles l.start l.end) a l.done) ≡ axis_steps l.cycles (nat_abs a) l.done
  own_moved a = moved_size (line_cycles l.start l.end) (some_cycle l i.drawing) a l.done
      ∙ ap (λ (q : ℕ). axis_steps q (nat_abs a) l.done) (sym i.drawing.own)

  pub gone_x : nat_abs (at.x -ℤ l.start.x) ≡ axis_steps l.cycles (nat_abs (increment_x l.start l.end)) l.done
  unfolding line_point
  gone_x = gone l.start.x at.x _ (ap (λ (p : Point). p.x) i.reached) ∙ own_moved (increment_x l.start l.end)

  pub gone_y : nat_abs (at.y -ℤ l.start.y) ≡ axis_steps l.cycles (nat_abs (increment_y l.start l.end)) l.done
  unfolding line_point
  gone_y = gone l.start.y at.y _ (ap (λ (p : Point). p.y) i.reached) ∙ own_moved (increment_y l.start l.end)

  -- the next cycle's pulses lead to the next point, which the code's numbers hold
  pub stepped_at : shifted_of at (stepped_of l).pulses ≡ (stepped_of l).at
  unfolding stepped_of
  stepped_at =
      let some = some_cycle l i.drawing in
      ap₂ (λ (p : Point) (k : Pulses). shifted_of p k) i.reached (pulses_next l.start l.end some l.done)
      ∙ sym (point_next l.start l.end some l.done)

  pub stepped_fits : FitsPoint l.start → FitsPoint l.end → FitsPoint (shifted_of at (stepped_of l).pulses)
  unfolding stepped_of
  stepped_fits s e =
      rw stepped_at
      (point_fits l.start l.end (some_cycle l i.drawing) (l.done + 1) (omega (arith, i.drawing.own, i.drawing.due)) s e)

pub line_test : {l : Line} {at : Point} → LineAt l at → line_at l at ≡ true
unfolding line_at
line_test {l} i = joined (drawn_test i.drawing) (rw i.reached (equal_itself (line_point l.start l.end l.done)))
