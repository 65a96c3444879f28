-- The stepper computes the step: its rooms are those of the registers, and its pulses theirs.
use Rattle.std.specs.Prelude.{◌≡◌, Bool, true, false, cond, ℕ, ◌+◌, ◌-◌, leb, nat_abs}
use Rattle.std.proofs.Math.Path.{refl, sym}
use Rattle.std.proofs.Common.{ap, ◌∙◌, add-one, arith, leb-true, leb-false, le-leb}
use Rattle.std.proofs.lemmas.Bool.{lt-leb}
use Rattle.whole.specs.Sign.{is_negative}
use Rattle.plane.specs.Pulse.{code_of}
use Rattle.line.specs.declared.line.Line.{Line}
use Rattle.line.specs.declared.stepper.Tracked.{Tracked}
use Rattle.line.specs.Line.{increment_x, increment_y}
use Rattle.line.specs.computed.Line.{stepped_of}
use Rattle.line.specs.computed.Register.{AxisFits}
use Rattle.line.specs.Register.{clock_of, register_of, pulses_of}
use Rattle.line.specs.computed.Stepper.{track_of, tracked_of, stepper_of, advanced_of, Fitting}
use Rattle.line.specs.laws.Register.{register_below}
use Rattle.line.specs.laws.Pulses.{codes_are, pulses_next}
use Rattle.line.specs.laws.Work.{Drawn, some_cycle, axis_x, axis_y}

-- a cycle that leaves so much room, and its code
abbrev tracked : (a : ℕ) (negative : Bool) (room code : ℕ) → Tracked
tracked a negative room code = record { track = record { increment = a; room = room; code = code_of true negative }; code = code }

-- the axis one cycle onward
track_next : (q a : ℕ) (negative : Bool) (c : ℕ) → AxisFits q a c
    → tracked_of q (track_of q a negative c) ≡ record { track = track_of q a negative (c + 1); code = code_of (pulses_of q a c) negative }
unfolding pulses_of register_of
track_next q a negative c x =
    by (leb a (q - 1 - register_of q a c)) refl
    ∙ ap (λ (k : ℕ). record { track = track_of q a negative k; code = code_of (pulses_of q a c) negative }) (sym (add-one c))
  where
    by : (t : Bool) → leb a (q - 1 - register_of q a c) ≡ t
        → cond t (tracked a negative (q - 1 - register_of q a c - a) 0)
        (tracked a negative (q - 1 - register_of q a c + q - a) (code_of true negative))
        ≡ tracked a negative (q - 1 - (clock_of q a (register_of q a c)).register)
        (code_of (clock_of q a (register_of q a c)).pulse negative)
    by true e =
        let below = register_below q a c x in
        let room = leb-true a (q - 1 - register_of q a c) e in
        rw (lt-leb q (register_of q a c + a) (omega arith)) (ap (λ (room : ℕ). tracked a negative room 0) (omega arith))
    by false e =
        let below = register_below q a c x in
        let room = leb-false a (q - 1 - register_of q a c) e in
        rw (le-leb q (register_of q a c + a) (omega arith))
        (ap (λ (room : ℕ). tracked a negative room (code_of true negative)) (omega (arith, x.short)))

module _ (l : Line) (d : Drawn l) where
  pub advance_next : advanced_of (stepper_of l) ≡ record { stepper = stepper_of (stepped_of l).line; pulses = (stepped_of l).pulses }
  unfolding advanced_of stepper_of stepped_of
  advance_next =
      let a = increment_x l.start l.end in
      let b = increment_y l.start l.end in
      let x = track_next l.cycles (nat_abs a) (is_negative a) l.done (axis_x l d) in
      let y = track_next l.cycles (nat_abs b) (is_negative b) l.done (axis_y l d) in
      let some = some_cycle l d in
      let pulses = codes_are l.start l.end some l.done refl d.own ∙ sym (pulses_next l.start l.end some l.done) in
      (λ i. record {
        stepper = record { capacity = l.cycles; x = (x i).track; y = (y i).track };
        pulses =
            record { x = (x i).code; y = (y i).code };
      })
      ∙ (λ i. record { stepper = stepper_of (stepped_of l).line; pulses = pulses i })

  pub stepper_fits : Fitting (stepper_of l)
  unfolding stepper_of
  stepper_fits =
      let x = axis_x l d in
      let y = axis_y l d in
      record { short_x = x.short; short_y = y.short; small_x = omega (arith, x.wide); small_y = omega (arith, y.wide) }
