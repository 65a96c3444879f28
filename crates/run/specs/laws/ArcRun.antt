-- A run along an arc: what the arc's stepper gives is the cycle that the run needs.
use Rattle.std.specs.Prelude.{◌≡◌, refl, Bool, true, false, List, ℕ, ◌+◌, ◌-◌, ◌*◌, ◌^◌, ◌≤◌, ◌<◌, set}
use Rattle.std.proofs.Common.{sym, ap, subst, ◌∙◌, arith}
use Rattle.plane.specs.declared.point.Point.{Point}
use Rattle.plane.specs.Point.{equal_point, Near}
use Rattle.plane.specs.Byte.{both_codes, with_marks, cycle_byte}
use Rattle.circle.specs.computed.Charge.{move_charge}
use Rattle.arc.specs.declared.arc.Arc.{Arc}
use Rattle.arc.specs.declared.stepper.Tracer.{Tracer}
use Rattle.arc.specs.declared.stepper.Traced.{Traced}
use Rattle.arc.specs.computed.Arc.{StandsOnArc, arc_stepped}
use Rattle.arc.specs.computed.Stepper.{arc_tracer, traced_of, tracer_at, Tracing}
use Rattle.arc.specs.computed.Charge.{arc_charge}
use Rattle.arc.specs.laws.Step.{Circles, circles, next_circles}
use Rattle.arc.specs.laws.Charge.{tracer_charge}
use Rattle.arc.specs.laws.Stepper.{tracing, tracer_next, tracer_at_lem}
use Rattle.work.specs.declared.Work.{Work}
use Rattle.work.specs.declared.Cycle.{Cycle}
use Rattle.work.specs.Work.{is_nothing, following}
use Rattle.work.specs.computed.Work.{arc_cycle, cycle_of, due_of}
use Rattle.work.specs.computed.Work.{cycle_with}
use Rattle.work.specs.laws.Cycle.{arc_cycle_lem, arc_codes}
use Rattle.run.specs.declared.gap.Gap.{Gap}
use Rattle.run.specs.computed.Run.{Strip}
use Rattle.run.specs.computed.Gap.{next_gap, remainder_at, cleared_of}
use Rattle.run.specs.laws.Going.{Answer}
use Rattle.run.specs.laws.Sound.{run_ready}
use Rattle.run.specs.laws.Cycling.{Cycling, count_few, goes_on, ends_now, cycling_on, cycling_end, cycling_out}

-- a cycle has reached the end where nothing is in work after it
arc_ended : (at : Point) (a : Arc) {b : Bool} → is_nothing (arc_cycle at a).work ≡ b → equal_point (arc_stepped a at).at a.end ≡ b
unfolding arc_cycle
arc_ended at a e = by (equal_point (arc_stepped a at).at a.end) ∙ e
  where
    by : (t : Bool) → t ≡ is_nothing (following t (Work.Arc a))
    by true = refl
    by false = refl

-- the cycle with its byte
cycle_is : (a : Arc) (at : Point) {byte : ℕ} {ended : Bool} → is_nothing (cycle_of at (Work.Arc a)).work ≡ ended
    → byte ≡ cycle_byte (arc_stepped a at).pulses ended
    → cycle_with (arc_stepped a at).at byte ended (Work.Arc a) ≡ cycle_of at (Work.Arc a)
unfolding cycle_of
cycle_is a at end byte = arc_cycle_lem at a refl (arc_ended at a end) byte

-- the stepper stands at a point of the run where it is the arc's there
abbrev pub StandsOn : Arc → Tracer → Type 0
StandsOn a t = t ≡ arc_tracer a (tracer_at a.centre t)

module _ {q0 most : ℕ} {all : Strip} {out₀ out : List ℕ} {last n c : ℕ} (a : Arc) (tracer : Tracer) {g : Gap}
    (s : Cycling q0 a.feed most all out₀ out last n 0 c (tracer_at a.centre tracer) (Work.Arc a) g) (is : StandsOn a tracer) where
  on : StandsOnArc a (tracer_at a.centre tracer)
  on = (run_ready s.work).0

  pub arc_asks : Near 2000000 a.centre × Tracing tracer
  arc_asks = (on.centre, subst Tracing (sym is) (tracing a (tracer_at a.centre tracer) (circles on)))

  -- the charge of the cycle that is next
  pub charge_here : move_charge tracer.next ≡ arc_charge a (tracer_at a.centre tracer)
  charge_here = ap (λ (x : Tracer). move_charge x.next) is ∙ tracer_charge a (tracer_at a.centre tracer) (circles on)

  -- the count of cycles
  pub count_on : c + 1 < 2 ^ 64
  count_on = omega (arith, count_few s)

  pub arc_out : n ≤ last → last ≤ g.ticks → {old : List ℕ} → out₀ ≡ cleared_of n old
      → (let p = tracer_at a.centre tracer in
      Answer all old out
      (record {
        ticks = n;
        cycles = c;
        ended = false;
        at = p;
        remainder = remainder_at (due_of q0 p (Work.Arc a)) (1000 * a.feed) g n;
        work = Work.Arc a;
      }))
  arc_out m h clear = let since : c - 0 ≡ c = omega arith in rw since at (cycling_out s m h clear)

  module _ {t : Traced} (e : t ≡ traced_of tracer) where
    next_is : t ≡ record {
      tracer = arc_tracer a (arc_stepped a (tracer_at a.centre tracer)).at;
      code =
          both_codes (arc_stepped a (tracer_at a.centre tracer)).pulses;
    }
    next_is = e ∙ ap traced_of is ∙ tracer_next a (tracer_at a.centre tracer) (circles on)

    code_is : t.code ≡ both_codes (arc_stepped a (tracer_at a.centre tracer)).pulses
    code_is = ap (λ (x : Traced). x.code) next_is

    pub arc_small : t.code ≤ 10
    arc_small = omega (arith, code_is, arc_codes (tracer_at a.centre tracer) a refl)

    tracer_is : t.tracer ≡ arc_tracer a (arc_stepped a (tracer_at a.centre tracer)).at
    tracer_is = ap (λ (x : Traced). x.tracer) next_is

    next_on : Circles a (arc_stepped a (tracer_at a.centre tracer)).at
    unfolding arc_stepped
    next_on = next_circles a (tracer_at a.centre tracer) (circles on)

    next_at : tracer_at a.centre t.tracer ≡ (arc_stepped a (tracer_at a.centre tracer)).at
    next_at = ap (tracer_at a.centre) tracer_is ∙ tracer_at_lem a (arc_stepped a (tracer_at a.centre tracer)).at next_on

    byte_is : {byte : ℕ} (ended : Bool) → byte ≡ with_marks t.code ended
        → byte ≡ cycle_byte (arc_stepped a (tracer_at a.centre tracer)).pulses ended
    byte_is ended b = b ∙ ap (λ (codes : ℕ). with_marks codes ended) code_is

    -- the tracer's move tells the next charge
    next_charge : move_charge t.tracer.next ≡ arc_charge a (arc_stepped a (tracer_at a.centre tracer)).at
    next_charge =
        ap (λ (x : Tracer). move_charge x.next) tracer_is
        ∙ tracer_charge a (arc_stepped a (tracer_at a.centre tracer)).at next_on

    pub arc_on : g.ticks < last → {byte : ℕ} → byte ≡ with_marks t.code false
        → {next : Gap} → next ≡ next_gap (move_charge t.tracer.next * q0) (1000 * a.feed) g
        → Cycling q0 a.feed most all out₀ (set out g.ticks byte) last n 0 (c + 1) (tracer_at a.centre t.tracer) (Work.Arc a) next
        × StandsOn a t.tracer
    arc_on h {byte} b {next} gap =
        let cycle = cycle_is a (tracer_at a.centre tracer) {byte = byte} (goes_on s h) (byte_is false b) in
        let due = gap ∙ ap (λ (d : ℕ). next_gap (d * q0) (1000 * a.feed) g) next_charge in (
          subst (λ (p : Point). Cycling q0 a.feed most all out₀ (set out g.ticks byte) last n 0 (c + 1) p (Work.Arc a) next)
              (sym next_at) (cycling_on s h cycle due),
          tracer_is ∙ ap (arc_tracer a) (sym next_at),
        )

    pub arc_end : last < n → last ≤ g.ticks → {byte : ℕ} → byte ≡ with_marks t.code true → {old : List ℕ} → out₀ ≡ cleared_of n old
        → Answer all old (set out last byte)
        (record { ticks = n; cycles = c + 1; ended = true; at = a.end; remainder = g.remainder; work = Work.Nothing })
    arc_end m h {byte} b clear =
        let cycle = cycle_is a (tracer_at a.centre tracer) {byte = byte} (ends_now s m h) (byte_is true b) in
        let since : c + 1 - 0 ≡ c + 1 = omega arith in
        rw since at (cycling_end s m h (ap (λ (x : Cycle). x.byte) cycle) clear)
