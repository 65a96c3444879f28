-- Each turn goes over a gap of cleared bytes to the next cycle, of its own due, and n stands where the ticks or the arc end.
use Rattle.std.proofs.Common.{◌≡◌, refl, sym, ap, subst, ◌∙◌, ◌*◌, ℕ, List, arith}
use Rattle.plane.specs.declared.point.Point.{Point}
use Rattle.circle.specs.computed.Charge.{move_charge}
use Rattle.arc.specs.declared.arc.Arc.{Arc}
use Rattle.arc.specs.declared.stepper.Tracer.{Tracer}
use Rattle.arc.specs.computed.Charge.{arc_charge}
use Rattle.arc.specs.computed.Stepper.{arc_tracer, traced_of, tracer_at}
use Rattle.arc.specs.laws.Step.{circles}
use Rattle.arc.specs.laws.Stepper.{tracer_at_lem}
use Rattle.arc.specs.laws.Charge.{tracer_charge}
use Rattle.work.specs.declared.Work.{Work}
use Rattle.run.specs.declared.in_work.ArcInWork.{ArcInWork}
use Rattle.run.specs.declared.gap.Gap.{Gap}
use Rattle.run.specs.declared.Ran.{Ran}
use Rattle.run.specs.computed.Run.{Strip, strip_of, ran_of, written}
use Rattle.run.specs.computed.Gap.{gap_of, next_gap}
use Rattle.run.specs.laws.Going.{Answer, answers}
use Rattle.run.specs.laws.Sound.{run_ready}
use Rattle.run.specs.laws.Cycles.{in_work_lem, end_range, added_some, feed_due, due_most, rest_most}
use Rattle.run.specs.laws.Ending.{same_least, same_some, same_before}
use Rattle.run.specs.laws.Cycling.{Cycling, cycling_start, cycling_long, gap_left, out_asks}
use Rattle.run.specs.laws.ArcRun.{arc_asks, arc_small, charge_here, count_on, arc_on, arc_end, arc_out}
use Rattle.run.specs.laws.Widest.{sound_in}
use Rattle.run.proofs.in_work.ArcInWork.run.Goals as goal

-- the tracer begins at the point, and knows the first charge
entered : (x : ArcInWork) {t : Tracer} → t ≡ arc_tracer x.arc x.at → x.at ≡ tracer_at x.arc.centre t
entered x e = sym (ap (tracer_at x.arc.centre) e ∙ tracer_at_lem x.arc x.at (circles (run_ready (sound_in x.sound)).0))

first_charge : (x : ArcInWork) {t : Tracer} → t ≡ arc_tracer x.arc x.at → {n : ℕ} → n ≡ move_charge t.next → n ≡ arc_charge x.arc x.at
first_charge x e n =
    n ∙ ap (λ (t : Tracer). move_charge t.next) e ∙ tracer_charge x.arc x.at (circles (run_ready (sound_in x.sound)).0)

begins : {q0 f most : ℕ} (a : Arc) (r : ℕ) {out : List ℕ} {last n : ℕ} {at p : Point} {g : Gap} → at ≡ p
    → Cycling q0 f most (strip_of q0 most at r (Work.Arc a)) out out last n 0 0 at (Work.Arc a) g
    → Cycling q0 f most (strip_of q0 most p r (Work.Arc a)) out out last n 0 0 p (Work.Arc a) g
begins {q0} {f} {most} a r {out} {last} {n} {g = g} same i =
    subst (λ (x : Point). Cycling q0 f most (strip_of q0 most x r (Work.Arc a)) out out last n 0 0 x (Work.Arc a) g) same i

abbrev strip : ArcInWork → (most : ℕ) → Point → Strip
strip x most p = strip_of x.capacity most p x.remainder (Work.Arc x.arc)

-- the answer from where the tracer begins is that from the point
answered : (x : ArcInWork) (most : ℕ) {t : Tracer} → t ≡ arc_tracer x.arc x.at → {old out : List ℕ} {ran : Ran}
    → Answer (strip x most (tracer_at x.arc.centre t)) old out ran
    → (ran ≡ ran_of (strip x most x.at)) × (out ≡ written (strip x most x.at).bytes old)
answered x most e a = answers (strip x most) (entered x e) a

pub overflow_mul-added : goal.overflow_mul-added
overflow_mul-added c = let i = sound_in c.args.self.sound in omega (arith, (in_work_lem i).feed.most, i.capacity)

pub overflow_sub-end : goal.overflow_sub-end
overflow_sub-end c = omega (arith, same_some c.end-end.ensures (end_range (sound_in c.args.self.sound)).0)

pub divide-straight-requires : goal.divide-straight-requires
divide-straight-requires c = added_some (sound_in c.args.self.sound)

pub divide-diagonal-requires : goal.divide-diagonal-requires
divide-diagonal-requires c = added_some (sound_in c.args.self.sound)

pub enter-tracer-requires : goal.enter-tracer-requires
enter-tracer-requires c = (run_ready (sound_in c.args.self.sound)).0

pub overflow_mul-charge : goal.overflow_mul-charge
overflow_mul-charge c =
    rw (first_charge c.args.self c.enter-tracer.ensures c.charge.ensures) (omega (arith, due_most (sound_in c.args.self.sound)))

pub first_gap-gap-requires : goal.first_gap-gap-requires
first_gap-gap-requires c =
    let i = sound_in c.args.self.sound in
    rw (first_charge c.args.self c.enter-tracer.ensures c.charge.ensures) (feed_due i, due_most i, rest_most i)

pub loop-gap-init : goal.loop-gap-init
loop-gap-init c =
    let x = c.args.self in
    let i = sound_in x.sound in
    let e = c.end-end.ensures in
    let last = c.min-last.ensures ∙ same_before e (end_range i).0 in
    let n = c.min-n.ensures ∙ same_least e in
    let same = entered x c.enter-tracer.ensures in
    let due =
    ap (λ (d : ℕ). gap_of (d * x.capacity) (1000 * x.arc.feed) x.remainder) (first_charge x c.enter-tracer.ensures c.charge.ensures) in
    let start = cycling_start c.args.most c.args.out.now i c.requires last n c.clear.ensures (c.first_gap-gap.ensures ∙ due) 0 in
    (begins x.arc x.remainder same start, c.enter-tracer.ensures ∙ ap (arc_tracer x.arc) same)

pub cycle-t-requires : goal.cycle-t-requires
cycle-t-requires c = (arc_asks c.args.self.arc c.loop-gap.tracer c.loop-gap.invariant.0 c.loop-gap.invariant.1).1

pub with_marks-requires : goal.with_marks-requires
with_marks-requires c = arc_small c.args.self.arc c.loop-gap.tracer c.loop-gap.invariant.0 c.loop-gap.invariant.1 c.cycle-t.ensures

pub bounds-out-gap : goal.bounds-out-gap
bounds-out-gap c =
    let i = c.loop-gap.invariant.0 in
    omega (arith, cycling_long i c.args.out.now c.requires c.clear.ensures, c.loop-gap-test.true, i.left.low, i.left.short)

pub overflow_add-cycles : goal.overflow_add-cycles
overflow_add-cycles c = omega (arith, count_on c.args.self.arc c.loop-gap.tracer c.loop-gap.invariant.0 c.loop-gap.invariant.1)

pub arc_gap-gap-requires : goal.arc_gap-gap-requires
arc_gap-gap-requires c =
    let s = c.loop-gap.invariant.0 in
    record {
      some = added_some s.work;
      most = omega (arith, (in_work_lem s.work).feed.most);
      capacity = s.work.capacity;
      is_straight = c.divide-straight.ensures;
      is_diagonal = c.divide-diagonal.ensures;
      rest = gap_left s;
      early = omega (arith, c.loop-gap-test.true, s.left.low, s.few, s.work.capacity);
    }

pub loop-gap-smaller : goal.loop-gap-smaller
unfolding next_gap
loop-gap-smaller c = omega (arith, ap (λ (g : Gap). g.ticks) c.arc_gap-gap.ensures, c.loop-gap-test.true)

pub loop-gap-preserved : goal.loop-gap-preserved
loop-gap-preserved c =
    arc_on c.args.self.arc c.loop-gap.tracer c.loop-gap.invariant.0 c.loop-gap.invariant.1 c.cycle-t.ensures c.loop-gap-test.true
    c.with_marks.ensures c.arc_gap-gap.ensures

pub last_code-requires : goal.last_code-requires
last_code-requires c = (arc_asks c.args.self.arc c.loop-gap.tracer c.loop-gap.invariant.0 c.loop-gap.invariant.1).1

pub with_marks-requires-then-last-n : goal.with_marks-requires-then-last-n
with_marks-requires-then-last-n c =
    let t = c.loop-gap.tracer in
    let small = arc_small c.args.self.arc t c.loop-gap.invariant.0 c.loop-gap.invariant.1 {t = traced_of t} refl in
    omega (arith, small, c.last_code.ensures)

pub bounds-out-last : goal.bounds-out-last
bounds-out-last c =
    let i = c.loop-gap.invariant.0 in
    omega (arith, cycling_long i c.args.out.now c.requires c.clear.ensures, c.if-last-n.true, i.left.short)

pub overflow_add-result : goal.overflow_add-result
overflow_add-result c = omega (arith, count_on c.args.self.arc c.loop-gap.tracer c.loop-gap.invariant.0 c.loop-gap.invariant.1)

pub returns-then-last-n : goal.returns-then-last-n
returns-then-last-n c =
    let x = c.args.self in
    let t = c.loop-gap.tracer in
    let byte = rw c.last_code.ensures at c.with_marks-then-last-n.ensures in
    let a =
    answered x c.args.most c.enter-tracer.ensures
    (arc_end x.arc t c.loop-gap.invariant.0 c.loop-gap.invariant.1 {t = traced_of t} refl c.if-last-n.true c.loop-gap-test.false byte
    c.clear.ensures) in
    record { value = a.0; out_after = a.1 }

pub leave-requires : goal.leave-requires
leave-requires c = arc_asks c.args.self.arc c.loop-gap.tracer c.loop-gap.invariant.0 c.loop-gap.invariant.1

pub overflow_mul-charge-2 : goal.overflow_mul-charge-2
overflow_mul-charge-2 c =
    let i = c.loop-gap.invariant.0 in
    rw (c.charge-2.ensures ∙ charge_here c.args.self.arc c.loop-gap.tracer i c.loop-gap.invariant.1) (omega (arith, due_most i.work))

pub remainder_at-requires : goal.remainder_at-requires
remainder_at-requires c =
    let i = c.loop-gap.invariant.0 in
    rw (c.charge-2.ensures ∙ charge_here c.args.self.arc c.loop-gap.tracer i c.loop-gap.invariant.1)
    (out_asks i c.if-last-n.false c.loop-gap-test.false)

pub returns : goal.returns
returns c =
    let x = c.args.self in
    let i = c.loop-gap.invariant in
    let charge = c.charge-2.ensures ∙ charge_here x.arc c.loop-gap.tracer i.0 i.1 in
    let out = arc_out x.arc c.loop-gap.tracer i.0 i.1 c.if-last-n.false c.loop-gap-test.false c.clear.ensures in
    let a = answered x c.args.most c.enter-tracer.ensures (rw (c.leave.ensures, c.remainder_at.ensures, charge) out) in
    record { value = a.0; out_after = a.1 }
