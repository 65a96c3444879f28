-- Each turn goes over a gap of cleared bytes to the next cycle, and n stands where the ticks or the line end.
use Rattle.std.proofs.Common.{◌≡◌, ap, subst, ◌∙◌, ℕ, List, arith}
use Rattle.plane.specs.declared.point.Point.{Point}
use Rattle.line.specs.laws.Work.{line_at_lem}
use Rattle.work.specs.declared.Work.{Work}
use Rattle.run.specs.declared.in_work.LineInWork.{LineInWork}
use Rattle.run.specs.declared.gap.Gap.{Gap}
use Rattle.run.specs.computed.Gap.{next_gap}
use Rattle.run.specs.declared.Ran.{Ran}
use Rattle.run.specs.computed.Run.{Strip, strip_of, ran_of, written, SoundIn}
use Rattle.run.specs.laws.Going.{Answer, answers}
use Rattle.run.specs.laws.Sound.{run_ready}
use Rattle.run.specs.laws.Cycles.{in_work_lem, end_range, added_some, feed_due, due_most, rest_most}
use Rattle.run.specs.laws.Ending.{same_least, same_some, same_before}
use Rattle.run.specs.laws.Gap.{limit_most}
use Rattle.run.specs.laws.Cycling.{cycling_start, cycling_long, gap_left, out_asks, cycling_out}
use Rattle.run.specs.laws.LineRun.{point_after, line_drawn, line_more, line_asks_lem, line_small, line_on_lem, line_end}
use Rattle.run.specs.laws.Widest.{sound_in}
use Rattle.run.proofs.in_work.LineInWork.run.Goals as goal

-- the point is the one that "Lines" gives
reached : (x : LineInWork) → x.at ≡ point_after x.line x.line.done
reached x = (line_at_lem (run_ready (sound_in x.sound)).0).reached

sound : (x : LineInWork) → SoundIn x.capacity (point_after x.line x.line.done) x.remainder (Work.Line x.line)
sound x = subst (λ (p : Point). SoundIn x.capacity p x.remainder (Work.Line x.line)) (reached x) (sound_in x.sound)

abbrev strip : LineInWork → (most : ℕ) → Point → Strip
strip x most p = strip_of x.capacity most p x.remainder (Work.Line x.line)

-- the answer from the point that "Lines" gives is that from the point
answered : (x : LineInWork) (most : ℕ) {old out : List ℕ} {ran : Ran} → Answer (strip x most (point_after x.line x.line.done)) old out ran
    → (ran ≡ ran_of (strip x most x.at)) × (out ≡ written (strip x most x.at).bytes old)
answered x most a = answers (strip x most) (reached x) a

pub overflow_mul-added : goal.overflow_mul-added
overflow_mul-added c = let i = sound_in c.args.self.sound in omega (arith, (in_work_lem i).feed.most, i.capacity)

pub overflow_sub-end : goal.overflow_sub-end
overflow_sub-end c = omega (arith, same_some c.end-end.ensures (end_range (sound_in c.args.self.sound)).0)

pub divide-parts-requires : goal.divide-parts-requires
divide-parts-requires c = added_some (sound_in c.args.self.sound)

pub first_gap-gap-requires : goal.first_gap-gap-requires
first_gap-gap-requires c = let i = sound_in c.args.self.sound in (feed_due i, due_most i, rest_most i)

pub enter-stepper-requires : goal.enter-stepper-requires
enter-stepper-requires c = (run_ready (sound_in c.args.self.sound)).0

pub loop-gap-init : goal.loop-gap-init
loop-gap-init c =
    let e = c.end-end.ensures in
    let last = c.min-last.ensures ∙ same_before e (end_range (sound_in c.args.self.sound)).0 in
    let n = c.min-n.ensures ∙ same_least e in (
      cycling_start c.args.most c.args.out.now (sound c.args.self) c.requires last n c.clear.ensures c.first_gap-gap.ensures
          c.args.self.line.done,
      c.enter-stepper.ensures,
    )

pub advance-s-requires : goal.advance-s-requires
advance-s-requires c = line_asks_lem c.args.self.line c.loop-gap.cycles c.loop-gap.invariant.0 c.loop-gap.invariant.1

pub cycle_byte-requires : goal.cycle_byte-requires
cycle_byte-requires c =
    line_small c.args.self.line c.loop-gap.cycles c.loop-gap.invariant.0 c.loop-gap.invariant.1 c.advance-s.ensures

pub bounds-out-gap : goal.bounds-out-gap
bounds-out-gap c =
    let i = c.loop-gap.invariant.0 in
    omega (arith, cycling_long i c.args.out.now c.requires c.clear.ensures, c.loop-gap-test.true, i.left.low, i.left.short)

pub overflow_add-cycles : goal.overflow_add-cycles
overflow_add-cycles c = omega (arith, line_more c.args.self.line c.loop-gap.cycles c.loop-gap.invariant.0)

pub next_gap-gap-requires : goal.next_gap-gap-requires
next_gap-gap-requires c =
    let i = c.loop-gap.invariant.0 in (
      feed_due i.work,
      c.divide-parts.ensures,
      limit_most _ c.limit-limit.ensures,
      due_most i.work,
      gap_left i,
      omega (arith, c.loop-gap-test.true, i.left.low, i.few, i.work.capacity),
    )

pub loop-gap-smaller : goal.loop-gap-smaller
unfolding next_gap
loop-gap-smaller c = omega (arith, ap (λ (g : Gap). g.ticks) c.next_gap-gap.ensures, c.loop-gap-test.true)

pub loop-gap-preserved : goal.loop-gap-preserved
loop-gap-preserved c =
    line_on_lem c.args.self.line c.loop-gap.cycles c.loop-gap.invariant.0 c.loop-gap.invariant.1 c.advance-s.ensures
    c.loop-gap-test.true c.cycle_byte.ensures c.next_gap-gap.ensures

pub advance-requires : goal.advance-requires
advance-requires c = line_asks_lem c.args.self.line c.loop-gap.cycles c.loop-gap.invariant.0 c.loop-gap.invariant.1

pub cycle_byte-requires-then-last-n : goal.cycle_byte-requires-then-last-n
cycle_byte-requires-then-last-n c =
    line_small c.args.self.line c.loop-gap.cycles c.loop-gap.invariant.0 c.loop-gap.invariant.1 c.advance.ensures

pub bounds-out-last : goal.bounds-out-last
bounds-out-last c =
    let i = c.loop-gap.invariant.0 in
    omega (arith, cycling_long i c.args.out.now c.requires c.clear.ensures, c.if-last-n.true, i.left.short)

pub overflow_add-result : goal.overflow_add-result
overflow_add-result c = omega (arith, line_more c.args.self.line c.loop-gap.cycles c.loop-gap.invariant.0)

pub overflow_sub-result : goal.overflow_sub-result
overflow_sub-result c = omega (arith, c.loop-gap.invariant.0.since)

pub returns-then-last-n : goal.returns-then-last-n
returns-then-last-n c =
    let a =
    answered c.args.self c.args.most
    (line_end c.args.self.line c.loop-gap.cycles c.loop-gap.invariant.0 c.loop-gap.invariant.1 c.advance.ensures
    c.if-last-n.true c.loop-gap-test.false c.cycle_byte-then-last-n.ensures c.clear.ensures) in
    record { value = a.0; out_after = a.1 }

pub overflow_sub-result-2 : goal.overflow_sub-result-2
overflow_sub-result-2 c = omega (arith, c.loop-gap.invariant.0.since)

pub point-requires : goal.point-requires
point-requires c = line_drawn c.args.self.line c.loop-gap.cycles c.loop-gap.invariant.0

pub remainder_at-requires : goal.remainder_at-requires
remainder_at-requires c = out_asks c.loop-gap.invariant.0 c.if-last-n.false c.loop-gap-test.false

pub returns : goal.returns
returns c =
    let out = cycling_out c.loop-gap.invariant.0 c.if-last-n.false c.loop-gap-test.false c.clear.ensures in
    let a = answered c.args.self c.args.most (rw (c.point.ensures, c.remainder_at.ensures) out) in
    record { value = a.0; out_after = a.1 }
