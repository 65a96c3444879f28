-- After each pass the ticks that are left lead to the same words. A pass takes one of them at least.
use Rattle.std.proofs.Common.{◌≡◌, true, List, refl, sym, ◌∙◌, arith}
use Rattle.std.specs.Prelude.{ℤ}
use Rattle.record.specs.computed.Words.{sound_words, bench_in}
use Rattle.bench.specs.declared.Bench.{Bench}
use Rattle.finish.specs.computed.Finish.{works_of}
use Rattle.calls.specs.laws.Told.{bench_sound}
use Rattle.cmachine.specs.computed.Looks.{Passing}
use Rattle.cmachine.specs.laws.Looks.{ticks_none, ticks_still, pass_most, pass_some, pass_on}
use Rattle.cmachine.proofs.lookahead.after_ticks.Goals as goal

-- what a pass asks
passing : {ws : List ℤ} {k : Bench} → sound_words ws ≡ true → k ≡ bench_in ws → works_of k ≡ true → Passing ws k
passing sound is works = record { sound = sound; bench_is = is; works = works }

pub loop-left-init : goal.loop-left-init
loop-left-init c = (c.requires, refl)

pub invariant_of-works : goal.invariant_of-works
invariant_of-works c = record { sound = bench_sound c.loop-left.words c.loop-left.invariant.0 c.bench_in-k.ensures }

pub returns-then-not-works : goal.returns-then-not-works
returns-then-not-works c =
    let l = c.loop-left in
    sym (l.invariant.1
    ∙ ticks_still l.left l.words l.invariant.0 c.bench_in-k.ensures (sym c.works.ensures ∙ c.if-not-works.true))

pub pass-left-requires : goal.pass-left-requires
pass-left-requires c =
    passing c.loop-left.invariant.0 c.bench_in-k.ensures (sym c.works.ensures ∙ c.if-not-works.false)

pub overflow_sub-left : goal.overflow_sub-left
overflow_sub-left c =
    pass_most (passing c.loop-left.invariant.0 c.bench_in-k.ensures (sym c.works.ensures ∙ c.if-not-works.false)) c.loop-left.left
    c.pass-left.ensures.value c.pass-left.ensures.words_after

pub loop-left-smaller : goal.loop-left-smaller
loop-left-smaller c =
    let p = passing c.loop-left.invariant.0 c.bench_in-k.ensures (sym c.works.ensures ∙ c.if-not-works.false) in
    let e = c.pass-left.ensures in
    let some = pass_some p c.loop-left.left e.value e.words_after c.loop-left-test.true in
    omega (arith, some, pass_most p c.loop-left.left e.value e.words_after)

pub loop-left-preserved : goal.loop-left-preserved
loop-left-preserved c =
    let p = passing c.loop-left.invariant.0 c.bench_in-k.ensures (sym c.works.ensures ∙ c.if-not-works.false) in
    let on = pass_on p c.loop-left.left c.pass-left.ensures.value c.pass-left.ensures.words_after in
    (on.0, c.loop-left.invariant.1 ∙ on.1)

pub returns : goal.returns
returns c = let l = c.loop-left in sym (l.invariant.1 ∙ ticks_none l.left l.words (omega (arith, c.loop-left-test.false)))
