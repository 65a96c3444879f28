-- On words of a sound record it is the bench's run, and it stores what that changes.
use Rattle.std.proofs.Common.{rules, refl, sym, ap, ◌∙◌, length}
use mir.Syntax.{w64}
use mir.Val.{SFits}
use mir.Facts.{to_z-of_z}
use Rattle.run.specs.computed.Run.{written}
use Rattle.bench.specs.declared.Bench.{Bench}
use Rattle.bench.specs.computed.Run.{run_of}
use Rattle.calls.specs.laws.Told.{run_refused, bench_sound, run_enough, run_stores, run_told}
use Rattle.calls.proofs.run.Goals as goal

pub returns-then-not-is_sound : goal.returns-then-not-is_sound
returns-then-not-is_sound c = run_refused _ (sym c.is_sound.ensures ∙ c.if-not-is_sound.true) _ _

pub invariant_of-run : goal.invariant_of-run
invariant_of-run c = record { sound = bench_sound _ (sym c.is_sound.ensures ∙ c.if-not-is_sound.false) c.bench_in-k.ensures }

pub overflow_sub-left : goal.overflow_sub-left
overflow_sub-left c =
    let s = c.args in
    let ran = c.run-r.ensures.value ∙ ap (λ (k : Bench). (run_of k s.budget (length s.out.now)).ran) c.bench_in-k.ensures in
    run_enough _ (sym c.is_sound.ensures ∙ c.if-not-is_sound.false) _ _ ran c.left_in.ensures

pub store_ticks-requires : goal.store_ticks-requires
store_ticks-requires c =
    let s = c.args in
    let ran = c.run-r.ensures.value ∙ ap (λ (k : Bench). (run_of k s.budget (length s.out.now)).ran) c.bench_in-k.ensures in
    run_stores _ (sym c.is_sound.ensures ∙ c.if-not-is_sound.false) _ _ ran c.left_in.ensures refl

pub returns : goal.returns
returns c =
    let n : SFits w64 c.report_number.result = search rules in
    let s = c.args in
    let ran = c.run-r.ensures.value ∙ ap (λ (k : Bench). (run_of k s.budget (length s.out.now)).ran) c.bench_in-k.ensures in
    let bytes =
    c.run-r.ensures.out_after
    ∙ ap (λ (k : Bench). written (run_of k s.budget (length s.out.now)).bytes s.out.now) c.bench_in-k.ensures in
    simp to_z-of_z
    (simp (c.report_number.ensures, c.store_ticks.ensures)
    (run_told _ (sym c.is_sound.ensures ∙ c.if-not-is_sound.false) s.budget s.out.now ran bytes))
