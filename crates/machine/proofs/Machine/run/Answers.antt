-- It is the bench's run, which takes the cycles that its bytes mark off the figure, and then what comes into work.
use Rattle.std.proofs.Common.{refl, sym, ◌∙◌}
use Rattle.machine.specs.laws.Right.{sound}
use Rattle.machine.specs.laws.Onward.{run_onward, run_left}
use Rattle.machine.specs.laws.Next.{coming, left_less}
use Rattle.machine.specs.laws.Calls.{run_refused, run_goes_on}
use Rattle.machine.proofs.Machine.run.Goals as goal

pub returns-then-not-is_sound : goal.returns-then-not-is_sound
returns-then-not-is_sound c =
    let r = run_refused _ _ _ (sym c.is_sound.ensures ∙ c.if-not-is_sound.true) in record { value = r.0; out_after = r.1 }

pub overflow_sub-left : goal.overflow_sub-left
overflow_sub-left c =
    let m = c.args.self in
    let i = sound m (sym c.is_sound.ensures ∙ c.if-not-is_sound.false) in
    let r = c.run-r.ensures.value in
    (left_less i.right (run_onward m.bench i.bench _ _ r) (run_left m.bench i.bench _ _ r)).0

pub next-requires : goal.next-requires
next-requires c =
    let m = c.args.self in
    let i = sound m (sym c.is_sound.ensures ∙ c.if-not-is_sound.false) in
    let r = c.run-r.ensures.value in
    let o = run_onward m.bench i.bench _ _ r in
    coming i.right o refl (left_less i.right o (run_left m.bench i.bench _ _ r)).1

pub returns : goal.returns
returns c =
    let r =
    run_goes_on c.args.self c.args.budget c.args.out.now (sym c.is_sound.ensures ∙ c.if-not-is_sound.false) c.run-r.ensures.value
    c.next.ensures c.run-r.ensures.out_after in
    record { value = r.0; out_after = r.1 }
