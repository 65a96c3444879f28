-- A sound record that is neither idle nor held has something in work that can run.
use Rattle.std.proofs.Common.{sym, ◌∙◌}
use Rattle.bench.specs.laws.Run.{run_idle, run_held, run_works}
use Rattle.bench.proofs.tested.SoundBench.run.Goals as goal

pub returns-then-is_nothing : goal.returns-then-is_nothing
returns-then-is_nothing c =
    let r = run_idle _ _ _ c.args.self.sound (sym c.is_nothing.ensures ∙ c.if-is_nothing.true) in
    rw c.without_tick.ensures (record { value = r.0; out_after = r.1 })

pub returns-then-m : goal.returns-then-m
returns-then-m c =
    let r = run_held _ _ _ c.args.self.sound (sym c.is_nothing.ensures ∙ c.if-is_nothing.false) c.if-m.true in
    rw c.without_tick-then-m.ensures (record { value = r.0; out_after = r.1 })

pub in_work-requires : goal.in_work-requires
in_work-requires c = sym c.is_nothing.ensures ∙ c.if-is_nothing.false

pub returns : goal.returns
returns c =
    let h = c.in_work.ensures in
    let ran = rw (h.capacity, h.at, h.remainder, h.work) at c.run_work-r.ensures.value in
    let buffer = rw (h.capacity, h.at, h.remainder, h.work) at c.run_work-r.ensures.out_after in
    let busy = sym c.is_nothing.ensures ∙ c.if-is_nothing.false in
    let r = run_works c.args.self.bench c.args.budget c.args.out.now c.args.self.sound busy c.if-m.false ran buffer in
    rw (c.report_of.ensures, c.moved.ensures) (record { value = r.0; out_after = r.1 })
