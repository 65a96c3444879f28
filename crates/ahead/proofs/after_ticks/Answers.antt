-- Ticks that do not work change nothing, and working ones go as a run does without its bytes.
use Rattle.std.proofs.Common.{sym, ◌∙◌}
use Rattle.finish.specs.laws.Record.{works}
use Rattle.ahead.specs.laws.Ticks.{ticking_rests, ticking_works}
use Rattle.ahead.proofs.after_ticks.Goals as goal

pub returns-then-not-works : goal.returns-then-not-works
returns-then-not-works c = sym (ticking_rests c.args.ticks c.args.m.bench c.args.m.sound (sym c.works.ensures ∙ c.if-not-works.true))

pub in_work-requires : goal.in_work-requires
in_work-requires c = (works (sym c.works.ensures ∙ c.if-not-works.false)).busy

pub returns : goal.returns
returns c =
    let h = c.in_work.ensures in
    let skipped = rw (h.capacity, h.at, h.remainder, h.work) at c.skip_work-r.ensures in
    rw (c.moved.ensures, skipped)
    (sym (ticking_works c.args.ticks c.args.m.bench (works (sym c.works.ensures ∙ c.if-not-works.false))))
