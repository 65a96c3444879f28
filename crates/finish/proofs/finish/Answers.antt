-- What is in work tells its cycles, their charges, its feed number and its end, and the divider how a block of these ends.
use Rattle.std.proofs.Common.{sym, ◌∙◌, arith}
use Rattle.run.specs.laws.Skip.{skip_counts, end_asks}
use Rattle.bench.specs.laws.Sound.{sound}
use Rattle.finish.specs.laws.Record.{at_work, works, finishes}
use Rattle.finish.proofs.finish.Goals as goal

pub capacity-q0-requires : goal.capacity-q0-requires
capacity-q0-requires c = (sound c.args.tested.sound).settings

pub work_left-left-requires : goal.work_left-left-requires
work_left-left-requires c = skip_counts (at_work (works (sym c.works.ensures ∙ c.if-not-works.false)))

pub overflow_mul-left : goal.overflow_mul-left
overflow_mul-left c =
    let asked = end_asks (at_work (works (sym c.works.ensures ∙ c.if-not-works.false))) c.work_left-left.ensures in
    rw c.capacity-q0.ensures (omega (arith, asked))

pub overflow_mul-left-2 : goal.overflow_mul-left-2
overflow_mul-left-2 c =
    omega (arith, end_asks (at_work (works (sym c.works.ensures ∙ c.if-not-works.false))) c.work_left-left.ensures)

pub ending-last-requires : goal.ending-last-requires
ending-last-requires c =
    rw c.capacity-q0.ensures (end_asks (at_work (works (sym c.works.ensures ∙ c.if-not-works.false))) c.work_left-left.ensures)

pub returns : goal.returns
returns c =
    rw (c.moved.ensures, c.ending-last.ensures, c.capacity-q0.ensures, c.work_left-left.ensures)
    (sym (finishes _ (works (sym c.works.ensures ∙ c.if-not-works.false))))
