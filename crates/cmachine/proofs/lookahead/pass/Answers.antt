-- A skip leaves the bench as its ticks would, and the words are stored as after a run.
use Rattle.std.proofs.Common.{refl}
use Rattle.cmachine.specs.laws.Looks.{working, pass_enough, pass_stores, pass_told}
use Rattle.cmachine.proofs.lookahead.pass.Goals as goal

pub invariant_of-in_work : goal.invariant_of-in_work
invariant_of-in_work c = record { sound = (working c.requires).sound }

pub in_work-requires : goal.in_work-requires
in_work-requires c = (working c.requires).busy

pub overflow_sub-left : goal.overflow_sub-left
overflow_sub-left c =
    let h = c.in_work.ensures in
    let skipped = rw (h.capacity, h.at, h.remainder, h.work) at c.skip_work-r.ensures in
    pass_enough c.requires c.args.ticks refl skipped c.moved-after.ensures c.left_in.ensures

pub store_ticks-requires : goal.store_ticks-requires
store_ticks-requires c =
    let h = c.in_work.ensures in
    let skipped = rw (h.capacity, h.at, h.remainder, h.work) at c.skip_work-r.ensures in
    pass_stores c.requires c.args.ticks refl skipped c.moved-after.ensures c.left_in.ensures refl

pub returns : goal.returns
returns c =
    let h = c.in_work.ensures in
    let skipped = rw (h.capacity, h.at, h.remainder, h.work) at c.skip_work-r.ensures in
    let told = pass_told c.requires c.args.ticks refl skipped c.moved-after.ensures c.store_ticks.ensures in
    record { value = told.0; words_after = told.1 }
