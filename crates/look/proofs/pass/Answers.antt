-- A skip leaves the bench as its ticks would, and the next block comes in as after a run.
use Rattle.std.proofs.Common.{◌≡◌, refl, ◌+◌, ℕ}
use Rattle.work.specs.Work.{cycles_left}
use Rattle.finish.specs.laws.Record.{works}
use Rattle.machine.specs.laws.Right.{sound}
use Rattle.machine.specs.laws.Next.{coming, left_less}
use Rattle.look.specs.laws.Pass.{skip_onward, skip_less, passes}
use Rattle.look.proofs.pass.Goals as goal

pub in_work-requires : goal.in_work-requires
in_work-requires c = (works c.requires.1).busy

pub overflow_sub-left : goal.overflow_sub-left
overflow_sub-left c =
    let h = c.in_work.ensures in
    let skipped = rw (h.capacity, h.at, h.remainder, h.work) at c.skip_work-r.ensures in
    let w = works c.requires.1 in
    let onward = skip_onward c.args.m c.args.ticks refl skipped c.moved-after.ensures w in
    (left_less (sound c.args.m c.requires.0).right onward (skip_less c.args.m c.args.ticks refl skipped c.moved-after.ensures w)).0

pub next-requires : goal.next-requires
next-requires c =
    let h = c.in_work.ensures in
    let skipped = rw (h.capacity, h.at, h.remainder, h.work) at c.skip_work-r.ensures in
    let w = works c.requires.1 in
    let i = sound c.args.m c.requires.0 in
    let onward = skip_onward c.args.m c.args.ticks refl skipped c.moved-after.ensures w in
    let less = skip_less c.args.m c.args.ticks refl skipped c.moved-after.ensures w in
    coming i.right onward refl (left_less i.right onward less).1

pub returns : goal.returns
returns c =
    let h = c.in_work.ensures in
    let skipped = rw (h.capacity, h.at, h.remainder, h.work) at c.skip_work-r.ensures in
    passes c.args.m c.args.ticks refl skipped c.moved-after.ensures c.next.ensures
