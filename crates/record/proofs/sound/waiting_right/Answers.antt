-- `waiting_right` is right because without the cycles of the block in work, what is left of the figure is that of the queue.
use Rattle.std.proofs.Common.{sym, ◌∙◌}
use Rattle.bench.specs.laws.Sound.{sound}
use Rattle.machine.specs.laws.Onward.{wide, work_countable, work_end_inside}
use Rattle.record.specs.laws.Sound.{work_wrong, none_right, idle_wrong, busy_right}
use Rattle.record.proofs.sound.waiting_right.Goals as goal

pub work_off-requires : goal.work_off-requires
work_off-requires c = work_countable c.args.tested.bench c.args.tested.sound

pub returns-in_default : goal.returns-in_default
returns-in_default c =
    rw (← c.root_in.ensures, ← c.left_in.ensures) (sym (work_wrong _ _ _ _ _ _ _ _ c.in_default.ensures))

pub returns-then-len-eq0 : goal.returns-then-len-eq0
returns-then-len-eq0 c =
    rw (← c.root_in.ensures, ← c.left_in.ensures, ← c.len_in-len.ensures)
    (none_right _ _ _ _ _ _ _ _ c.in-Some.ensures c.if-len-eq0.true)

pub returns-then-is_nothing : goal.returns-then-is_nothing
returns-then-is_nothing c =
    rw (← c.root_in.ensures, ← c.left_in.ensures, ← c.len_in-len.ensures)
    (sym (idle_wrong _ _ _ _ _ _ _ _ c.in-Some.ensures c.if-len-eq0.false (sym c.is_nothing.ensures ∙ c.if-is_nothing.true)))

pub capacity-requires : goal.capacity-requires
capacity-requires c = (sound c.args.tested.sound).settings

pub row_right-requires : goal.row_right-requires
row_right-requires c =
    let k = c.args.tested in (wide k.bench k.sound, rw c.end_of.ensures (work_end_inside k.bench k.sound))

pub returns : goal.returns
returns c =
    rw (← c.root_in.ensures, ← c.left_in.ensures, ← c.len_in-len.ensures)
    (rw (c.capacity.ensures, c.end_of.ensures) at c.row_right.ensures
    ∙ busy_right _ _ _ _ _ _ _ _ c.in-Some.ensures (sym c.is_nothing.ensures ∙ c.if-is_nothing.false))
