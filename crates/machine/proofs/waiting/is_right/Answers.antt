-- `is_right` is right because each of its answers is the test's: without the block's cycles, what is left of the figure is that of the
-- queue.
use Rattle.std.proofs.Common.{rules, sym, ◌∙◌}
use Rattle.queue.specs.laws.Places.{unmap}
use Rattle.bench.specs.laws.Sound.{sound}
use Rattle.machine.specs.laws.Right.{wrong_work, none_waiting, idle_waiting, busy_waiting}
use Rattle.machine.specs.laws.Onward.{wide, work_countable, work_end_inside}
use Rattle.machine.proofs.waiting.is_right.Goals as goal

pub work_off-requires : goal.work_off-requires
work_off-requires c = work_countable c.args.tested.bench c.args.tested.sound

pub returns-in_default : goal.returns-in_default
returns-in_default c = sym (wrong_work _ _ _ _ _ _ _ c.in_default.ensures)

pub returns-then-q-eq0 : goal.returns-then-q-eq0
returns-then-q-eq0 c = none_waiting _ _ _ _ _ _ _ c.in-Some.ensures (search (unmap, rules)) c.if-q-eq0.true

pub returns-then-is_nothing : goal.returns-then-is_nothing
returns-then-is_nothing c =
    sym (idle_waiting _ _ _ _ _ _ _ c.in-Some.ensures c.if-q-eq0.false (sym c.is_nothing.ensures ∙ c.if-is_nothing.true))

pub capacity-requires : goal.capacity-requires
capacity-requires c = (sound c.args.tested.sound).settings

pub is_sound-requires : goal.is_sound-requires
is_sound-requires c =
    let k = c.args.tested in (wide k.bench k.sound, rw c.end_of.ensures (work_end_inside k.bench k.sound))

pub returns : goal.returns
returns c =
    rw (c.capacity.ensures, c.end_of.ensures) at c.is_sound.ensures
    ∙ busy_waiting _ _ _ _ _ _ _ c.in-Some.ensures (sym c.is_nothing.ensures ∙ c.if-is_nothing.false)
