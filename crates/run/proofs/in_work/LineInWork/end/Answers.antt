-- A run that falls short of the dues left does not reach it.
use Rattle.std.proofs.Common.{sym, ◌∙◌, arith}
use Rattle.run.specs.laws.Cycles.{in_work_lem, end_asks}
use Rattle.run.specs.laws.Ending.{short_same, short_asks, short_few}
use Rattle.run.specs.laws.Widest.{sound_in}
use Rattle.run.proofs.in_work.LineInWork.end.Goals as goal

pub overflow_sub-left : goal.overflow_sub-left
overflow_sub-left c = omega (arith, (in_work_lem (sound_in c.args.self.sound)).some)

pub overflow_mul-due : goal.overflow_mul-due
overflow_mul-due c = omega (arith, (in_work_lem (sound_in c.args.self.sound)).few)

pub overflow_mul-due-2 : goal.overflow_mul-due-2
overflow_mul-due-2 c = omega (arith, (end_asks (sound_in c.args.self.sound)).1)

pub overflow_mul-added : goal.overflow_mul-added
overflow_mul-added c = omega (arith, (end_asks (sound_in c.args.self.sound)).1)

pub falls_short-requires : goal.falls_short-requires
falls_short-requires c = short_asks (sound_in c.args.self.sound)

pub overflow_add-result : goal.overflow_add-result
overflow_add-result c = omega (arith, short_few _ _ _ _ (sym c.falls_short.ensures ∙ c.if-falls_short.true))

pub returns-then-falls_short : goal.returns-then-falls_short
returns-then-falls_short c =
    short_same (sound_in c.args.self.sound) _ _ (omega arith) (sym c.falls_short.ensures ∙ c.if-falls_short.true)

pub last_tick-requires : goal.last_tick-requires
last_tick-requires c = end_asks (sound_in c.args.self.sound)
