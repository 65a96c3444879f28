-- A run that falls short of the longer way does not reach it: the longer way is charged no more than what is left.
use Rattle.std.proofs.Common.{sym, ◌∙◌, mul-le-mul_right, arith}
use Rattle.run.specs.laws.Cycles.{in_work_lem, end_asks}
use Rattle.run.specs.laws.Sound.{run_ready}
use Rattle.run.specs.laws.Ending.{short_same, short_asks, short_few, way_few}
use Rattle.run.specs.laws.Widest.{sound_in}
use Rattle.run.proofs.in_work.ArcInWork.end.Goals as goal

pub overflow_mul-added : goal.overflow_mul-added
overflow_mul-added c = omega (arith, (end_asks (sound_in c.args.self.sound)).1)

pub overflow_mul-least : goal.overflow_mul-least
overflow_mul-least c =
    let i = sound_in c.args.self.sound in
    rw c.longer_way.ensures (omega (arith, way_few c.args.self.arc c.args.self.at i, (in_work_lem i).most))

pub overflow_mul-least-2 : goal.overflow_mul-least-2
overflow_mul-least-2 c =
    let i = sound_in c.args.self.sound in
    rw c.longer_way.ensures
    (omega (arith, mul-le-mul_right c.args.self.capacity (way_few c.args.self.arc c.args.self.at i), (end_asks i).1))

pub falls_short-requires : goal.falls_short-requires
falls_short-requires c = short_asks (sound_in c.args.self.sound)

pub overflow_add-result : goal.overflow_add-result
overflow_add-result c = omega (arith, short_few _ _ _ _ (sym c.falls_short.ensures ∙ c.if-falls_short.true))

pub returns-then-falls_short : goal.returns-then-falls_short
returns-then-falls_short c =
    let i = sound_in c.args.self.sound in
    let few = mul-le-mul_right c.args.self.capacity (way_few c.args.self.arc c.args.self.at i) in
    short_same i _ _ (rw c.longer_way.ensures few) (sym c.falls_short.ensures ∙ c.if-falls_short.true)

pub span-span-requires : goal.span-span-requires
span-span-requires c = (run_ready (sound_in c.args.self.sound)).0

pub overflow_mul-span : goal.overflow_mul-span
overflow_mul-span c = rw c.span-span.ensures (omega (arith, (end_asks (sound_in c.args.self.sound)).1))

pub last_tick-requires : goal.last_tick-requires
last_tick-requires c = rw c.span-span.ensures (end_asks (sound_in c.args.self.sound))
