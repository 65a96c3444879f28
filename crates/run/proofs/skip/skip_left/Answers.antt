-- The ticks of a run end with the end tick of what is left, or go on before it.
use Rattle.std.proofs.Common.{ap, arith}
use Rattle.work.specs.declared.rest.Left.{Left}
use Rattle.run.specs.laws.Skip.{end_asks, ends_skip, skip_early}
use Rattle.run.specs.laws.Widest.{sound_in}
use Rattle.run.proofs.skip.skip_left.Goals as goal

pub overflow_mul-left : goal.overflow_mul-left
overflow_mul-left c = omega (arith, (end_asks (sound_in c.args.here.sound) c.requires).2)

pub overflow_mul-left-2 : goal.overflow_mul-left-2
overflow_mul-left-2 c = omega (arith, (end_asks (sound_in c.args.here.sound) c.requires).2)

pub ending-last-requires : goal.ending-last-requires
ending-last-requires c = end_asks (sound_in c.args.here.sound) c.requires

pub returns-then-last-ticks : goal.returns-then-last-ticks
returns-then-last-ticks c =
    ends_skip (sound_in c.args.here.sound) c.requires c.ending-last.ensures c.args.ticks c.if-last-ticks.true

pub work_on-requires : goal.work_on-requires
work_on-requires c = (
  ap (λ (l : Left). l.cycles) c.requires,
  skip_early (sound_in c.args.here.sound) c.requires c.ending-last.ensures c.args.ticks c.if-last-ticks.false,
)
