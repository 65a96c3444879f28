-- What is sound in work can be counted.
use Rattle.run.specs.laws.Skip.{skip_counts}
use Rattle.run.specs.laws.Widest.{sound_in}
use Rattle.run.proofs.skip.skip_work.Goals as goal

pub work_left-requires : goal.work_left-requires
work_left-requires c = skip_counts (sound_in c.args.here.sound)
