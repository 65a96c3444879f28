-- A sound record's numbers, as a run asks them.
use Rattle.bench.specs.laws.Sound.{sound, running}
use Rattle.run.specs.laws.Widest.{runs_lem}
use Rattle.bench.proofs.tested.SoundBench.in_work.Goals as goal

pub capacity-requires : goal.capacity-requires
capacity-requires c = (sound c.args.self.sound).settings

pub invariant_of-result : goal.invariant_of-result
invariant_of-result c = record { sound = rw c.capacity.ensures (runs_lem (running (sound c.args.self.sound) c.requires)) }
