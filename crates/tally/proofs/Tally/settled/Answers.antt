-- Nothing is written anew where nothing stands.
use Rattle.bench.specs.Bench.{moved_of}
use Rattle.tally.proofs.Tally.settled.Goals as goal

pub returns-in-Nothing : goal.returns-in-Nothing
unfolding moved_of
returns-in-Nothing c = rw (c.moved.ensures, ← c.in-Nothing.is)
