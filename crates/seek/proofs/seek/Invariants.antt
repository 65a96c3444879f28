-- Invariant of `seek`: the lines read so far have not decided, so what was sought at first is to be found in those that are left.
use Prim.Native.Nat.{◌-◌}
use lib.ListN.{length}
use Rattle.job.specs.Text.{lines_of}
use Rattle.seek.specs.laws.Search.{to_find}
use Rattle.seek.specs.laws.Seek.{Seeking}
use Rattle.seek.proofs.seek.Given as goal

abbrev pub invariant-loop-at : goal.invariant-loop-at
invariant-loop-at l = Seeking l.text (to_find l.initial.search (lines_of l.text)) l.search l.at

abbrev pub decreases-loop-at : goal.decreases-loop-at
decreases-loop-at l = length l.text - l.at
