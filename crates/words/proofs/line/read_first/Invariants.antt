-- Invariant of `read_first`: the words so far, and what the scan finds in the bytes that are left of the line, are its answer.
use Rattle.std.proofs.Common.{◌-◌, length}
use Rattle.words.specs.laws.Scanning.{Scanning}
use Rattle.words.proofs.line.read_first.Given as goal

abbrev pub invariant-loop-b : goal.invariant-loop-b
invariant-loop-b l = Scanning l.s l.found l.magnitudes l.i

abbrev pub decreases-loop-b : goal.decreases-loop-b
decreases-loop-b l = length l.s - l.i
