-- Each turn writes some of the bytes.
use Rattle.std.proofs.Common.{length}
use Rattle.panelcheck.proofs.put.Given as goal

abbrev pub decreases-loop-rest : goal.decreases-loop-rest
decreases-loop-rest g l = length l.rest
