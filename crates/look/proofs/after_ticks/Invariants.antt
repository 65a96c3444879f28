-- After each pass the ticks that are left lead to the same record.
use Rattle.std.proofs.Common.{◌≡◌, true}
use Rattle.machine.specs.computed.Machine.{sound_of}
use Rattle.look.specs.computed.Look.{ticking_of}
use Rattle.look.proofs.after_ticks.Given as goal

abbrev pub invariant-loop-left : goal.invariant-loop-left
invariant-loop-left l =
    (sound_of l.now ≡ true) × ((ticking_of l.initial.left l.initial.now).machine ≡ (ticking_of l.left l.now).machine)

abbrev pub decreases-loop-left : goal.decreases-loop-left
decreases-loop-left l = l.left
