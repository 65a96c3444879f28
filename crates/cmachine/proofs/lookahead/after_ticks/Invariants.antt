-- After each pass the ticks that are left lead to the same words.
use Rattle.std.proofs.Common.{◌≡◌, true}
use Rattle.record.specs.computed.Words.{sound_words}
use Rattle.cmachine.specs.computed.Looks.{ticks_of}
use Rattle.cmachine.proofs.lookahead.after_ticks.Given as goal

abbrev pub invariant-loop-left : goal.invariant-loop-left
invariant-loop-left l = (sound_words l.words ≡ true) × (ticks_of l.initial.left l.initial.words ≡ ticks_of l.left l.words)

abbrev pub decreases-loop-left : goal.decreases-loop-left
decreases-loop-left l = l.left
