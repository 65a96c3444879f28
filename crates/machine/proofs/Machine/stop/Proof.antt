-- `stop` is right because with nothing in work and none waiting nothing is left to do.
use borrow.Author.Rules.{rules}
use mathlib.Core.Path.{sym, ◌∙◌}
use Rattle.block.specs.Chain.{chain_cycles}
use Rattle.queue.specs.Queue.{empty_queue}
use Rattle.bench.specs.Bench.{moved_of}
use Rattle.machine.specs.Machine.{to_do, machine_of}
use Rattle.machine.specs.computed.Calls.{stop_of}
use Rattle.machine.proofs.Machine.stop.Statement.{statement}
use Rattle.machine.proofs.Machine.stop.Tie as tie

is_sound-requires : tie.Need-is_sound-requires
is_sound-requires c κs = search rules

refused-requires : tie.Need-refused-requires
refused-requires c κs = search rules

returns-then-not-is_sound : tie.Need-returns-then-not-is_sound
unfolding stop_of
returns-then-not-is_sound c = c.refused.ensures ∙ simp (sym c.is_sound.ensures ∙ c.if-not-is_sound.true)

moved-requires : tie.Need-moved-requires
moved-requires c κs = search rules

empty-requires : tie.Need-empty-requires
empty-requires c κs = search rules

returns : tie.Need-returns
unfolding stop_of machine_of to_do chain_cycles empty_queue moved_of
returns c =
    simp (
      c.empty.ensures,
      c.moved.ensures,
      sym c.is_sound.ensures
          ∙ c.if-not-is_sound.false,
    )

pub stop_spec : {M : Type 1} → statement M
stop_spec = tie.close (tie.spec is_sound-requires refused-requires returns-then-not-is_sound moved-requires empty-requires returns)
