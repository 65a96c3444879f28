-- `fresh` is right because nothing is in work and none waits, so that nothing is left to do.
use borrow.Author.Rules.{rules}
use Rattle.block.specs.Chain.{chain_cycles}
use Rattle.queue.specs.Queue.{empty_queue}
use Rattle.bench.specs.Bench.{fresh_of}
use Rattle.machine.specs.Machine.{to_do, machine_of}
use Rattle.machine.proofs.fresh.Statement.{statement}
use Rattle.machine.proofs.fresh.Tie as tie

fresh-requires : tie.Need-fresh-requires
fresh-requires c κs = search rules

empty-requires : tie.Need-empty-requires
empty-requires c κs = search rules

returns : tie.Need-returns
unfolding machine_of to_do chain_cycles fresh_of empty_queue
returns c = simp (c.empty.ensures, c.fresh.ensures)

pub fresh_spec : {M : Type 1} → statement M
fresh_spec = tie.close (tie.spec fresh-requires empty-requires returns)
