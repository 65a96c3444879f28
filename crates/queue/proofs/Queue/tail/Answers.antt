-- `tail` is right because the list's tail is the end of its last block.
use Rattle.std.proofs.Common.{rules, ◌≡◌, arith, length}
use Rattle.block.specs.Chain.{chain_end}
use Rattle.queue.specs.laws.Places.{unmap}
use Rattle.queue.specs.laws.Waiting.{end_last}
use Rattle.queue.proofs.Queue.tail.Goals as goal

pub returns-then-self-eq0 : goal.returns-then-self-eq0
unfolding chain_end
returns-then-self-eq0 c = simp c.if-self-eq0.true

pub returns : goal.returns
returns c =
    let places : length c.args.self.blocks ≡ 16 = search (unmap, rules) in
    end_last c.args.from c.args.self.blocks c.args.self.len (search rules) (omega (arith, places, c.requires))
