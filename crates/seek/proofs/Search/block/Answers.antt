-- `block` is right because finishing the block is its run to the end.
use borrow.Author.Tests.{lt-ltb, le-ltb}
use Rattle.seek.specs.laws.Finish.{then_counts, block_here, block_on}
use Rattle.seek.proofs.Search.block.Goals as goal

pub work_left-left-requires : goal.work_left-left-requires
work_left-left-requires c =
    let s = c.args in
    then_counts s.self s.reader s.loaded.bench c.finish-done.ensures s.loaded.sound c.after_ticks-then.ensures

pub returns-then-decided : goal.returns-then-decided
returns-then-decided c =
    let s = c.args in
    block_here s.self s.reader s.loaded.bench c.finish-done.ensures (lt-ltb _ _ c.if-decided.true) c.after_ticks-then.ensures
    c.work_left-left.ensures

pub returns-else-decided : goal.returns-else-decided
returns-else-decided c =
    let s = c.args in
    block_on s.self s.reader s.loaded.bench c.finish-done.ensures (le-ltb _ _ c.if-decided.false)
