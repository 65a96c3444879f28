-- `start_in` is right because the queue's tail is the end of its last block.
use Rattle.std.proofs.Common.{ap, ◌∙◌, arith}
use Rattle.queue.specs.declared.Waiting.{Waiting}
use Rattle.record.specs.laws.Places.{none_end, last_end}
use Rattle.record.proofs.read.start_in.Goals as goal

pub returns-then-len-eq0 : goal.returns-then-len-eq0
returns-then-len-eq0 c = c.end_of.ensures ∙ none_end c.args.words.now _ c.len_in-len.ensures c.if-len-eq0.true

pub returns : goal.returns
returns c =
    ap (λ (w : Waiting). w.block.end) c.waiting_in.ensures
    ∙ last_end c.args.words.now _ c.len_in-len.ensures c.if-len-eq0.false (omega (arith, c.len_in-len.ensures, c.requires))
