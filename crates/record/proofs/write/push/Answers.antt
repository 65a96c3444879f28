-- `push` is right because it stores the seven words behind the last block that waits.
use Rattle.std.proofs.Common.{rules}
use Rattle.encoding.specs.laws.Number.{word_fits, through}
use Rattle.record.specs.computed.Words.{machine_in}
use Rattle.record.specs.laws.Load.{pushes}
use Rattle.record.proofs.write.push.Goals as goal

pub returns : goal.returns
unfolding machine_in
returns c =
    simp (
      c.set_block.ensures,
      c.block_words.ensures,
      through (word_fits _) c.word.ensures,
      through (word_fits _) c.word-2.ensures,
      c.len_in-len.ensures,
    )
    (pushes c.args.words.now c.requires.0 (search rules) c.args.w c.args.left c.requires.1)
