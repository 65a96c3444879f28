-- `store_mark` is right because it stores one word.
use borrow.Author.Rules.{rules}
use Rattle.encoding.specs.laws.Number.{mark_fits, through}
use Rattle.record.specs.laws.Write.{marked}
use Rattle.record.proofs.write.store_mark.Statement.{statement}
use Rattle.record.proofs.write.store_mark.Tie as tie

mark_word-requires : tie.Need-mark_word-requires
mark_word-requires c κs = search rules

bounds-words-9 : tie.Need-bounds-words-9
bounds-words-9 c = search rules

returns : tie.Need-returns
returns c =
    let s = c.before in
    rw (through (mark_fits s.args.held) c.mark_word.ensures) (marked s.args.words.now s.requires s.args.held)

pub store_mark_spec : {M : Type 1} → statement M
store_mark_spec = tie.close (tie.spec mark_word-requires bounds-words-9 returns)
