-- `into_work` is right because it stores the words of the block, its root and the figure.
use borrow.Author.Rules.{rules}
use Rattle.encoding.specs.laws.Number.{word_fits, through}
use Rattle.record.specs.laws.Load.{works}
use Rattle.record.proofs.write.into_work.Statement.{statement}
use Rattle.record.proofs.write.into_work.Tie as tie

work_words-requires : tie.Need-work_words-requires
work_words-requires c κs = search rules

set_work-requires : tie.Need-set_work-requires
set_work-requires c κs = search rules

word-requires : tie.Need-word-requires
word-requires c κs = search rules

bounds-words-19 : tie.Need-bounds-words-19
bounds-words-19 c = search rules

word-requires-2 : tie.Need-word-requires-2
word-requires-2 c κs = search rules

bounds-words-20 : tie.Need-bounds-words-20
bounds-words-20 c = search rules

returns : tie.Need-returns
returns c =
    let r = c.before in
    let k = r.before in
    let s = k.before.before.before in
    simp (
      k.set_work.ensures,
      k.work_words.ensures,
      through (word_fits _) r.word.ensures,
      through (word_fits _) c.word-2.ensures,
    )
    (works s.args.words.now s.requires s.args.w s.args.root s.args.left)

pub into_work_spec : {M : Type 1} → statement M
into_work_spec = tie.close (tie.spec work_words-requires set_work-requires word-requires bounds-words-19 word-requires-2 bounds-words-20
    returns)
