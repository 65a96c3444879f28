-- `progress_of` is right because each word is that of its number.
use borrow.Author.Rules.{rules}
use Rattle.encoding.specs.laws.Number.{word_fits, through}
use Rattle.progress.specs.laws.Number.{stage_fits}
use Rattle.progress.proofs.progress.progress_of.Statement.{statement}
use Rattle.progress.proofs.progress.progress_of.Tie as tie

known_of-known-requires : tie.Need-known_of-known-requires
known_of-known-requires c κs = search rules

long_words-ticks-requires : tie.Need-long_words-ticks-requires
long_words-ticks-requires c κs = search rules

stage_word-requires : tie.Need-stage_word-requires
stage_word-requires c κs = search rules

word-requires : tie.Need-word-requires
word-requires c κs = search rules

word-requires-2 : tie.Need-word-requires-2
word-requires-2 c κs = search rules

word-requires-3 : tie.Need-word-requires-3
word-requires-3 c κs = search rules

word-requires-4 : tie.Need-word-requires-4
word-requires-4 c κs = search rules

returns : tie.Need-returns
returns c =
    let k = c.before.before.before in
    let s = k.before.before.before.before.before.before.before in
    simp (
      through (stage_fits s.args.c.stage) k.stage_word.ensures,
      through (word_fits _) k.word.ensures,
      k.before.before.before.before.known_of-known.ensures,
      k.long_words-ticks.ensures,
      through (word_fits _) c.word-2.ensures,
      through (word_fits _) c.word-3.ensures,
      through (word_fits _) c.word-4.ensures,
    )
    (search rules)

pub progress_of_spec : {M : Type 1} → statement M
progress_of_spec = tie.close (tie.spec known_of-known-requires long_words-ticks-requires stage_word-requires word-requires word-requires-2
    word-requires-3 word-requires-4 returns)
