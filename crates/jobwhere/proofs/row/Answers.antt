-- Each number is a word of 64 bits.
use Rattle.std.proofs.Common.{rules}
use mir.Facts.{to_z-of_z}
use Rattle.encoding.specs.laws.Number.{word_fits, through}
use Rattle.jobwhere.specs.laws.Row.{found_fits}
use Rattle.jobwhere.proofs.row.Goals as goal

pub returns : goal.returns
returns c =
    simp (
      through (found_fits _) c.found_word.ensures,
      through (word_fits _) c.word.ensures,
      through (word_fits _) c.word-2.ensures,
      through (word_fits _) c.word-3.ensures,
      through (word_fits _) c.word-4.ensures,
      through (word_fits _) c.word-5.ensures,
    )
    (search (rules, to_z-of_z))
