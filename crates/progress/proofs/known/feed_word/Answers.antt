-- `feed_word` is right because millimetres and thousandths of 32 bits fit in a word.
use Rattle.std.proofs.Common.{◌^◌, ◌<◌, ◌∙◌, arith, rules}
use Rattle.encoding.specs.laws.Number.{word_small, word_fits, through}
use Rattle.progress.proofs.known.feed_word.Goals as goal

pub returns-in-Some : goal.returns-in-Some
returns-in-Some c =
    let few : c.in-Some.known.millimetres < 2 ^ 32 = search rules in
    let small : c.in-Some.known.thousandths < 2 ^ 32 = search rules in
    rw c.in-Some.is (through (word_fits _) c.word.ensures ∙ word_small (omega arith))
