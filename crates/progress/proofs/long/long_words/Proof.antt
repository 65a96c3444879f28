-- `long_words` is right because each word is that of its number.
use Prim.Native.Nat.{◌^◌, ◌<◌}
use native.Mathlib.Omega.{arith}
use mir.Syntax.{w64}
use mir.Facts.{to_z_pos}
use Rattle.encoding.specs.laws.Number.{word_fits, through}
use borrow.Author.Rules.{rules}
use Rattle.progress.proofs.long.long_words.Statement.{statement}
use Rattle.progress.proofs.long.long_words.Tie as tie

word-requires : tie.Need-word-requires
word-requires c κs = search rules

overflow_cast-result : tie.Need-overflow_cast-result
overflow_cast-result c = search rules

returns : tie.Need-returns
returns c =
    let n = c.args.c.high in
    let few : n < 2 ^ 32 = search rules in
    let small : n < 2 ^ 63 = omega arith in
    rw (through (word_fits _) c.word.ensures, to_z_pos w64 small)

pub long_words_spec : {M : Type 1} → statement M
long_words_spec = tie.close (tie.spec word-requires overflow_cast-result returns)
