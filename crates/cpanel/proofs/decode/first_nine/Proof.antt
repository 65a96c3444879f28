-- `first_nine` is right because ten words are taken one by one.
use borrow.Author.Rules.{rules}
use Rattle.cpanel.specs.laws.Words.{nine_of}
use Rattle.cpanel.proofs.decode.first_nine.Statement.{statement}
use Rattle.cpanel.proofs.decode.first_nine.Tie as tie

bounds-words-0 : tie.Need-bounds-words-0
bounds-words-0 c = search rules

bounds-words-1 : tie.Need-bounds-words-1
bounds-words-1 c = search rules

bounds-words-2 : tie.Need-bounds-words-2
bounds-words-2 c = search rules

bounds-words-3 : tie.Need-bounds-words-3
bounds-words-3 c = search rules

bounds-words-4 : tie.Need-bounds-words-4
bounds-words-4 c = search rules

bounds-words-5 : tie.Need-bounds-words-5
bounds-words-5 c = search rules

bounds-words-6 : tie.Need-bounds-words-6
bounds-words-6 c = search rules

bounds-words-7 : tie.Need-bounds-words-7
bounds-words-7 c = search rules

bounds-words-8 : tie.Need-bounds-words-8
bounds-words-8 c = search rules

returns : tie.Need-returns
returns c =
    let ws = c.args.words in
    search (rules, nine_of ws (search rules))

pub first_nine_spec : {M : Type 1} → statement M
first_nine_spec = tie.close (tie.spec bounds-words-0 bounds-words-1 bounds-words-2 bounds-words-3 bounds-words-4 bounds-words-5
    bounds-words-6 bounds-words-7 bounds-words-8 returns)
