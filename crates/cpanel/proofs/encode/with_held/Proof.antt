-- `with_held` is right because nine words are taken one by one, and the tenth is put behind them.
use borrow.Author.Rules.{rules}
use Rattle.cpanel.specs.laws.Words.{ten_of}
use Rattle.cpanel.proofs.encode.with_held.Statement.{statement}
use Rattle.cpanel.proofs.encode.with_held.Tie as tie

bounds-w-0 : tie.Need-bounds-w-0
bounds-w-0 c = search rules

bounds-w-1 : tie.Need-bounds-w-1
bounds-w-1 c = search rules

bounds-w-2 : tie.Need-bounds-w-2
bounds-w-2 c = search rules

bounds-w-3 : tie.Need-bounds-w-3
bounds-w-3 c = search rules

bounds-w-4 : tie.Need-bounds-w-4
bounds-w-4 c = search rules

bounds-w-5 : tie.Need-bounds-w-5
bounds-w-5 c = search rules

bounds-w-6 : tie.Need-bounds-w-6
bounds-w-6 c = search rules

bounds-w-7 : tie.Need-bounds-w-7
bounds-w-7 c = search rules

bounds-w-8 : tie.Need-bounds-w-8
bounds-w-8 c = search rules

returns : tie.Need-returns
returns c =
    let a = c.args in
    search (rules, ten_of a.w a.held (search rules))

pub with_held_spec : {M : Type 1} → statement M
with_held_spec = tie.close (tie.spec bounds-w-0 bounds-w-1 bounds-w-2 bounds-w-3 bounds-w-4 bounds-w-5 bounds-w-6 bounds-w-7 bounds-w-8
    returns)
