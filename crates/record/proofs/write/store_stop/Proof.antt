-- `store_stop` is right because none waits any more, and so nothing comes into work.
use borrow.Author.Rules.{rules}
use mathlib.Core.Path.{◌∙◌}
use Rattle.record.specs.laws.Write.{stop_brings, stops}
use Rattle.record.proofs.write.store_stop.Statement.{statement}
use Rattle.record.proofs.write.store_stop.Tie as tie

bench_in-k-requires : tie.Need-bench_in-k-requires
bench_in-k-requires c κs = search rules

bounds-words-10 : tie.Need-bounds-words-10
bounds-words-10 c = search rules

bounds-words-20 : tie.Need-bounds-words-20
bounds-words-20 c = search rules

bounds-words-21 : tie.Need-bounds-words-21
bounds-words-21 c = search rules

bring_in-requires : tie.Need-bring_in-requires
bring_in-requires c κs = let s = c.before.before.before in stop_brings s.args.words.now s.requires c.bench_in-k.result.at

returns : tie.Need-returns
returns c =
    let b = c.before.before in
    let s = b.before.before in
    c.bring_in.ensures ∙ stops s.args.words.now s.requires b.bench_in-k.result.at

pub store_stop_spec : {M : Type 1} → statement M
store_stop_spec = tie.close (tie.spec bench_in-k-requires bounds-words-10 bounds-words-20 bounds-words-21 bring_in-requires returns)
