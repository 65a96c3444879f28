-- `word` is right because a count below 2^63 is an i64 as it stands.
use Rattle.std.proofs.Common.{rules, w64, SFits, to_z-of_z}
use Rattle.encoding.specs.laws.Number.{word_or_less}
use Rattle.encoding.proofs.number.word.Goals as goal

pub returns : goal.returns
returns c =
    let f : SFits w64 c.unwrap_or.result = search rules in
    rw (to_z-of_z f) (word_or_less c.args.count _ c.try_from.ensures c.unwrap_or.ensures)
