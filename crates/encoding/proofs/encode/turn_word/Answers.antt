-- `turn_word` is right because a way round is told by its kind.
use Rattle.std.proofs.Common.{rules, ap, ◌∙◌, w64, SFits, to_z-of_z}
use Rattle.encoding.specs.Words.{word_of}
use Rattle.encoding.specs.laws.Number.{turn_told}
use Rattle.encoding.proofs.encode.turn_word.Goals as goal

pub returns : goal.returns
returns c =
    let f : SFits w64 c.word.result = search rules in
    rw (to_z-of_z f) (c.word.ensures ∙ ap word_of c.from.ensures ∙ turn_told c.args.turn)
