-- `refusal` is right because the least word is -1, so minus it is one too.
use mir.Facts.{to_z-of_z}
use Rattle.encoding.specs.Words.{refusal_of}
use Rattle.encoding.specs.laws.Number.{word_fits, refusal_fits, minus}
use Rattle.encoding.proofs.number.refusal.Goals as goal

pub overflow_sub-result : goal.overflow_sub-result
unfolding refusal_of
overflow_sub-result c = let q = c.args.question in let f = word_fits q in rw c.word.ensures (rw (to_z-of_z f, minus) (refusal_fits q))

pub returns : goal.returns
unfolding refusal_of
returns c = let q = c.args.question in let f = word_fits q in let g = refusal_fits q in
    rw c.word.ensures (rw (to_z-of_z f, minus, to_z-of_z g))
