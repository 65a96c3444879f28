-- `answer_number` is right because each answer has its own number.
use Rattle.std.proofs.Common.{◌≡◌, ◌∙◌, ◌^◌, ◌<◌, ap, rules}
use Rattle.encoding.specs.laws.Number.{word_fits, refusal_fits, through}
use Rattle.encoding.specs.Words.{refusal_of}
use Rattle.calls.proofs.answer.answer_number.Goals as goal

pub returns-in-Ok-Width : goal.returns-in-Ok-Width
returns-in-Ok-Width c = through (word_fits _) c.word.ensures ∙ search rules

pub returns-in-Err : goal.returns-in-Err
returns-in-Err c = through (refusal_fits _) c.refusal.ensures ∙ simp (c.in-Err.is, c.number.ensures)
