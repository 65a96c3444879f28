-- The numbers by which a call answers a caller in C, and the calls that work on a record's words.
use Rattle.std.specs.Prelude.{ℤ, pos, Result, Ok, Err, ℕ}
use Rattle.question.specs.Question.{number_of}
use Rattle.question.specs.declared.Question.{Question}
use Rattle.block.specs.declared.Block.{Block}
use Rattle.bench.specs.declared.Answer.{Answer}
use Rattle.bench.specs.declared.Report.{Report}
use Rattle.encoding.specs.Words.{word_of, refusal_of}

-- ---- answers as numbers: a refusal is minus the number of the question

abbrev pub answer_number : Result Answer Question → ℤ
answer_number (Ok Answer.Done) = pos 0
answer_number (Ok (Answer.Width n)) = word_of n
answer_number (Err q) = refusal_of (number_of q)

abbrev pub tick_number : Result ℕ Question → ℤ
tick_number (Ok b) = pos b
tick_number (Err q) = refusal_of (number_of q)

abbrev pub report_number : Result Report Question → ℤ
report_number (Ok Report.Idle) = pos 0
report_number (Ok Report.Held) = pos 1
report_number (Ok Report.Ended) = pos 2
report_number (Ok Report.Spent) = pos 3
report_number (Ok Report.Full) = pos 4
report_number (Err q) = refusal_of (number_of q)

-- ---- a call on a record

-- the calls on a record but a run
pub data WordCall : Type 0 where
  load : Block → WordCall
  tick hold release stop : WordCall
