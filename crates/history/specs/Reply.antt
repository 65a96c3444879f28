-- What a call answers, in the book's words: the reply of each answer of the machine. That of a text line is in crate demands.
use Rattle.std.specs.Prelude.{List, ℕ, Result, Ok, Err}
use Rattle.question.specs.Question.{number_of}
use Rattle.question.specs.declared.Question.{Question}
use Rattle.bench.specs.declared.Answer.{Answer}
use Rattle.bench.specs.declared.Report.{Report}
use Rattle.book.specs.Bench.{Report as BookReport}
use Rattle.book.specs.Book.{Reply}

abbrev pub answer_reply : Result Answer Question → Reply
answer_reply (Ok Answer.Done) = Reply.done
answer_reply (Ok (Answer.Width bits)) = Reply.width bits
answer_reply (Err q) = Reply.refused (number_of q)

abbrev pub tick_reply : Result ℕ Question → Reply
tick_reply (Ok byte) = Reply.byte byte
tick_reply (Err q) = Reply.refused (number_of q)

-- of a run, with its ticks and the bytes of them
abbrev pub run_reply : Result Report Question → (ticks : ℕ) (bytes : List ℕ) → Reply
run_reply (Ok Report.Idle) ticks bytes = Reply.ran BookReport.idle ticks bytes
run_reply (Ok Report.Held) ticks bytes = Reply.ran BookReport.held ticks bytes
run_reply (Ok Report.Ended) ticks bytes = Reply.ran BookReport.ended ticks bytes
run_reply (Ok Report.Spent) ticks bytes = Reply.ran BookReport.spent ticks bytes
run_reply (Ok Report.Full) ticks bytes = Reply.ran BookReport.full ticks bytes
run_reply (Err q) ticks bytes = Reply.refused (number_of q)
