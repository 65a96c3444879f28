-- 02 §3, Sixteen blocks waiting: how the next block comes into work, and what a tick, a hold and a release make of the record.
use Rattle.std.specs.Prelude.{Bool, cond, ℕ, zero, suc, Result}
use Rattle.question.specs.declared.Question.{Question}
use Rattle.queue.specs.declared.Queue.{Queue}
use Rattle.queue.specs.Queue.{first_of, popped_of}
use Rattle.work.specs.declared.Work.{Work}
use Rattle.work.specs.Work.{is_nothing, begun_of}
use Rattle.bench.specs.declared.Bench.{Bench}
use Rattle.bench.specs.declared.Answer.{Answer}
use Rattle.bench.specs.declared.Ticked.{Ticked as BenchTicked}
use Rattle.bench.specs.Bench.{moved_of}
use Rattle.bench.specs.Bench.{marked_of}
use Rattle.machine.specs.declared.Machine.{Machine}
use Rattle.machine.specs.declared.Answered.{Answered}
use Rattle.machine.specs.declared.Ticked.{Ticked}
use Rattle.machine.specs.Machine.{machine_of}

abbrev pub answers : Result Answer Question → Machine → Answered
answers a m = record { answer = a; machine = m }

-- ---- a block comes into work

-- from the point, with the remainder as it is
abbrev pub beginning : Bench → Work → Bench
beginning k w = moved_of k k.at k.remainder w

-- "When a block ends, the first waiting one becomes the one in work"
abbrev pub first_in : Bench → Queue → (len : ℕ) → Machine
first_in k q zero = machine_of k q
first_in k q (suc n) = machine_of (beginning k (begun_of k.at (first_of q).block).work) (popped_of q)

-- the record after ticks that left the bench so
unfoldable pub next_of : Bench → Queue → Machine
next_of k q = cond (is_nothing k.work) (first_in k q q.len) (machine_of k q)

-- ---- tick

abbrev pub ticks : Result ℕ Question → Machine → Ticked
ticks t m = record { tick = t; machine = m }

-- the bench's tick, and then the next block where one has ended
abbrev pub going_on : Machine → BenchTicked → Ticked
going_on m t = ticks t.tick (next_of t.bench m.queue)

-- ---- hold and release

-- 01: "Hold and release only set a mark."
abbrev pub mark_of : Machine → Bool → Machine
mark_of m mark = machine_of (marked_of m.bench mark) m.queue
