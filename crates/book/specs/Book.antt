-- 01, "The book of a history", with the blocks that wait of 02 §3: "A rule changed later changes in the book too."
-- "The book is fed the settings of the machine made and each call's arguments, of a buffer only the length; no answer and no record."
-- The settings are the feed capacity q0 and the travel; they never change.
use Rattle.std.specs.Prelude.{Bool, true, false, List, [], ◌∷◌, ◌++◌, ℕ, zero, suc, ◌+◌, ltb, length}
use Rattle.plane.specs.declared.point.Point.{Point}
use Rattle.plane.specs.declared.travel.Travel.{Travel}
use Rattle.block.specs.declared.Block.{Block}
use Rattle.block.specs.Block.{block_width}
use Rattle.block.specs.Questions.{load_no}
use Rattle.block.specs.Chain.{chain_end, chain_cycles}
use Rattle.book.specs.Bench.{InWork, Bench, Report, fresh_bench, work_end, left_in, begun, bench_tick, bench_run}

-- "It holds a point, a mark, a remainder and the block in work with its start and its cycles done c." 02 §3: "The machine shall hold up to
-- 16 blocks after the one in work, first come first cut." The one that comes next is in front.
pub record Book : Type 0 where
  pub bench : Bench
  pub waiting : List Block

-- "It begins as a fresh machine"
abbrev pub fresh_book : Book
fresh_book = record { bench = fresh_bench; waiting = [] }

-- 02 §3: "The other load questions .. start from the end of the last waiting block, else of the block in work, else from the point"
abbrev pub start_of : Book → Point
start_of b = chain_end (work_end b.bench) b.waiting

-- 02 §3: "Question 10 becomes: are fewer than 16 waiting?"
abbrev pub fewer_wait : Book → Bool
fewer_wait b = ltb (length b.waiting) 16

-- 02 §3: "the cycles still to do over the block in work and all waiting"
abbrev pub figure_of : Book → ℕ
figure_of b = left_in b.bench.work + chain_cycles (work_end b.bench) b.waiting

-- 02 §3: "When a block ends, the first waiting one becomes the one in work": from the point, with the remainder as it is
abbrev pub settled_with : Bench → InWork → List Block → Book
settled_with k (InWork.working j) l = record { bench = k; waiting = l }
settled_with k InWork.nothing [] = record { bench = k; waiting = [] }
settled_with k InWork.nothing (b ∷ l) = record { bench = begun k b; waiting = l }

unfoldable pub settled : Bench → List Block → Book
settled k l = settled_with k k.work l

-- ---- the calls with their arguments, and what they answer

pub data Call : Type 0 where
  load : Block → Call
  tick : Call
  run : (budget buffer : ℕ) → Call
  hold : Call
  release : Call
  stop : Call

pub data Reply : Type 0 where
  refused : (number : ℕ) → Reply
  width : (bits : ℕ) → Reply
  done : Reply
  byte : ℕ → Reply
  ran : Report → (ticks : ℕ) (bytes : List ℕ) → Reply

-- a reply and the book after it
pub record Entry : Type 0 where
  pub reply : Reply
  pub next : Book

abbrev pub answers : Reply → Book → Entry
answers r b = record { reply = r; next = b }

-- ---- hold, release, stop

-- "Hold sets the mark, release takes it off."
abbrev pub marked : Bool → Book → Entry
marked m b =
    let k = b.bench in
    answers done (record { bench = record { at = k.at; mark = m; remainder = k.remainder; work = k.work }; waiting = b.waiting })

-- "Stop drops the block and makes the remainder 0. Each answers done." 02 §3: "Stop empties the queue"
abbrev pub stopped : Book → Entry
stopped b =
    let k = b.bench in
    answers done (record { bench = record { at = k.at; mark = k.mark; remainder = 0; work = InWork.nothing }; waiting = [] })

-- ---- load

-- "Load: the first no among 10 to 16, put to the book, is the answer and nothing changes. Else the block comes into work with c 0, and the
-- answer is its register width." With a block in work it waits, behind those that came before it.
abbrev pub loaded : Book → Block → (number : ℕ) → Entry
loaded b k zero = answers (width (block_width (start_of b) k)) (settled b.bench (b.waiting ++ (k ∷ [])))
loaded b k (suc n) = answers (refused (suc n)) b

unfoldable pub load_entry : (q0 : ℕ) → Travel → Book → Block → Entry
load_entry q0 travel b k = loaded b k (load_no q0 travel (fewer_wait b) (start_of b) k)

-- ---- tick and run: the tick that ends a block brings in the next and does nothing for it, "and a run still stops there"

abbrev pub tick_entry : (q0 : ℕ) → Book → Entry
tick_entry q0 b = let t = bench_tick q0 b.bench in answers (byte t.byte) (settled t.after b.waiting)

-- "It answers their number and the report, and its tick bytes are theirs."
abbrev pub run_entry : (q0 : ℕ) → Book → (budget buffer : ℕ) → Entry
run_entry q0 b budget buffer =
    let r = bench_run q0 b.bench budget buffer in
    answers (ran r.report (length r.bytes) r.bytes) (settled r.after b.waiting)

-- ---- the whole history

module _ (q0 : ℕ) (travel : Travel) where
  abbrev pub entry : Book → Call → Entry
  entry b (load k) = load_entry q0 travel b k
  entry b tick = tick_entry q0 b
  entry b (run budget buffer) = run_entry q0 b budget buffer
  entry b hold = marked true b
  entry b release = marked false b
  entry b stop = stopped b

  -- every reply, and the book after the last call
  unfoldable pub replies : Book → List Call → List Reply
  replies b [] = []
  replies b (c ∷ cs) = (entry b c).reply ∷ replies (entry b c).next cs

  unfoldable pub closing : Book → List Call → Book
  closing b [] = b
  closing b (c ∷ cs) = closing (entry b c).next cs
