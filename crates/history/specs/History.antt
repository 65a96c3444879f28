-- 01, The book of a history: "Each further call gets the record that the one before returned. Runs are lent buffers of any length and
-- contents."
use Rattle.std.specs.Prelude.{List, [], ◌∷◌, ℕ, length, take}
use Rattle.std.specs.Borrow.{MutBor}
use contract.Lifetimes.{Lfts}
use Rattle.block.specs.declared.Block.{Block}
use Rattle.machine.specs.declared.Machine.{Machine}
use Rattle.machine.specs.declared.Answered.{Answered}
use Rattle.machine.specs.declared.Ticked.{Ticked}
use Rattle.machine.specs.declared.Ran.{Ran}
use Rattle.book.specs.Book.{Call, Reply}
use Rattle.history.specs.CallContracts.{Loads, Ticks, Runs, Holds, Releases, Stops}
use Rattle.history.specs.Reply.{answer_reply, tick_reply, run_reply}

-- `History m cs rs m'`: the calls cs from the record m may give the replies rs and the record m'. "Tick bytes are each tick's answer and,
-- as a run returns, the first bytes of its buffer, as many as it reports."
pub data History : Machine → List Call → List Reply → Machine → Type 0 where
  ends : {m : Machine} → History m [] [] m
  loads : {m m' : Machine} {cs : List Call} {rs : List Reply} (b : Block) (r : Answered) → Loads m b r → History r.machine cs rs m'
      → History m (Call.load b ∷ cs) (answer_reply r.answer ∷ rs) m'
  ticks : {m m' : Machine} {cs : List Call} {rs : List Reply} (r : Ticked) → Ticks m r → History r.machine cs rs m'
      → History m (Call.tick ∷ cs) (tick_reply r.tick ∷ rs) m'
  runs : {m m' : Machine} {cs : List Call} {rs : List Reply} (κs : Lfts 1) (budget : ℕ) (out out' : MutBor (List ℕ)) (r : Ran)
      → Runs κs m budget out out' r → History r.machine cs rs m'
      → History m (Call.run budget (length out.now) ∷ cs) (run_reply r.report r.ticks (take r.ticks out'.now) ∷ rs) m'
  holds : {m m' : Machine} {cs : List Call} {rs : List Reply} (r : Answered) → Holds m r → History r.machine cs rs m'
      → History m (Call.hold ∷ cs) (answer_reply r.answer ∷ rs) m'
  releases : {m m' : Machine} {cs : List Call} {rs : List Reply} (r : Answered) → Releases m r → History r.machine cs rs m'
      → History m (Call.release ∷ cs) (answer_reply r.answer ∷ rs) m'
  stops : {m m' : Machine} {cs : List Call} {rs : List Reply} (r : Answered) → Stops m r → History r.machine cs rs m'
      → History m (Call.stop ∷ cs) (answer_reply r.answer ∷ rs) m'

-- the calls cs have a history from the record m
pub record HasHistory (m : Machine) (cs : List Call) : Type 0 where
  pub replies : List Reply
  pub last : Machine
  pub history : History m cs replies last
