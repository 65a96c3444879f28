-- Demand 1 as one claim: "An answer comes back from every call, for any machine record, block, job text or buffer length. A refusal carries
-- its number, given for its own cause alone, and returns record and buffers unchanged. No caller need test first."
use Rattle.std.specs.Prelude.{◌≡◌, List, ℕ, take, pos}
use Rattle.std.specs.Borrow.{Bor, MutBor}
use contract.Lifetimes.{Lfts}
use Rattle.block.specs.declared.Block.{Block}
use Rattle.settings.specs.declared.Settings.{Settings}
use Rattle.settings.specs.Settings.{standard_settings}
use Rattle.machine.specs.declared.Machine.{Machine}
use Rattle.machine.specs.declared.Answered.{Answered}
use Rattle.machine.specs.declared.Ticked.{Ticked}
use Rattle.machine.specs.declared.Ran.{Ran}
use Rattle.machine.specs.Machine.{fresh_of}
use Rattle.words.specs.declared.line.Line.{Line}
use Rattle.words.specs.Meaning.{Means}
use Rattle.reader.specs.declared.Reader.{Reader}
use Rattle.reader.specs.declared.text_line.Read.{Read}
use Rattle.textline.specs.declared.ReadLine.{ReadLine}
use Rattle.book.specs.Book.{Reply}
use Rattle.look.specs.declared.Ahead.{Ahead}
use Rattle.history.specs.CallContracts.{Makes, Loads, Ticks, Runs, Holds, Releases, Stops, ReadsLine, Looks}
use Rattle.history.specs.Reply.{answer_reply, tick_reply, run_reply}
use Rattle.demands.specs.Asked.{none, AsAsked}
use Rattle.demands.specs.Bench.{settings_questions}
use Rattle.demands.specs.Questions.{sound_question, load_questions, look_questions, line_questions}

-- what a run answers, in the book's words; it leaves the buffer as new
abbrev pub ran_reply : Ran → (new : List ℕ) → Reply
ran_reply r new = run_reply r.report r.ticks (take r.ticks new)

-- what a text line answers: a block's load answers its width, a line without a block is done
abbrev pub read_reply : Read → Reply
read_reply Read.Nothing = Reply.done
read_reply (Read.Loaded bits) = Reply.width bits
read_reply (Read.Refused number) = Reply.refused number

-- "An answer comes back from every call, for any machine record, block, job text or buffer length. .. No caller need test first." Every
-- function of the code ends, by its own proof; and there is an answer that its contract allows, whatever it is given.
pub record Comes : Type 0 where
  pub make : (s : Settings) → (r : Answered) × Makes s r
  pub load : (m : Machine) (b : Block) → (r : Answered) × Loads m b r
  pub tick : (m : Machine) → (r : Ticked) × Ticks m r
  pub run : (κs : Lfts 1) (m : Machine) (budget : ℕ) (out : MutBor (List ℕ))
      → (out' : MutBor (List ℕ)) × (r : Ran) × Runs κs m budget out out' r
  pub hold : (m : Machine) → (r : Answered) × Holds m r
  pub release : (m : Machine) → (r : Answered) × Releases m r
  pub stop : (m : Machine) → (r : Answered) × Stops m r
  pub look : (m : Machine) (ticks : ℕ) → (r : Ahead) × Looks m ticks r
  pub line : (κs : Lfts 1) (k : Reader) (m : Machine) (bytes : Bor (List ℕ)) → (r : ReadLine) × ReadsLine κs k m bytes r
  -- and the bytes of every line have a meaning
  pub means : (bytes : List ℕ) → (l : Line) × Means bytes l

-- ".. and returns record and buffers unchanged"
abbrev pub Untouched : Machine → (old new : List ℕ) → Ran → Type 0
Untouched m old new r = (r.machine ≡ m) × (r.ticks ≡ 0) × (new ≡ old)

-- 02 §1: "A refusal gives the machine's own record and sums of 0."
abbrev pub Unlooked : Machine → Ahead → Type 0
Unlooked m r = (r.machine ≡ m) × (r.then ≡ m) × (r.sums ≡ record { x = pos 0; y = pos 0 })

pub record EveryAnswer : Type 0 where
  pub comes : Comes
  -- "A refused make answers the number and the fresh machine with p 50, w 5,000 and the widest travel."
  pub make : (s : Settings) (r : Answered) → Makes s r
      → AsAsked (settings_questions s) (answer_reply r.answer) (r.machine ≡ fresh_of standard_settings)
  pub load : (m : Machine) (b : Block) (r : Answered) → Loads m b r
      → AsAsked (load_questions m b) (answer_reply r.answer) (r.machine ≡ m)
  pub tick : (m : Machine) (r : Ticked) → Ticks m r → AsAsked (sound_question m none) (tick_reply r.tick) (r.machine ≡ m)
  pub run : (κs : Lfts 1) (m : Machine) (budget : ℕ) (out out' : MutBor (List ℕ)) (r : Ran) → Runs κs m budget out out' r
      → AsAsked (sound_question m none) (ran_reply r out'.now) (Untouched m out.now out'.now r)
  pub hold : (m : Machine) (r : Answered) → Holds m r → AsAsked (sound_question m none) (answer_reply r.answer) (r.machine ≡ m)
  pub release : (m : Machine) (r : Answered) → Releases m r
      → AsAsked (sound_question m none) (answer_reply r.answer) (r.machine ≡ m)
  pub stop : (m : Machine) (r : Answered) → Stops m r → AsAsked (sound_question m none) (answer_reply r.answer) (r.machine ≡ m)
  pub look : (m : Machine) (ticks : ℕ) (r : Ahead) → Looks m ticks r
      → AsAsked (look_questions m ticks) (answer_reply r.answer) (Unlooked m r)
  -- "A refused line leaves the known G and F and the machine as before it."
  pub line : (κs : Lfts 1) (k : Reader) (m : Machine) (bytes : Bor (List ℕ)) (r : ReadLine) → ReadsLine κs k m bytes r
      → (l : Line) → Means bytes.now l
      → AsAsked (line_questions k m bytes.now l) (read_reply r.answer) ((r.reader ≡ k) × (r.machine ≡ m))
