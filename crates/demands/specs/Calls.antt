-- What the calls do where no question refuses them, for every sound record: make, hold, release, stop, a tick that does not work, and a
-- text line. A load and a working tick are in Lines and Arcs, a run in Runs.
use Rattle.std.specs.Prelude.{◌≡◌, true, false, List, ℕ, Ok}
use Rattle.std.specs.Borrow.{Bor}
use contract.Lifetimes.{Lfts}
use Rattle.work.specs.declared.Work.{Work}
use Rattle.settings.specs.declared.Settings.{Settings}
use Rattle.queue.specs.Queue.{empty_queue}
use Rattle.bench.specs.declared.Answer.{Answer}
use Rattle.bench.specs.Bench.{moved_of}
use Rattle.machine.specs.declared.Machine.{Machine}
use Rattle.machine.specs.declared.Answered.{Answered}
use Rattle.machine.specs.declared.Ticked.{Ticked}
use Rattle.machine.specs.Machine.{machine_of, fresh_of}
use Rattle.machine.specs.Calls.{answers, ticks, mark_of}
use Rattle.words.specs.declared.line.Line.{Line}
use Rattle.words.specs.Meaning.{Means}
use Rattle.reader.specs.declared.Reader.{Reader}
use Rattle.reader.specs.declared.text_line.Read.{Read}
use Rattle.textline.specs.declared.ReadLine.{ReadLine}
use Rattle.reader.specs.Reader.{reader_after}
use Rattle.history.specs.CallContracts.{Makes, Loads, Ticks, Holds, Releases, Stops, ReadsLine}
use Rattle.settings.specs.Settings.{feed_unit}
use Rattle.demands.specs.Asked.{AllYes}
use Rattle.demands.specs.Bench.{settings_questions}
use Rattle.demands.specs.Sound.{Sound}
use Rattle.demands.specs.Questions.{next_start, line_block, makes_block, line_questions}

-- a text line that no question refuses
pub record LineTaken (k : Reader) (m : Machine) (l : Line) (r : ReadLine) : Type 0 where
  -- "A line without X, Y, I, J makes no block;" 02 §3: "a straight text line to that place makes no block": the machine stays. "G and F
  -- count from their own line until changed".
  pub no_block : makes_block feed_unit k m.bench.settings.scale (next_start m) l ≡ false
      → r ≡ record { answer = Read.Nothing; reader = reader_after k l.words; machine = m }
  -- any other is a load of its block
  pub block : makes_block feed_unit k m.bench.settings.scale (next_start m) l ≡ true
      → (a : Answered) × (bits : ℕ) × Loads m (line_block feed_unit k m.bench.settings.scale (next_start m) l) a
      × (a.answer ≡ Ok (Answer.Width bits))
      × (r ≡ record { answer = Read.Loaded bits; reader = reader_after k l.words; machine = a.machine })

pub record EveryCall : Type 0 where
  -- "A fresh machine stands at (0, 0), idle, not held, remainder 0."
  pub make : (s : Settings) (r : Answered) → Makes s r → AllYes (settings_questions s) → r ≡ answers (Ok Answer.Done) (fresh_of s)
  -- "Hold and release only set a mark." "These three answer done, or 9."
  pub hold : (m : Machine) (r : Answered) → Holds m r → Sound m → r ≡ answers (Ok Answer.Done) (mark_of m true)
  pub release : (m : Machine) (r : Answered) → Releases m r → Sound m → r ≡ answers (Ok Answer.Done) (mark_of m false)
  -- "Stop drops the block in work, keeps the point and the mark and sets the remainder to 0, also when idle." 02 §3: "Stop empties the
  -- queue"
  pub stop : (m : Machine) (r : Answered) → Stops m r → Sound m
      → r ≡ answers (Ok Answer.Done) (machine_of (moved_of m.bench m.bench.at 0 Work.Nothing) empty_queue)
  -- "Idle or held gives 0 and changes nothing."
  pub idle : (m : Machine) (r : Ticked) → Ticks m r → Sound m → m.bench.work ≡ Work.Nothing → r ≡ ticks (Ok 0) m
  pub held : (m : Machine) (r : Ticked) → Ticks m r → Sound m → m.bench.held ≡ true → r ≡ ticks (Ok 0) m
  pub line : (κs : Lfts 1) (k : Reader) (m : Machine) (bytes : Bor (List ℕ)) (r : ReadLine) → ReadsLine κs k m bytes r
      → (l : Line) → Means bytes.now l → AllYes (line_questions k m bytes.now l) → LineTaken k m l r
