-- 02 §3: "The record keeps the cycles still to do over the block in work and all waiting. After every call on a sound record this figure
-- equals the count made afresh.", on any sound one, made-up ones too: after any calls of a history, a text line, and ahead of any ticks.
use Rattle.std.specs.Prelude.{◌≡◌, List, ℕ}
use Rattle.std.specs.Borrow.{Bor}
use contract.Lifetimes.{Lfts}
use Rattle.queue.specs.Queue as queue
use Rattle.machine.specs.declared.Machine.{Machine}
use Rattle.machine.specs.Machine.{to_do}
use Rattle.reader.specs.declared.Reader.{Reader}
use Rattle.textline.specs.declared.ReadLine.{ReadLine}
use Rattle.look.specs.declared.Ahead.{Ahead}
use Rattle.book.specs.Book.{Call, Reply}
use Rattle.history.specs.CallContracts.{PassesTest, ReadsLine, Looks}
use Rattle.history.specs.History.{History}

pub record FigureRight (m : Machine) : Type 0 where
  pub afresh : m.left ≡ to_do m.bench.at m.bench.work (queue.waiting m.queue)
  -- and the next call finds a sound record too
  pub sound : PassesTest m

pub record EveryFigure : Type 0 where
  pub calls : (m : Machine) → PassesTest m → (cs : List Call) (rs : List Reply) (m' : Machine) → History m cs rs m' → FigureRight m'
  pub line : (κs : Lfts 1) (k : Reader) (m : Machine) (bytes : Bor (List ℕ)) (r : ReadLine) → ReadsLine κs k m bytes r
      → PassesTest m → FigureRight r.machine
  pub look : (m : Machine) (ticks : ℕ) (r : Ahead) → Looks m ticks r → PassesTest m → FigureRight r.then × FigureRight r.machine
