-- Demand 3 as one claim: "For every list of loads, ticks, runs, holds, releases and stops, in any order and number, refused ones included,
-- from a machine made fresh, each call getting the record that the one before returned, all this holds after it." With 02 §3, Sixteen
-- blocks waiting.
use Rattle.std.specs.Prelude.{◌≡◌, List, ◌+◌, ◌*◌}
use Rattle.plane.specs.Byte.{code_x, code_y}
use Rattle.queue.specs.Queue.{queue_of}
use Rattle.queue.specs.Queue as queue
use Rattle.work.specs.Work.{end_of}
use Rattle.settings.specs.declared.Settings.{Settings}
use Rattle.settings.specs.Settings.{capacity_of}
use Rattle.machine.specs.declared.Machine.{Machine}
use Rattle.machine.specs.declared.Answered.{Answered}
use Rattle.book.specs.Book.{Book, Call, Reply, fresh_book, figure_of, replies, closing}
use Rattle.book.specs.Bounds.{OnWork}
use Rattle.book.specs.Ledger.{Account, Right, Given, AcceptedThere, BeginsBelow, Counted, Every, accounts, in_order, taken}
use Rattle.book.specs.Sums.{pulses_sent, charges_since, feeds_since}
use Rattle.history.specs.Agree.{work_of}
use Rattle.history.specs.CallContracts.{Makes, PassesTest}
use Rattle.history.specs.History.{History, HasHistory}

-- the book after the calls cs of a machine with the settings s
abbrev pub book_after : Settings → List Call → Book
book_after s cs = closing (capacity_of s) s.travel fresh_book cs

-- an account of every block that they loaded
abbrev pub accounts_of : Settings → List Call → List Account
accounts_of s cs = accounts (capacity_of s) s.travel cs

-- what holds after the calls cs, from a machine made with the settings s, gave the replies rs and the record m
pub record AsDemanded (s : Settings) (cs : List Call) (rs : List Reply) (m : Machine) : Type 0 where
  -- "Every answer and tick byte, the point, the mark and the remainder are those of document 01's book." So are the settings and what is in
  -- work.
  pub answers : rs ≡ replies (capacity_of s) s.travel fresh_book cs
  pub settings : m.bench.settings ≡ s
  pub point : m.bench.at ≡ (book_after s cs).bench.at
  pub mark : m.bench.held ≡ (book_after s cs).bench.mark
  pub remainder : m.bench.remainder ≡ (book_after s cs).bench.remainder
  pub work : m.bench.work ≡ work_of (book_after s cs).bench.work
  -- 02 §3: "The machine shall hold up to 16 blocks after the one in work": those of the book, and the places behind them are blank
  pub waiting : queue.waiting m.queue ≡ (book_after s cs).waiting
  pub blank : m.queue ≡ queue_of (end_of m.bench.at m.bench.work) (queue.waiting m.queue)
  -- 02 §3: "first come first cut": the accounts, the oldest first, are of the blocks that the loads took, in the order of the loads
  pub order : in_order (accounts_of s cs) ≡ taken cs rs
  -- 02 §3: "The record keeps the cycles still to do over the block in work and all waiting. After every call on a sound record this figure
  -- equals the count made afresh."
  pub figure : m.left ≡ figure_of (book_after s cs)
  -- 02 §3: "A sound record has this figure right, only waiting blocks that would be accepted in turn, and none waiting when nothing is in
  -- work."
  pub sound : PassesTest m
  -- "On a line the point is at most half a pulse per axis from the exact point for the cycles done, and its squared distance from the line
  -- is at most one half. On an arc it is less than half a pulse from the circle." And it is the point that the arc's walk has reached after
  -- the cycles done.
  pub bounds : OnWork m.bench.at (book_after s cs).bench.work
  -- "A block not stopped has ended exactly when it has had the working ticks that the feed gives; the last of them leaves the point on the
  -- block's commanded end." 02 §3: "Its end tick counts from there, with the remainder then." And: "Stop empties the queue, and the blocks
  -- that waited there count as stopped."
  pub blocks : Every (Right (capacity_of s)) (accounts_of s cs)
  -- a block that has had none, as while it waited, has not ended: the feed gives every block a tick at least
  pub given : Every (Given (capacity_of s)) (accounts_of s cs)
  -- 02 §3: "The other load questions .. start from the end of the last waiting block, else of the block in work, else from the point": at
  -- the place where a block is cut, or is to be cut, they have no no
  pub accepted : Every (AcceptedThere (capacity_of s) s.travel) (accounts_of s cs)
  -- that number of ticks is 02 §2's for "a history", where every block begins at a remainder that pays for no cycle
  pub begins : Every (BeginsBelow (capacity_of s)) (accounts_of s cs)
  -- the cycles and charges by which the feed gives an arc's ticks are those of its walk to the end
  pub counts : Every Counted (accounts_of s cs)
  -- "What was done adds up: pulses sent on each axis since the machine was made sum to the point,"
  pub pulses_x : pulses_sent code_x rs ≡ m.bench.at.x
  pub pulses_y : pulses_sent code_y rs ≡ m.bench.at.y
  -- "and since the last stop, if any, cycles times feed capacity plus remainder equals the feed numbers of all working ticks." 02 §2: "In
  -- the feed sum charges replace cycles and 1,000 × f replaces f."
  pub feeds : charges_since (capacity_of s) s.travel 0 fresh_book cs rs * capacity_of s + m.bench.remainder
      ≡ feeds_since (capacity_of s) s.travel 0 fresh_book cs

-- "A history starts from the record that one make answers, refused or not."
abbrev pub EveryHistory : Type 0
EveryHistory =
    (asked : Settings) (made : Answered) → Makes asked made →
    (cs : List Call) (rs : List Reply) (m : Machine) → History made.machine cs rs m →
    AsDemanded made.machine.bench.settings cs rs m

-- "For every list ..": there is none that this leaves out, from whatever record
abbrev pub EveryList : Type 0
EveryList = (m : Machine) (cs : List Call) → HasHistory m cs
