-- 02 §4, Feeds with decimals: calls whose feed numbers count in a unit u times as fine. Only a load has a feed.
use Rattle.std.specs.Prelude.{List, [], ◌∷◌, ℕ}
use Rattle.block.specs.Feed.{finer}
use Rattle.book.specs.Book.{Call}

abbrev pub finer_call : (u : ℕ) → Call → Call
finer_call u (Call.load b) = Call.load (finer u b)
finer_call u Call.tick = Call.tick
finer_call u (Call.run budget buffer) = Call.run budget buffer
finer_call u Call.hold = Call.hold
finer_call u Call.release = Call.release
finer_call u Call.stop = Call.stop

abbrev pub finer_calls : (u : ℕ) → List Call → List Call
finer_calls u [] = []
finer_calls u (c ∷ cs) = finer_call u c ∷ finer_calls u cs
