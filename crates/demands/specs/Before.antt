-- 02 §4, Feeds with decimals: "Jobs whose F words have no point must, from a fresh machine, give the same pulses on the same ticks as
-- before." Before, these same rules held by the unit 1: q0 was 60 × w, and a feed number counted whole pulses per minute.
use Rattle.std.specs.Prelude.{◌≡◌, true, false, List, [], ◌∷◌, ◌++◌, ℕ, ◌+◌, ◌*◌, Option}
use Rattle.plane.specs.declared.point.Point.{Point}
use Rattle.plane.specs.declared.travel.Travel.{Travel}
use Rattle.block.specs.Feed.{finer}
use Rattle.letters.specs.declared.letter.Letter.TheVariants.{F}
use Rattle.letters.specs.Word.{one_word}
use Rattle.words.specs.declared.line.Line.{Line}
use Rattle.words.specs.Meaning.{number, magnitude_of, Means}
use Rattle.words.specs.Whole.{NoPoint}
use Rattle.settings.specs.declared.Settings.{Settings}
use Rattle.settings.specs.Settings.{feed_unit, capacity_at}
use Rattle.bench.specs.Bench.{fresh_of}
use Rattle.machine.specs.declared.Machine.{Machine}
use Rattle.machine.specs.declared.Answered.{Answered}
use Rattle.reader.specs.declared.Feed.{Feed}
use Rattle.reader.specs.declared.Reader.{Reader}
use Rattle.reader.specs.Reader.{WholeKnown, feed_of, feed_after, feed_number_at, reader_after}
use Rattle.book.specs.Book.{Call, Reply, fresh_book, replies, closing}
use Rattle.book.specs.Sums.{tick_bytes}
use Rattle.book.specs.Unit.{finer_calls}
use Rattle.history.specs.CallContracts.{Makes}
use Rattle.history.specs.History.{History}
use Rattle.history.specs.Look.{only_ticks}
use Rattle.job.specs.declared.Check.{Check}
use Rattle.job.specs.Job.{Made, End}
use Rattle.job.specs.Listing.{made_ticks, made_leaves, job_listing}
use Rattle.job.specs.Unit.{WholeText, finer_blocks}
use Rattle.stream.specs.declared.Stream.{Stream}
use Rattle.demands.specs.Asked.{AllYes}
use Rattle.demands.specs.Bench.{settings_questions}
use Rattle.demands.specs.Questions.{line_block}
use Rattle.demands.specs.Texts.{TextMeans, FrontOf, Starts, TellsOver, RowsOut}
use Rattle.demands.specs.TickBytes.{StartsStream, BytesOut}

-- ---- the tick bytes of a job by the book. "Each block is loaded once the one before has ended, remainder kept."

-- its calls: each block is loaded, at remainder r, and gets the working ticks that the feed gives
unfoldable pub job_calls : (q0 r : ℕ) → List Made → List Call
job_calls q0 r [] = []
job_calls q0 r (m ∷ ms) = Call.load m.block ∷ (only_ticks (made_ticks q0 r m) ++ job_calls q0 (made_leaves q0 r m) ms)

unfoldable pub bytes_told : List Reply → List ℕ
bytes_told [] = []
bytes_told (r ∷ rs) = tick_bytes r ++ bytes_told rs

abbrev pub book_bytes : (q0 : ℕ) → Travel → List Made → List ℕ
book_bytes q0 travel ms = bytes_told (replies q0 travel fresh_book (job_calls q0 0 ms))

-- ---- the same as before

-- after the calls of a history, whose feed numbers were u times those of cs: what the book by the unit 1 says of cs
pub record AsBefore (u : ℕ) (s : Settings) (cs : List Call) (rs : List Reply) (m : Machine) : Type 0 where
  pub answers : rs ≡ replies (capacity_at 1 s) s.travel fresh_book cs
  pub point : m.bench.at ≡ (closing (capacity_at 1 s) s.travel fresh_book cs).bench.at
  pub mark : m.bench.held ≡ (closing (capacity_at 1 s) s.travel fresh_book cs).bench.mark
  pub remainder : m.bench.remainder ≡ u * (closing (capacity_at 1 s) s.travel fresh_book cs).bench.remainder

pub record EveryWholeFeed : Type 0 where
  -- the unit 1 is 01's: "Capacity q0 = 60 × w. The block's feed number f is pulses per minute: millimetres per minute times p."
  pub capacity : (s : Settings) → capacity_at 1 s ≡ 60 * s.clock
  pub feed : (p millimetres : ℕ) → feed_number_at 1 p (feed_of millimetres 0) ≡ millimetres * p
  -- and the unit 1,000 is 02 §4's: "The feed number becomes thousandths of a pulse per minute and q0 becomes 60,000 × w."
  pub capacity_now : (s : Settings) → capacity_at feed_unit s ≡ 60000 * s.clock
  pub feed_now : (p millimetres thousandths : ℕ)
      → feed_number_at feed_unit p (feed_of millimetres thousandths) ≡ (millimetres * 1000 + thousandths) * p
  -- the F of a word without a point is the number that its digits write
  pub known : (f : Option Feed) (digits : List ℕ) → feed_after f (one_word false (magnitude_of F digits [])) ≡ feed_of (number digits) 0
  -- a line of such a job, read at a machine wherever its block would start, asks for the same block; what is known after it is whole again
  pub line : (k : Reader) → WholeKnown k.feed → (scale : ℕ) (start : Point) (bytes : List ℕ) → NoPoint bytes
      → (l : Line) → Means bytes l
      → (line_block feed_unit k scale start l ≡ finer feed_unit (line_block 1 k scale start l)) × WholeKnown (reader_after k l.words).feed
  -- such a job has the same blocks from the same text lines and the same end; their feed numbers count in thousandths
  pub job : (s : Settings) (text : List ℕ) → WholeText text → (made : List Made) (end : End) → TextMeans 1 s text made end
      → TextMeans feed_unit s text (finer_blocks feed_unit made) end
  -- whoever fills a check that began at a fresh machine gets the listing that it had, to the byte
  pub listing : (s : Settings) → AllYes (settings_questions s) → (text : List ℕ) → WholeText text
      → (made : List Made) (end : End) → TextMeans 1 s text made end
      → (c : Check) → Starts (fresh_of s) c → (bytes : List ℕ) (d : Check) → RowsOut text c bytes d
      → FrontOf (job_listing (capacity_at 1 s) (record { blocks = made; end = end })) bytes (TellsOver d true)
  -- "the same pulses on the same ticks": whoever fills a stream gets the tick bytes that the book by the unit 1 gives
  pub bytes : (s : Settings) → AllYes (settings_questions s) → (text : List ℕ) → WholeText text
      → (made : List Made) (end : End) → TextMeans 1 s text made end
      → (t : Stream) → StartsStream (fresh_of s) t → (bytes : List ℕ) (u : Stream) → BytesOut text t bytes u
      → FrontOf (book_bytes (capacity_at 1 s) s.travel made) bytes (u.over ≡ true)
  -- and so whatever the calls are, holds, stops and refused ones too: every answer and tick byte, point and mark
  pub history : (asked : Settings) (made : Answered) → Makes asked made → (cs : List Call) (rs : List Reply) (m : Machine)
      → History made.machine (finer_calls feed_unit cs) rs m → AsBefore feed_unit made.machine.bench.settings cs rs m
