-- Each text line leaves a tally that a start reaches.
use Rattle.std.specs.Prelude.{◌≡◌, refl, Bool, true, false, cond, List, ℕ, zero, suc, ◌+◌, ◌/◌, ◌%◌, ◌^◌, ◌≤◌}
use Rattle.std.specs.Prelude.{◌<◌, length, Option, Result, Ok, Err}
use Rattle.std.proofs.Common.{arith}
use Rattle.question.specs.declared.Question.{Question}
use Rattle.letters.specs.declared.word.Word.{Word}
use Rattle.letters.specs.declared.word.Words.{Words}
use Rattle.words.specs.computed.Meaning.{meaning_of}
use Rattle.row.specs.laws.Long.{plus_adds}
use Rattle.bench.specs.declared.Bench.{Bench}
use Rattle.bench.specs.declared.Answer.{Answer}
use Rattle.bench.specs.computed.Bench.{sound_of}
use Rattle.bench.specs.Bench.{moved_of}
use Rattle.bench.specs.computed.Calls.{load_of}
use Rattle.finish.specs.laws.Record.{AtRest, cycles_most, ticks_most}
use Rattle.reader.specs.declared.Feed.{Feed}
use Rattle.reader.specs.declared.Reader.{Reader}
use Rattle.reader.specs.declared.asked.ToLoad.{ToLoad}
use Rattle.reader.specs.declared.asked.Asked.{Asked}
use Rattle.reader.specs.declared.text_line.Read.{Read}
use Rattle.reader.specs.declared.text_line.ReadLine.{ReadLine}
use Rattle.reader.specs.computed.Reader.{longest_text, line_no}
use Rattle.reader.specs.Reader.{reader_after, feed_of, feed_after}
use Rattle.reader.specs.computed.Asked.{asked_with, asked_of}
use Rattle.reader.specs.computed.TextLine.{reads, loaded, takes, taken_of, read_line_of}
use Rattle.reader.specs.laws.Small.{line_writable}
use Rattle.tally.specs.declared.Tally.{Tally}
use Rattle.tally.specs.computed.Tally.{counts_right, block_listed, listed_with, listed_of}
use Rattle.tally.specs.computed.Tally.{tally_from as tally_start}
use Rattle.tally.specs.laws.Counts.{Counts, counts}
use Rattle.tally.specs.laws.Read.{listed, not_listed}
use Rattle.job.specs.computed.Job.{Asks}
use Rattle.job.specs.computed.Check.{FeedSmall, Reached}
use Rattle.job.specs.laws.Ended.{ended_of, ended, ended_rests}
use Rattle.job.specs.laws.Asks.{Read-as, line_asks_lem}

pub start_reached : {m : Bench} → AtRest m → Reached 0 (tally_start m)
unfolding tally_start
start_reached i =
    record {
      sound = i.sound;
      free = i.free;
      idle = i.idle;
      feed = tt;
      near = omega arith;
      lines = omega arith;
      blocks = omega arith;
      cycles = omega arith;
      high = omega arith;
      low = omega arith;
    }

-- ---- the F that is known has seven digits and three decimals

feed_after_lem : (f : Option Feed) (w : Word) → w.magnitude < 10 ^ 10 → FeedSmall f → FeedSmall (feed_after f w)
feed_after_lem f w h known = by w.stands
  where
    by : (stands : Bool) → FeedSmall (cond stands (feed_of (w.magnitude / 1000) (w.magnitude % 1000)) f)
    by true = (omega arith, omega arith)
    by false = known

module _ (k k' : Reader) (m : Bench) (before : FeedSmall k.feed) (after : FeedSmall k'.feed) where
  feed_loaded : (next : Bench) (a : Result Answer Question) → FeedSmall (loaded k k' m next a).reader.feed
  feed_loaded next (Ok Answer.Done) = after
  feed_loaded next (Ok (Answer.Width bits)) = after
  feed_loaded next (Err number) = before

  feed_taken : (a : ToLoad) → FeedSmall (takes k k' m a).reader.feed
  feed_taken ToLoad.Nothing = after
  feed_taken (ToLoad.Block b) = feed_loaded (load_of m b).bench (load_of m b).answer
  feed_taken (ToLoad.Refused number) = before

  feed_asked : (ws : Words) (number : ℕ) → FeedSmall (asked_with m.settings.scale k k' m.at ws number).reader.feed
  feed_asked ws zero = after
  feed_asked ws (suc n) = before

feed_read_lem : (k : Reader) (m : Bench) (line : List ℕ) → FeedSmall k.feed → FeedSmall (read_line_of k m line).reader.feed
unfolding read_line_of asked_of
feed_read_lem k m line h = by (sound_of m)
  where
    k' : Reader
    k' = reader_after k (meaning_of line).words

    number : ℕ
    number = line_no m.settings.scale k' (length line) (meaning_of line)

    a : Asked
    a = asked_with m.settings.scale k k' m.at (meaning_of line).words number

    by : (sound : Bool) → FeedSmall (cond sound (taken_of k m a) (reads (Read.Refused 9) k m)).reader.feed
    by true =
        let after = feed_after_lem k.feed (meaning_of line).words.f (line_writable line).f h in
        feed_taken k a.reader m h (feed_asked k k' m h after (meaning_of line).words number) a.asks
    by false = h

-- ---- a line

module _ (t : Tally) {at next : ℕ} (r : Reached at t) (near : next ≤ longest_text + 1) where
  rests : AtRest t.bench
  rests = record { sound = r.sound; free = r.free; idle = r.idle }

  pub stays : Reached next t
  stays =
      record {
        sound = r.sound;
        free = r.free;
        idle = r.idle;
        feed = r.feed;
        near = near;
        lines = r.lines;
        blocks = r.blocks;
        cycles = r.cycles;
        high = r.high;
        low = r.low;
      }

  by_line : Counts t → {a : Asks} {x : ReadLine} → Read-as t.bench t.reader a x → FeedSmall x.reader.feed
      → Reached next (listed_with t x.reader x.bench x.answer).tally
  unfolding block_listed moved_of
  by_line c (Read-as.nothing known) f =
      record {
        sound = r.sound;
        free = r.free;
        idle = r.idle;
        feed = f;
        near = near;
        lines = omega (arith, c.lines);
        blocks = omega (arith, c.blocks);
        cycles = omega (arith, c.cycles);
        high = omega (arith, c.high);
        low = c.low;
      }
  by_line c (Read-as.makes known b ok) f =
      let e = ended t.bench rests b ok in
      let i = ended_rests t.bench rests b ok in
      let few = rw e at (cycles_most (load_of t.bench b).bench) in
      let short = rw e at (ticks_most (load_of t.bench b).bench) in
      let adds = plus_adds t.ticks (ended_of t.bench b).ticks c.low (omega arith) in
      rw e
      (record {
        sound = i.sound;
        free = i.free;
        idle = i.idle;
        feed = f;
        near = near;
        lines = omega (arith, c.lines);
        blocks = omega (arith, c.blocks);
        cycles = omega (arith, c.cycles);
        high = omega (arith, c.high, adds.carried);
        low = adds.low;
      })
  by_line c (Read-as.refuses number) f = stays

  pub line_reached : (line : List ℕ) → Reached next (listed_of t line).tally
  line_reached line = by (counts_right t) refl
    where
      by : (right : Bool) → counts_right t ≡ right → Reached next (listed_of t line).tally
      by true e =
          rw (listed t line e {r = read_line_of t.reader t.bench line} refl)
          (by_line (counts t e) (line_asks_lem t.bench t.reader r.sound r.idle line)
          (feed_read_lem t.reader t.bench line r.feed))
      by false e = rw (not_listed t line e) stays
