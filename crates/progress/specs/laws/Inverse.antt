-- Words and checks, exactly: a check that fits is told by its bench and the words of its progress, and so is what is known.
use Rattle.std.specs.Prelude.{◌≡◌, refl, true, ◌+◌, ◌*◌, ◌/◌, ◌%◌, ◌^◌, ◌<◌, Option, Some, None}
use Rattle.std.proofs.Common.{arith, lt-ltb}
use Rattle.circle.specs.declared.plane.Turn.{Turn}
use Rattle.bench.specs.computed.Bench.{sound_of}
use Rattle.reader.specs.declared.Motion.{Motion}
use Rattle.reader.specs.declared.Feed.{Feed}
use Rattle.reader.specs.declared.Reader.{Reader}
use Rattle.reader.specs.Reader.{motion_of}
use Rattle.job.specs.declared.Stage.{Stage}
use Rattle.job.specs.declared.Check.{Check}
use Rattle.job.specs.computed.Check.{FeedSmall, Reached}
use Rattle.encoding.specs.Words.{count_of}
use Rattle.encoding.specs.laws.Record.{count_word}
use Rattle.encoding.specs.laws.Same.{same_self}
use Rattle.progress.specs.laws.Long.{long_back}
use Rattle.progress.specs.Known.{motion_word, feed_word, encode_known, feed_read}
use Rattle.progress.specs.computed.Known.{decode_known}
use Rattle.progress.specs.Progress.{stage_word, encode_progress, stage_of, check_in}
use Rattle.progress.specs.computed.Progress.{decode_progress}

-- a check whose numbers are words
pub record Fits (c : Check) : Type 0 where
  pub sound : sound_of c.tally.bench ≡ true
  pub at : c.at < 2 ^ 63
  pub feed : FeedSmall c.tally.reader.feed
  pub lines : c.tally.lines < 2 ^ 63
  pub blocks : c.tally.blocks < 2 ^ 63
  pub cycles : c.tally.cycles < 2 ^ 63
  pub low : c.tally.ticks.low < 2 ^ 63
  pub high : c.tally.ticks.high < 2 ^ 32

stage_back : (s : Stage) → stage_of (count_of (stage_word s)) ≡ s
stage_back Stage.Header = refl
stage_back Stage.Lines = refl
stage_back Stage.Over = refl

motion_back : (m : Option Motion) → motion_of (count_of (motion_word m)) ≡ m
motion_back None = refl
motion_back (Some Motion.Line) = refl
motion_back (Some (Motion.Arc Turn.Clockwise)) = refl
motion_back (Some (Motion.Arc Turn.Counterclockwise)) = refl

feed_back : (f : Option Feed) → FeedSmall f → feed_read (feed_word f) ≡ f
feed_back None h = refl
feed_back (Some k) h =
    let f = k.millimetres * 1000 + k.thousandths in
    let whole : f / 1000 ≡ k.millimetres = omega (arith, h.1) in
    let rest : f % 1000 ≡ k.thousandths = omega (arith, h.1) in
    rw (lt-ltb f (10 ^ 10) (omega (arith, h.0, h.1)), whole, rest)

-- ---- what is known

pub known_decode : (k : Reader) → FeedSmall k.feed → decode_known (encode_known k) ≡ record { ok = true; reader = k }
unfolding decode_known encode_known
known_decode k h = rw (motion_back k.motion, feed_back k.feed h, same_self (encode_known k))

-- ---- a check

check_back : (c : Check) → Fits c → check_in c.tally.bench (encode_progress c) ≡ c
unfolding check_in encode_progress
check_back c f =
    rw (
      stage_back c.stage,
      count_word f.at,
      motion_back c.tally.reader.motion,
      feed_back c.tally.reader.feed f.feed,
      count_word f.lines,
      count_word f.blocks,
      count_word f.cycles,
      long_back c.tally.ticks f.low f.high,
    )

pub progress_decode : (c : Check) → Fits c → decode_progress c.tally.bench (encode_progress c) ≡ record { ok = true; check = c }
unfolding decode_progress
progress_decode c f = rw (check_back c f, same_self (encode_progress c))

-- ---- every check that a start reaches fits

abbrev pub ReachedCheck : Check → Type 0
ReachedCheck c = Reached c.at c.tally

pub reached_fits : (c : Check) → ReachedCheck c → Fits c
reached_fits c r =
    record {
      sound = r.sound;
      at = omega (arith, r.near);
      feed = r.feed;
      lines = omega (arith, r.lines);
      blocks = omega (arith, r.lines, r.blocks);
      cycles = omega (arith, r.lines, r.cycles);
      low = omega (arith, r.low);
      high = omega (arith, r.lines, r.high);
    }
