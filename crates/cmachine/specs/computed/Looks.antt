-- What the look-ahead answers in C and the words that it gives, for any words whatever.
use Rattle.std.specs.Prelude.{◌≡◌, true, cond, List, ℕ, zero, suc, leb, ℤ, negsuc}
use Rattle.bench.specs.declared.Bench.{Bench}
use Rattle.finish.specs.computed.Finish.{works_of}
use Rattle.look.specs.declared.Ahead.{Ahead}
use Rattle.look.specs.Look.{most_ticks}
use Rattle.look.specs.computed.Look.{ahead_of}
use Rattle.record.specs.computed.Words.{bench_in, machine_in, sound_words}
use Rattle.calls.specs.Calls.{answer_number, WordCall}
use Rattle.calls.specs.computed.Calls.{told_of}
use Rattle.cmachine.specs.Looks.{sum_words, no_sums}

-- the answer, the words of the record ahead, and the sums
pub record ToldAhead : Type 0 where
  pub answer : ℤ
  pub then : List ℤ
  pub sums : List ℤ

abbrev pub tells_ahead : (answer : ℤ) (then sums : List ℤ) → ToldAhead
tells_ahead n ws sums = record { answer = n; then = ws; sums = sums }

-- "the same ticks .. on a copy": what so many calls of a tick make of a copy of the words
unfoldable pub ticks_of : (n : ℕ) → List ℤ → List ℤ
ticks_of zero ws = ws
ticks_of (suc n) ws = ticks_of n (told_of ws WordCall.tick).words

-- "A refusal gives the machine's own record"
abbrev pub ahead_told : List ℤ → (ticks : ℕ) → Ahead → ToldAhead
ahead_told ws n a = tells_ahead (answer_number a.answer) (cond (leb n most_ticks) (ticks_of n ws) ws) (sum_words a.sums)

-- "and sums of 0.": so of words that are no sound record too
unfoldable pub told_ahead_of : List ℤ → (ticks : ℕ) → ToldAhead
told_ahead_of ws n = cond (sound_words ws) (ahead_told ws n (ahead_of (machine_in ws) n)) (tells_ahead (negsuc 8) ws no_sums)

-- ---- what inner code asks of its callers

-- the words of a sound record, and its bench, of which a tick is a working one
pub record Passing (ws : List ℤ) (k : Bench) : Type 0 where
  pub sound : sound_words ws ≡ true
  pub bench_is : k ≡ bench_in ws
  pub works : works_of k ≡ true
