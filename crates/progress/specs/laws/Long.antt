-- Ticks as words: the code's test passes exactly where the words are those of the count that they tell.
use Rattle.std.specs.Prelude.{◌≡◌, refl, Bool, true, false, cond, ◌^◌, ◌<◌, ltb, ℤ, pos, negsuc}
use Rattle.std.proofs.Common.{ap, arith, SFits, lt-ltb, ltb-true}
use Rattle.std.specs.Int.{w64}
use Rattle.whole.specs.laws.Test.{both, joined}
use Rattle.plane.specs.Travel.{within_of}
use Rattle.row.specs.declared.long.LongCount.{LongCount}
use Rattle.encoding.specs.laws.Record.{count_word}
use Rattle.encoding.specs.laws.Right.{count_again, count_right}
use Rattle.progress.specs.declared.long.LongWords.{LongWords}
use Rattle.progress.specs.Long.{long_words, high_read, long_read}
use Rattle.progress.specs.computed.Right.{highs, long_right}
use Rattle.progress.specs.laws.Number.{range_to, range_of}

high_again : (z : ℤ) → within_of highs z ≡ true → pos (high_read z) ≡ z
high_again (pos n) t = rw (lt-ltb n (2 ^ 32) (omega (arith, (range_to highs (pos n) t).1)))
high_again (negsuc n) t = absurd (omega (arith, (range_to highs (negsuc n) t).0))

high_right : (z : ℤ) → pos (high_read z) ≡ z → within_of highs z ≡ true
high_right (pos n) = by (ltb n (2 ^ 32)) refl
  where
    by : (small : Bool) → ltb n (2 ^ 32) ≡ small → pos (cond small n 0) ≡ pos n → within_of highs (pos n) ≡ true
    by true s e = range_of highs (pos n) (omega arith) (omega (arith, ltb-true n (2 ^ 32) s))
    by false s e = rw (← e) (range_of highs (pos 0) (omega arith) (omega arith))
high_right (negsuc n) = λ e. rw (← e) (range_of highs (pos 0) (omega arith) (omega arith))

module _ (w : LongWords) where
  pub long_again : SFits w64 w.low → long_right w ≡ true → long_words (long_read w) ≡ w
  unfolding long_right
  long_again f t = let b = both t in rw (count_again w.low f b.0, high_again w.high b.1)

  pub long_right_lem : long_words (long_read w) ≡ w → long_right w ≡ true
  unfolding long_right
  long_right_lem e =
      joined (count_right w.low (ap (λ (v : LongWords). v.low) e)) (high_right w.high (ap (λ (v : LongWords). v.high) e))

pub long_back : (c : LongCount) → c.low < 2 ^ 63 → c.high < 2 ^ 32 → long_read (long_words c) ≡ c
long_back c low high = rw (count_word low, lt-ltb c.high (2 ^ 32) high)
