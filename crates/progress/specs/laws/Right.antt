-- The code's tests pass exactly where the words are those of what they tell.
use Rattle.std.specs.Prelude.{◌≡◌, refl, Bool, false, cond, List, [], ◌∷◌, zero, suc, ◌^◌, ltb, ℤ, pos, negsuc, length, Option, Some, None}
use Rattle.std.proofs.Common.{sym, ◌∙◌, arith, SFits, lt-ltb, ltb-true}
use Rattle.std.proofs.Math.Path.{ap}
use Rattle.std.proofs.Math.Bool.{true}
use Rattle.std.specs.Int.{w64}
use Rattle.whole.specs.laws.Test.{both, joined, same_test}
use Rattle.plane.specs.Travel.{within_of}
use Rattle.circle.specs.declared.plane.Turn.{Turn}
use Rattle.reader.specs.declared.Motion.{Motion}
use Rattle.reader.specs.Reader.{motion_of}
use Rattle.bench.specs.declared.Bench.{Bench}
use Rattle.job.specs.declared.Stage.{Stage}
use Rattle.encoding.specs.Words.{count_of}
use Rattle.encoding.specs.computed.Words.{same_words}
use Rattle.encoding.specs.laws.Right.{count_again, count_right, each}
use Rattle.encoding.specs.laws.Same.{same_true, same_words_lem}
use Rattle.progress.specs.declared.known.Known.{Known}
use Rattle.progress.specs.declared.progress.Progress.{Progress}
use Rattle.progress.specs.Known.{motion_word, feed_word, known_of, encode_known, feed_read, reader_of}
use Rattle.progress.specs.computed.Known.{known_in}
use Rattle.progress.specs.Progress.{stage_word, progress_of, progress_words, encode_progress, stage_of, check_of, progress_in, check_in}
use Rattle.progress.specs.laws.Number.{range_to, range_of, feed_in}
use Rattle.progress.specs.laws.Long.{long_again, long_right_lem}
use Rattle.progress.specs.computed.Right.{stages, motions, feeds, known_right, count_words_right, progress_right}

-- ---- one word

stage_again : (z : ℤ) → within_of stages z ≡ true → stage_word (stage_of (count_of z)) ≡ z
stage_again (pos zero) t = refl
stage_again (pos (suc zero)) t = refl
stage_again (pos (suc (suc zero))) t = refl
stage_again (pos (suc (suc (suc n)))) t = absurd (omega (arith, (range_to stages (pos (suc (suc (suc n)))) t).1))
stage_again (negsuc n) t = absurd (omega (arith, (range_to stages (negsuc n) t).0))

stage_right : (s : Stage) → within_of stages (stage_word s) ≡ true
unfolding within_of
stage_right Stage.Header = refl
stage_right Stage.Lines = refl
stage_right Stage.Over = refl

motion_again : (z : ℤ) → within_of motions z ≡ true → motion_word (motion_of (count_of z)) ≡ z
motion_again (pos zero) t = refl
motion_again (pos (suc zero)) t = refl
motion_again (pos (suc (suc zero))) t = refl
motion_again (pos (suc (suc (suc zero)))) t = refl
motion_again (pos (suc (suc (suc (suc n))))) t = absurd (omega (arith, (range_to motions (pos (suc (suc (suc (suc n))))) t).1))
motion_again (negsuc n) t = absurd (omega (arith, (range_to motions (negsuc n) t).0))

motion_right_lem : (m : Option Motion) → within_of motions (motion_word m) ≡ true
unfolding within_of
motion_right_lem None = refl
motion_right_lem (Some Motion.Line) = refl
motion_right_lem (Some (Motion.Arc Turn.Clockwise)) = refl
motion_right_lem (Some (Motion.Arc Turn.Counterclockwise)) = refl

feed_again : (z : ℤ) → within_of feeds z ≡ true → feed_word (feed_read z) ≡ z
feed_again (pos f) t =
    rw (lt-ltb f (10 ^ 10) (omega (arith, (range_to feeds (pos f) t).1))) (ap pos (omega arith))
feed_again (negsuc zero) t = refl
feed_again (negsuc (suc n)) t = absurd (omega (arith, (range_to feeds (negsuc (suc n)) t).0))

-- a feed that the words tell
feed_right_lem : (z : ℤ) → feed_word (feed_read z) ≡ z → within_of feeds z ≡ true
feed_right_lem (pos f) = by (ltb f (10 ^ 10)) refl
  where
    by : (small : Bool) → ltb f (10 ^ 10) ≡ small → feed_word (cond small (feed_in f) None) ≡ pos f → within_of feeds (pos f) ≡ true
    by true s e = range_of feeds (pos f) (omega arith) (omega (arith, ltb-true f (10 ^ 10) s))
    by false s e = cc
feed_right_lem (negsuc n) = λ e. rw (← e) (range_of feeds (negsuc 0) (omega arith) (omega arith))

-- ---- what is known

module _ (k : Known) where
  known_again : known_right k ≡ true → known_of (reader_of k) ≡ k
  unfolding known_right
  known_again t = let b = both t in rw (motion_again k.motion b.0, feed_again k.feed b.1)

  known_right_lem : known_of (reader_of k) ≡ k → known_right k ≡ true
  unfolding known_right
  known_right_lem e =
      let m : within_of motions k.motion ≡ true =
      rw (← ap (λ (l : Known). l.motion) e) (motion_right_lem (motion_of (count_of k.motion))) in
      joined m (feed_right_lem k.feed (ap (λ (l : Known). l.feed) e))

pub known_same : (ws : List ℤ) → length ws ≡ 2 → known_right (known_in ws) ≡ same_words ws (encode_known (reader_of (known_in ws)))
unfolding encode_known
known_same ws all =
    same_test
    (λ t. sym (same_words_lem (each 2 ws all ∙ ap (λ (k : Known). k.motion ∷ k.feed ∷ []) (sym (known_again (known_in ws) t)))))
    (λ t. known_right_lem (known_in ws) (sym (ap known_in (same_true ws (encode_known (reader_of (known_in ws))) t))))

-- ---- progress

-- the words that a count may stand in are numbers of 64 bits
pub record Fits (p : Progress) : Type 0 where
  pub at : SFits w64 p.at
  pub lines : SFits w64 p.lines
  pub blocks : SFits w64 p.blocks
  pub cycles : SFits w64 p.cycles
  pub ticks : SFits w64 p.ticks.low

module _ (m : Bench) (p : Progress) where
  progress_again : Fits p → progress_right p ≡ true → progress_of (check_of m p) ≡ p
  unfolding progress_right count_words_right
  progress_again f t =
      let s = both t in
      let k = both s.1 in
      let a = both k.1 in
      let l = both a.1 in
      let b = both l.1 in
      let c = both b.1 in
      rw (
        stage_again p.stage s.0,
        known_again p.known k.0,
        count_again p.at f.at a.0,
        count_again p.lines f.lines l.0,
        count_again p.blocks f.blocks b.0,
        count_again p.cycles f.cycles c.0,
        long_again p.ticks f.ticks c.1,
      )

  progress_right_lem : progress_of (check_of m p) ≡ p → progress_right p ≡ true
  unfolding progress_right count_words_right
  progress_right_lem e =
      let s : within_of stages p.stage ≡ true = rw (← ap (λ (q : Progress). q.stage) e) (stage_right (stage_of (count_of p.stage))) in
      joined s
      (joined (known_right_lem p.known (ap (λ (q : Progress). q.known) e))
      (joined (count_right p.at (ap (λ (q : Progress). q.at) e))
      (joined (count_right p.lines (ap (λ (q : Progress). q.lines) e))
      (joined (count_right p.blocks (ap (λ (q : Progress). q.blocks) e))
      (joined (count_right p.cycles (ap (λ (q : Progress). q.cycles) e))
      (long_right_lem p.ticks (ap (λ (q : Progress). q.ticks) e)))))))

pub progress_same : (m : Bench) (ws : List ℤ) → length ws ≡ 9 → Fits (progress_in ws)
    → progress_right (progress_in ws) ≡ same_words ws (encode_progress (check_in m ws))
unfolding encode_progress check_in
progress_same m ws all f =
    same_test
    (λ t. sym (same_words_lem (each 9 ws all ∙ ap progress_words (sym (progress_again m (progress_in ws) f t)))))
    (λ t. progress_right_lem m (progress_in ws) (sym (ap progress_in (same_true ws (encode_progress (check_in m ws)) t))))
