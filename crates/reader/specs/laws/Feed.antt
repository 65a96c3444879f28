-- Feed numbers at a unit: at 1,000 it cancels the thousandths, and of whole millimetres at any unit it is u times that of 01.
use Rattle.std.specs.Prelude.{◌≡◌, Bool, true, false, cond, ℕ, ◌+◌, ◌*◌, ◌/◌, ◌%◌, Option, Some, None}
use Rattle.std.proofs.Common.{sym, ap, ◌∙◌, arith}
use Rattle.std.proofs.Math.Nat.{mul-div_cancel_left}
use Rattle.plane.specs.declared.point.Point.{Point}
use Rattle.block.specs.Feed.{finer}
use Rattle.letters.specs.declared.word.Word.{Word}
use Rattle.letters.specs.declared.word.Words.{Words}
use Rattle.settings.specs.Settings.{feed_unit}
use Rattle.reader.specs.declared.Feed.{Feed}
use Rattle.reader.specs.declared.Reader.{Reader}
use Rattle.reader.specs.Reader.{WholeKnown, feed_of, feed_after, feed_number_at, reader_after, block_at}

by_thousand : (n : ℕ) → 1000 * n / 1000 ≡ n
by_thousand n = mul-div_cancel_left n {n = 1000} (omega arith)

-- 02 §4: thousandths of a millimetre per minute, times p
pub feed_fine : (p millimetres thousandths : ℕ)
    → feed_number_at feed_unit p (feed_of millimetres thousandths) ≡ (millimetres * 1000 + thousandths) * p
feed_fine p m t =
    let n = (m * 1000 + t) * p in
    let turned : n * 1000 ≡ 1000 * n = omega arith in
    rw turned (by_thousand n)

-- ---- whole millimetres, as 01 had them

whole_after : (f : Option Feed) (w : Word) → WholeKnown f → w.magnitude % 1000 ≡ 0 → WholeKnown (feed_after f w)
whole_after f w h t = by w.stands
  where
    by : (stands : Bool) → WholeKnown (cond stands (feed_of (w.magnitude / 1000) (w.magnitude % 1000)) f)
    by true = t
    by false = h

pub reader_whole : (k : Reader) (ws : Words) → WholeKnown k.feed → ws.f.magnitude % 1000 ≡ 0 → WholeKnown (reader_after k ws).feed
reader_whole k ws h t = whole_after k.feed ws.f h t

-- 01: "millimetres per minute times p", u times as much
pub feed_whole : (u p millimetres : ℕ) → feed_number_at u p (feed_of millimetres 0) ≡ u * (millimetres * p)
feed_whole u p m =
    let turned : (m * 1000 + 0) * p * u ≡ 1000 * (u * (m * p)) = omega arith in
    rw turned (by_thousand (u * (m * p)))

pub feed_01 : (p millimetres : ℕ) → feed_number_at 1 p (feed_of millimetres 0) ≡ millimetres * p
feed_01 p m = feed_whole 1 p m ∙ omega arith

module _ (u p : ℕ) where
  feed_finer : (f : Option Feed) → WholeKnown f → feed_number_at u p f ≡ u * feed_number_at 1 p f
  feed_finer None h = omega arith
  feed_finer (Some f) h = rw h (feed_whole u p f.millimetres ∙ ap (λ (n : ℕ). u * n) (sym (feed_01 p f.millimetres)))

  pub block_finer : (k : Reader) (ws : Words) (at : Point) → WholeKnown k.feed → block_at u p k ws at ≡ finer u (block_at 1 p k ws at)
  unfolding block_at
  block_finer k ws at h = rw (feed_finer k.feed h)
