-- The width by leading zeros, and that of the nearest root without the root.
use Rattle.std.specs.Prelude.{◌≡◌, refl, ℕ, zero, suc, ◌+◌, ◌-◌, ◌*◌, ◌/◌, ◌^◌, ◌≤◌, ◌<◌, ltb}
use Rattle.std.proofs.Common.{◌∙◌, ap, pow-suc, lt_of_not-le, lt_of_lt_of_le, le_trans, zero-add, add-one, arith, ltb→lt, lt→ltb, pow_pos}
use Rattle.std.proofs.Common.{pow_mono, pow-add}
use Rattle.std.proofs.Math.Decide.{dec_le}
use Rattle.std.specs.Int.Count.{count_leading_zeros}
use Rattle.std.proofs.lemmas.Nat.{leading_length}
use Rattle.whole.specs.Root.{nearest_root}
use Rattle.whole.specs.Width.{width_of}
use Rattle.whole.specs.laws.First.{Least, unique, first_least}
use Rattle.whole.specs.laws.Root.{nearest_above, nearest_least, nearest_over}
use Rattle.whole.specs.laws.Squares.{square_lt}

below_power : (n : ℕ) → n < 2 ^ n
below_power zero = omega arith
below_power (suc n) = omega (arith, below_power n, pow-suc 2 n)

first_width : (n : ℕ) → Least (λ w. ltb n (2 ^ w)) (width_of n)
unfolding width_of
first_width n = first_least (λ w. ltb n (2 ^ w)) n 0 (lt→ltb n _ (omega (arith, below_power n, ap (λ (t : ℕ). 2 ^ t) (zero-add n))))
    (λ j t. omega arith)

-- a width that holds n, and of which half the numbers are too few
pub width_is : {n w : ℕ} → n < 2 ^ w → 2 ^ w ≤ 2 * n + 1 → w ≡ width_of n
width_is {n} {w} holds needed =
    let l : Least (λ w. ltb n (2 ^ w)) w = record { passes = lt→ltb n (2 ^ w) holds; least = λ k t. beyond k (ltb→lt n (2 ^ k) t) } in
    unique l (first_width n)
  where
    beyond : (k : ℕ) → n < 2 ^ k → w ≤ k
    beyond k h = by (dec_le w k)
      where
        by : Dec (w ≤ k) → w ≤ k
        by (yes g) = g
        by (no f) = absurd (omega (arith, pow_mono (lt_of_not-le f), pow-suc 2 k))

-- in a word of `bits` bits
pub width_by_zeros : (bits n : ℕ) → n < 2 ^ bits → bits - count_leading_zeros bits n ≡ width_of n
width_by_zeros bits n h =
    let l = leading_length bits n h in
    let same : bits - count_leading_zeros bits n ≡ l.0 = omega (arith, l.1) in
    same ∙ width_is l.2 l.3

pub width_holds : (n : ℕ) → n < 2 ^ width_of n
width_holds n = ltb→lt n _ (first_width n).passes

pub width_least : (n w : ℕ) → n < 2 ^ w → width_of n ≤ w
width_least n w h = (first_width n).least w (lt→ltb n (2 ^ w) h)

pub width_needed : (n : ℕ) → 2 ^ width_of n ≤ 2 * n + 1
width_needed n = let l = leading_length n n (below_power n) in rw (← width_is l.2 l.3) l.3

-- ---- the width of the nearest root, by one product: half that of n, rounded up, or one more

before : (t : ℕ) → (t - 1) * t ≡ (t - 1) * (t - 1) + (t - 1)
before zero = refl
before (suc t) = let e : suc t - 1 ≡ t = omega arith in rw e (omega arith)

module _ (n half : ℕ) (is : half ≡ (width_of n + 1) / 2) where
  below_square : n < 2 ^ half * 2 ^ half
  below_square = lt_of_lt_of_le (width_holds n) (rw (← pow-add 2 half half) (pow_mono (omega arith)))

  square_needed : 2 ^ half * 2 ^ half ≤ 4 * n + 2
  square_needed =
      rw (← pow-add 2 half half)
      (le_trans (pow_mono {i = half + half} {j = suc (width_of n)} (omega arith)) (omega (arith, pow-suc 2 (width_of n), width_needed n)))

  half_needed : 2 ^ half ≤ 2 * nearest_root n + 1
  half_needed = omega (arith, square_lt (2 ^ half) (2 * nearest_root n + 2) (omega (arith, square_needed, nearest_above n)))

  pub root_width_half : n ≤ (2 ^ half - 1) * 2 ^ half → half ≡ width_of (nearest_root n)
  root_width_half h =
      let small = nearest_least n (2 ^ half - 1) (omega (arith, before (2 ^ half))) in
      width_is (omega (arith, pow_pos half)) half_needed

  pub root_width_more : (2 ^ half - 1) * 2 ^ half < n → half + 1 ≡ width_of (nearest_root n)
  root_width_more h =
      let large = nearest_over n (2 ^ half - 1) (omega (arith, before (2 ^ half))) in
      let small = nearest_least n (2 ^ half) (omega (arith, below_square)) in
      rw (add-one half) (width_is (rw (pow-suc 2 half) (omega (arith, pow_pos half))) (rw (pow-suc 2 half) (omega arith)))
