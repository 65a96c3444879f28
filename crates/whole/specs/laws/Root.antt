-- The least and the nearest root by inequalities, and that these settle them.
use Rattle.std.specs.Prelude.{◌≡◌, refl, ℕ, zero, suc, ◌+◌, ◌-◌, ◌*◌, ◌≤◌, ◌<◌, leb, eqb, true, false}
use Rattle.std.proofs.Common.{sym, ap, ◌∙◌, zero-le, lt_of_not-le, not-le_of_lt, lt_of_lt_of_le, le_trans, add-le-add, add-one, arith}
use Rattle.std.proofs.Common.{leb→le, le→leb, leb-true, le-leb, eqb-true, eq-eqb, ne_eqb}
use Rattle.std.proofs.Math.Decide.{dec_le}
use Rattle.whole.specs.First.{first_from}
use Rattle.whole.specs.Root.{least_root, nearest_root}
use Rattle.whole.specs.laws.First.{Least, unique, first_least}
use Rattle.whole.specs.laws.Test.{same_test}
use Rattle.whole.specs.laws.Squares.{square_le, square_lt, next_square}

-- ---- the least root

pub record LeastRoot (s q : ℕ) : Type 0 where
  pub above : s ≤ q * q
  pub least : (k : ℕ) → s ≤ k * k → q ≤ k

self_square : (s : ℕ) → s ≤ (0 + s) * (0 + s)
self_square zero = omega arith
self_square (suc n) = omega arith

first_least_root : (s : ℕ) → Least (λ q. leb s (q * q)) (least_root s)
unfolding least_root
first_least_root s = first_least (λ q. leb s (q * q)) s 0 (le→leb s _ (self_square s)) (λ j t. omega arith)

pub least_root_lem : (s : ℕ) → LeastRoot s (least_root s)
least_root_lem s =
    let r = first_least_root s in
    record { above = leb→le s _ r.passes; least = λ k h. r.least k (le→leb s (k * k) h) }

pub least_root_is : {s q : ℕ} → LeastRoot s q → q ≡ least_root s
least_root_is {s} {q} r =
    let l : Least (λ q. leb s (q * q)) q = record {
      passes = le→leb s (q * q) r.above;
      least =
          λ k t. r.least k (leb→le s (k * k) t);
    } in
    unique l (first_least_root s)

-- by two products: how code tests a root that it is handed
pub least_root_between : (s q : ℕ) → q * q < s → s ≤ suc q * suc q → suc q ≡ least_root s
least_root_between s q low high = least_root_is (record { above = high; least = λ k h. square_lt q k (lt_of_lt_of_le low h) })

-- the same of a guess q, whose square is all that is multiplied: the root is the next number, or q itself
pub least_root_up : (s q : ℕ) → q * q < s → s - q * q ≤ 2 * q + 1 → q + 1 ≡ least_root s
least_root_up s q low high = add-one q ∙ least_root_between s q low (omega arith)

pub least_root_down : (s q : ℕ) → s ≤ q * q → q * q - s + 1 < 2 * q → q ≡ least_root s
least_root_down s zero high low = absurd (omega arith)
least_root_down s (suc p) high low = least_root_between s p (omega arith) high

-- the test that a number is the least root, by the squares of it and of the one before
pub root_test_zero : (s : ℕ) → eqb s 0 ≡ eqb 0 (least_root s)
root_test_zero s = same_test to from
  where
    to : eqb s 0 ≡ true → eqb 0 (least_root s) ≡ true
    to e = let none = eqb-true s 0 e in eq-eqb 0 _ (least_root_is (record { above = omega arith; least = λ k h. zero-le }))

    from : eqb 0 (least_root s) ≡ true → eqb s 0 ≡ true
    from e = let none = eqb-true 0 (least_root s) e in eq-eqb s 0 (omega (arith, rw (sym none) at (least_root_lem s).above))

module _ (s q : ℕ) (some : 0 < q) where
  pub root_test_low : s ≤ (q - 1) * (q - 1) → eqb q (least_root s) ≡ false
  root_test_low h = ne_eqb q (least_root s) (λ e. omega (arith, (least_root_lem s).least (q - 1) h))

  pub root_test : (q - 1) * (q - 1) < s → leb s (q * q) ≡ eqb q (least_root s)
  root_test low = same_test to from
    where
      to : leb s (q * q) ≡ true → eqb q (least_root s) ≡ true
      to e =
          eq-eqb q (least_root s)
          (least_root_is (record {
            above = leb-true s (q * q) e;
            least =
                λ k h. omega (arith, square_lt (q - 1) k (lt_of_lt_of_le low h));
          }))

      from : eqb q (least_root s) ≡ true → leb s (q * q) ≡ true
      from e = le-leb s (q * q) (rw (← eqb-true q (least_root s) e) at (least_root_lem s).above)

-- ---- the nearest root

suc_sub_one : (q : ℕ) → suc q - 1 ≡ q
suc_sub_one q = omega arith

pub record NearestRoot (n r : ℕ) : Type 0 where
  pub below : r * r < n + r
  pub above : n ≤ r * r + r

first_nearest_root : (n : ℕ) → Least (λ r. leb n (r * r + r)) (nearest_root n)
unfolding nearest_root
first_nearest_root n = first_least (λ r. leb n (r * r + r)) n 0 (le→leb n _ (omega (arith, self_square n))) (λ j t. omega arith)

-- r² - r is (r - 1)² + (r - 1), which the least r leaves below n
pub nearest_root_lem : (n : ℕ) → 0 < n → NearestRoot n (nearest_root n)
nearest_root_lem n some = by (nearest_root n) (first_nearest_root n)
  where
    by : (r : ℕ) → Least (λ r. leb n (r * r + r)) r → NearestRoot n r
    by zero l = absurd (omega (arith, leb→le n (0 * 0 + 0) l.passes))
    by (suc r) l =
        let small : r * r + r < n = lt_of_not-le (λ h. not_suc (l.least r (le→leb n (r * r + r) h))) in
        record { below = omega arith; above = leb→le n _ l.passes }
      where
        not_suc : suc r ≤ r → ⊥
        not_suc h = omega arith

pub nearest_root_is : {n r : ℕ} → NearestRoot n r → r ≡ nearest_root n
nearest_root_is {n} {r} p =
    let l : Least (λ r. leb n (r * r + r)) r =
    record { passes = le→leb n (r * r + r) p.above; least = λ k t. beyond k (leb→le n (k * k + k) t) } in
    unique l (first_nearest_root n)
  where
    beyond : (k : ℕ) → n ≤ k * k + k → r ≤ k
    beyond k h = by (dec_le r k)
      where
        by : Dec (r ≤ k) → r ≤ k
        by (yes g) = g
        by (no f) = absurd (omega (arith, next_square (lt_of_not-le f)))

-- the nearest root is at most k exactly where n is at most k² + k
pub nearest_above : (n : ℕ) → n ≤ nearest_root n * nearest_root n + nearest_root n
nearest_above n = leb→le n _ (first_nearest_root n).passes

pub nearest_least : (n k : ℕ) → n ≤ k * k + k → nearest_root n ≤ k
nearest_least n k h = (first_nearest_root n).least k (le→leb n (k * k + k) h)

pub nearest_over : (n k : ℕ) → k * k + k < n → k < nearest_root n
nearest_over n k h = lt_of_not-le (λ g. not-le_of_lt h (le_trans (nearest_above n) (add-le-add (square_le g) g)))

pub nearest_root_zero : nearest_root 0 ≡ 0
unfolding nearest_root first_from
nearest_root_zero = refl

-- the test that a number is the nearest root, by its square
pub nearest_test_zero : (n : ℕ) → eqb n 0 ≡ eqb 0 (nearest_root n)
nearest_test_zero n = same_test to from
  where
    to : eqb n 0 ≡ true → eqb 0 (nearest_root n) ≡ true
    to e = eq-eqb 0 _ (sym (ap nearest_root (eqb-true n 0 e) ∙ nearest_root_zero))

    from : eqb 0 (nearest_root n) ≡ true → eqb n 0 ≡ true
    from e = eq-eqb n 0 (omega (arith, rw (sym (eqb-true 0 (nearest_root n) e)) at (nearest_above n)))

module _ (n r : ℕ) (some : 0 < r) where
  -- r² - r is (r - 1)² + (r - 1)
  before_product : (r - 1) * (r - 1) + (r - 1) ≡ r * r - r
  before_product = by r some
    where
      by : (k : ℕ) → 0 < k → (k - 1) * (k - 1) + (k - 1) ≡ k * k - k
      by zero h = absurd (omega arith)
      by (suc k) h = rw (suc_sub_one k) (omega arith)

  pub nearest_test_low : n ≤ r * r - r → eqb r (nearest_root n) ≡ false
  nearest_test_low h = ne_eqb r (nearest_root n) (λ e. omega (arith, nearest_least n (r - 1) (omega (arith, before_product))))

  pub nearest_test : r * r - r < n → leb n (r * r + r) ≡ eqb r (nearest_root n)
  nearest_test low = same_test to from
    where
      to : leb n (r * r + r) ≡ true → eqb r (nearest_root n) ≡ true
      to e = eq-eqb r (nearest_root n) (nearest_root_is (record { below = omega arith; above = leb-true n (r * r + r) e }))

      from : eqb r (nearest_root n) ≡ true → leb n (r * r + r) ≡ true
      from e = le-leb n (r * r + r) (rw (← eqb-true r (nearest_root n) e) at (nearest_above n))

-- from the least root by one comparison
module _ (n q : ℕ) (root : LeastRoot n (suc q)) where
  below_root : q * q < n
  below_root = lt_of_not-le (λ h. self (root.least q h))
    where
      self : suc q ≤ q → ⊥
      self h = omega arith

  one_down : n ≤ suc q * q → q ≡ nearest_root n
  one_down h = nearest_root_is (record { below = omega (arith, below_root); above = omega arith })

  itself : suc q * q < n → suc q ≡ nearest_root n
  itself h = nearest_root_is (record { below = omega arith; above = omega (arith, root.above) })

pub nearest_down : (n q : ℕ) → LeastRoot n q → 0 < q → n ≤ q * (q - 1) → q - 1 ≡ nearest_root n
nearest_down n zero root some h = absurd (omega arith)
nearest_down n (suc q) root some h = rw (suc_sub_one q) (one_down n q root (rw (suc_sub_one q) at h))

pub nearest_same : (n q : ℕ) → LeastRoot n q → 0 < q → q * (q - 1) < n → q ≡ nearest_root n
nearest_same n zero root some h = absurd (omega arith)
nearest_same n (suc q) root some h = itself n q root (rw (suc_sub_one q) at h)
