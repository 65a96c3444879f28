-- Sets of letters, as numbers below 128. What is put in and taken out is told by one computed test over all of them and all letters.
use Rattle.std.specs.Prelude.{ℕ, zero, suc, ◌-◌, ◌*◌, ◌%◌, ◌^◌, ◌≤◌, ◌<◌, ◌≡◌, refl, List, [], ◌∷◌, Bool, true, false, not, ◌&&◌, ◌||◌, T}
use Rattle.std.specs.Prelude.{eqb}
use Rattle.std.proofs.Common.{sym, subst, arith, eqb-true}
use Rattle.std.specs.Int.Bits.{bit_and, bit_or}
use Rattle.std.proofs.lemmas.Nat.{and_le_l, or_lt}
use Rattle.std.proofs.Math.Facts.{and_yes}
use Rattle.std.proofs.lemmas.Bool.{eqb-false}
use Rattle.letters.specs.declared.letter.Letter.{Letter}
use Rattle.letters.specs.declared.letter.Letter.TheVariants.{N, G, F, X, Y, I, J}
use Rattle.letters.specs.Letter.{letters, same}
use Rattle.letters.specs.computed.Found.{index_of, has_of, all_letters}

pub index_below : (l : Letter) → index_of l < 7
index_below N = omega arith
index_below G = omega arith
index_below F = omega arith
index_below X = omega arith
index_below Y = omega arith
index_below I = omega arith
index_below J = omega arith

pub bit_below : (l : Letter) → 2 ^ index_of l ≤ 64
bit_below N = omega arith
bit_below G = omega arith
bit_below F = omega arith
bit_below X = omega arith
bit_below Y = omega arith
bit_below I = omega arith
bit_below J = omega arith

-- a bit as the code makes it
pub bit_fits : (l : Letter) → 1 * 2 ^ index_of l % 18446744073709551616 ≡ 2 ^ index_of l
bit_fits N = refl
bit_fits G = refl
bit_fits F = refl
bit_fits X = refl
bit_fits Y = refl
bit_fits I = refl
bit_fits J = refl

-- ---- the computed test

abbrev below : ℕ → (ℕ → Bool) → Bool
below zero p = true
below (suc n) p = p n && below n p

below_at : (n : ℕ) (p : ℕ → Bool) → T (below n p) → (m : ℕ) → m < n → T (p m)
below_at zero p t m h = absurd (omega arith)
below_at (suc n) p t m h =
    let both = and_yes (p n) (below n p) t in
    by (eqb m n) refl both.0 (λ less. below_at n p both.1 m less)
  where
    by : (e : Bool) → eqb m n ≡ e → T (p n) → (m < n → T (p m)) → T (p m)
    by true e here further = subst (λ (k : ℕ). T (p k)) (sym (eqb-true m n e)) here
    by false e here further = further (let d = eqb-false m n e in omega (arith, d))

abbrev each : (Letter → Bool) → Bool
each p = p N && (p G && (p F && (p X && (p Y && (p I && p J)))))

each_at : (p : Letter → Bool) → T (each p) → (l : Letter) → T (p l)
each_at p t l =
    let n = and_yes (p N) (p G && (p F && (p X && (p Y && (p I && p J))))) t in
    let g = and_yes (p G) (p F && (p X && (p Y && (p I && p J)))) n.1 in
    let f = and_yes (p F) (p X && (p Y && (p I && p J))) g.1 in
    let x = and_yes (p X) (p Y && (p I && p J)) f.1 in
    let y = and_yes (p Y) (p I && p J) x.1 in
    by l n.0 g.0 f.0 x.0 y.0 (and_yes (p I) (p J) y.1)
  where
    by : (l : Letter) → T (p N) → T (p G) → T (p F) → T (p X) → T (p Y) → T (p I) × T (p J) → T (p l)
    by N n g f x y ij = n
    by G n g f x y ij = g
    by F n g f x y ij = f
    by X n g f x y ij = x
    by Y n g f x y ij = y
    by I n g f x y ij = ij.0
    by J n g f x y ij = ij.1

abbrev agree : Bool → Bool → Bool
agree true b = b
agree false b = not b

agree_same : (a b : Bool) → T (agree a b) → a ≡ b
agree_same true true t = refl
agree_same true false t = absurd t
agree_same false true t = absurd t
agree_same false false t = refl

-- letter l put into a set, and taken out of it, as letter k finds it
abbrev put_in : ℕ → (l k : Letter) → Bool
put_in s l k = agree (has_of (bit_or s (2 ^ index_of l)) k) (same k l || has_of s k)

abbrev taken_out : ℕ → (l k : Letter) → Bool
taken_out s l k = agree (has_of (bit_and s (all_letters - 2 ^ index_of l)) k) (not (same k l) && has_of s k)

module _ (s : ℕ) (small : s < 128) (l k : Letter) where
  pub has_put : has_of (bit_or s (2 ^ index_of l)) k ≡ (same k l || has_of s k)
  has_put =
      let test = below_at 128 (λ n. each (λ a. each (put_in n a))) tt s small in
      agree_same _ _ (each_at (put_in s l) (each_at (λ a. each (put_in s a)) test l) k)

  pub has_taken : has_of (bit_and s (all_letters - 2 ^ index_of l)) k ≡ (not (same k l) && has_of s k)
  has_taken =
      let test = below_at 128 (λ n. each (λ a. each (taken_out n a))) tt s small in
      agree_same _ _ (each_at (taken_out s l) (each_at (λ a. each (taken_out s a)) test l) k)

module _ (s : ℕ) (small : s < 128) (l : Letter) where
  pub put_small : bit_or s (2 ^ index_of l) < 128
  put_small = or_lt 7 s (2 ^ index_of l) small (omega (arith, bit_below l))

  pub taken_small : bit_and s (all_letters - 2 ^ index_of l) < 128
  taken_small = omega (arith, and_le_l s (all_letters - 2 ^ index_of l))

-- a letter's index tells it from the others, as its byte does
pub index_same : (k l : Letter) → eqb (index_of k) (index_of l) ≡ same k l
index_same k l = agree_same _ _ (each_at (test k) (each_at (λ a. each (test a)) tt k) l)
  where
    test : (a b : Letter) → Bool
    test a b = agree (eqb (index_of a) (index_of b)) (same a b)

-- only the set that is 0 has no letter
abbrev pub any_in : List Letter → ℕ → Bool
any_in [] s = false
any_in (l ∷ ls) s = has_of s l || any_in ls s

pub set_empty : (s : ℕ) → s < 128 → eqb s 0 ≡ not (any_in letters s)
set_empty s small = agree_same _ _ (below_at 128 (λ n. agree (eqb n 0) (not (any_in letters n))) tt s small)
