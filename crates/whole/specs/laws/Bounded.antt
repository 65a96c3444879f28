-- Signed code over variables that are bounded by numerals: by one computed test (`tt`) each operation fits an i64, and the code computes
-- what is meant.
use Rattle.std.specs.Prelude.{◌≡◌, Bool, ◌&&◌, ℕ, ◌+◌, ◌*◌, ◌≤◌, ◌^◌, T, ltb, ℤ, pos, nat_abs, ◌+ℤ◌, ◌-ℤ◌, ◌*ℤ◌}
use Rattle.std.proofs.Common.{le_refl, mul-le-mul, lt_of_le_of_lt, arith, ltb→lt, SFits, to_z, of_z, to_z-of_z}
use Rattle.std.specs.Int.{w64}
use Rattle.std.proofs.Math.Facts.{and_yes}
use Rattle.whole.specs.laws.Order.{abs_add, abs_sub, abs_mul, abs_fits}

infixl 20 ◌⊞◌ ◌⊟◌
infixl 21 ◌⊠◌
pub data Code : Type 0 where
  at : (z : ℤ) (m : ℕ) → nat_abs z ≤ m → Code
  lit : ℕ → Code
  ◌⊞◌ ◌⊟◌ ◌⊠◌ : Code → Code → Code

-- what is meant
abbrev pub means : Code → ℤ
means (at z m h) = z
means (lit n) = pos n
means (e ⊞ f) = means e +ℤ means f
means (e ⊟ f) = means e -ℤ means f
means (e ⊠ f) = means e *ℤ means f

-- what the code computes: each value is read back from its bits
abbrev pub runs : Code → ℤ
runs (at z m h) = to_z w64 (of_z w64 z)
runs (lit n) = to_z w64 n
runs (e ⊞ f) = to_z w64 (of_z w64 (runs e +ℤ runs f))
runs (e ⊟ f) = to_z w64 (of_z w64 (runs e -ℤ runs f))
runs (e ⊠ f) = to_z w64 (of_z w64 (runs e *ℤ runs f))

abbrev pub bound : Code → ℕ
bound (at z m h) = m
bound (lit n) = n
bound (e ⊞ f) = bound e + bound f
bound (e ⊟ f) = bound e + bound f
bound (e ⊠ f) = bound e * bound f

abbrev pub small : Code → Bool
small (at z m h) = ltb m (2 ^ 63)
small (lit n) = ltb n (2 ^ 63)
small (e ⊞ f) = ltb (bound e + bound f) (2 ^ 63) && (small e && small f)
small (e ⊟ f) = ltb (bound e + bound f) (2 ^ 63) && (small e && small f)
small (e ⊠ f) = ltb (bound e * bound f) (2 ^ 63) && (small e && small f)

pub bounded : (e : Code) → nat_abs (means e) ≤ bound e
bounded (at z m h) = h
bounded (lit n) = le_refl n
bounded (e ⊞ f) = omega (arith, abs_add (means e) (means f), bounded e, bounded f)
bounded (e ⊟ f) = omega (arith, abs_sub (means e) (means f), bounded e, bounded f)
bounded (e ⊠ f) = rw abs_mul (mul-le-mul (bounded e) (bounded f))

pub under : (e : Code) → T (ltb (bound e) (2 ^ 63)) → SFits w64 (means e)
under e t = abs_fits (means e) (lt_of_le_of_lt (bounded e) (ltb→lt (bound e) (2 ^ 63) t))

-- the test of a compound, taken apart: its own bound, and its two sides
apart : (own left right : Bool) → T (own && (left && right)) → T own × T left × T right
apart own left right t =
    let p = and_yes own (left && right) t in
    let q = and_yes left right p.1 in
    (p.0, q.0, q.1)

pub exact : (e : Code) → T (small e) → runs e ≡ means e
exact (at z m h) t = to_z-of_z (under (at z m h) t)
exact (lit n) t = to_z-of_z (under (lit n) t)
exact (e ⊞ f) t = let p = apart (ltb (bound e + bound f) (2 ^ 63)) (small e) (small f) t in
    rw (exact e p.1, exact f p.2) (to_z-of_z (under (e ⊞ f) p.0))
exact (e ⊟ f) t = let p = apart (ltb (bound e + bound f) (2 ^ 63)) (small e) (small f) t in
    rw (exact e p.1, exact f p.2) (to_z-of_z (under (e ⊟ f) p.0))
exact (e ⊠ f) t = let p = apart (ltb (bound e * bound f) (2 ^ 63)) (small e) (small f) t in
    rw (exact e p.1, exact f p.2) (to_z-of_z (under (e ⊠ f) p.0))

-- each operation of the code fits
module _ (e f : Code) where
  pub adds : T (small (e ⊞ f)) → SFits w64 (runs e +ℤ runs f)
  adds t = let p = apart (ltb (bound e + bound f) (2 ^ 63)) (small e) (small f) t in
      rw (exact e p.1, exact f p.2) (under (e ⊞ f) p.0)

  pub subs : T (small (e ⊟ f)) → SFits w64 (runs e -ℤ runs f)
  subs t = let p = apart (ltb (bound e + bound f) (2 ^ 63)) (small e) (small f) t in
      rw (exact e p.1, exact f p.2) (under (e ⊟ f) p.0)
