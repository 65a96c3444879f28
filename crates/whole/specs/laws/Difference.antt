-- Whole numbers as differences of naturals, so that `omega`, which reads naturals alone, decides what is said of them.
-- `ring` proves an identity of sums and products: it names both sides as expressions and leaves an equation of naturals.
use Rattle.std.specs.Prelude.{◌≡◌, refl, Bool, true, false, cond, ℕ, zero, suc, ◌+◌, ◌-◌, ◌*◌, ◌≤◌, ltb, ℤ, pos, negsuc, neg_ℤ, nat_abs}
use Rattle.std.specs.Prelude.{◌+ℤ◌, ◌-ℤ◌, ◌*ℤ◌}
use Rattle.std.proofs.Common.{ap, arith, ltb-true, ltb-false}
use Rattle.std.proofs.Math.IntN.{sub_ℕ}

-- the positive and the negative part, of which one is 0
abbrev pub up : ℤ → ℕ
up (pos a) = a
up (negsuc a) = 0

abbrev pub down : ℤ → ℕ
down (pos a) = 0
down (negsuc a) = suc a

-- z is p - n
pub record Difference (z : ℤ) (p n : ℕ) : Type 0 where
  pub same : up z + n ≡ p + down z

pub parts : (z : ℤ) → Difference z (up z) (down z)
parts z = record { same = refl }

pub natural : (n : ℕ) → Difference (pos n) n 0
natural n = record { same = refl }

pub negated : {z : ℤ} {p n : ℕ} → Difference z p n → Difference (neg_ℤ z) n p
negated {z = pos zero} h = omega arith
negated {z = pos (suc a)} h = omega arith
negated {z = negsuc a} h = omega arith

subtracted : (a b p n : ℕ) → a + n ≡ p + b → Difference (sub_ℕ a b) p n
subtracted a b p n e = by (ltb a b) refl
  where
    by : (t : Bool) → ltb a b ≡ t → Difference (cond t (negsuc (b - suc a)) (pos (a - b))) p n
    by true h = omega (arith, ltb-true a b h)
    by false h = omega (arith, ltb-false a b h)

pub added : {x y : ℤ} {p n q m : ℕ} → Difference x p n → Difference y q m → Difference (x +ℤ y) (p + q) (n + m)
added {x = pos a} {y = pos b} h k = omega arith
added {x = pos a} {y = negsuc b} h k = subtracted a (suc b) _ _ (omega arith)
added {x = negsuc a} {y = pos b} h k = subtracted b (suc a) _ _ (omega arith)
added {x = negsuc a} {y = negsuc b} h k = omega arith

negative : (a p n : ℕ) → a + p ≡ n → Difference (neg_ℤ (pos a)) p n
negative zero p n e = omega arith
negative (suc a) p n e = omega arith

-- the product of two differences, at the naturals
product : (a b p n q m : ℕ) → a + n ≡ p → b + m ≡ q → a * b + (p * m + n * q) ≡ p * q + n * m
product a b p n q m h k = omega (arith, ap (λ (t : ℕ). t * b) h, ap (λ (t : ℕ). t * m) h, ap (λ (t : ℕ). p * t) k, ap (λ (t : ℕ). n * t) k)

pub multiplied : {x y : ℤ} {p n q m : ℕ} → Difference x p n → Difference y q m → Difference (x *ℤ y) (p * q + n * m) (p * m + n * q)
multiplied {x = pos a} {y = pos b} {p = p} {n = n} {q = q} {m = m} h k = omega (arith, product a b p n q m (omega arith) (omega arith))
multiplied {x = pos a} {y = negsuc b} {p = p} {n = n} {q = q} {m = m} h k =
    negative (a * suc b) _ _ (omega (arith, product a (suc b) p n m q (omega arith) (omega arith)))
multiplied {x = negsuc a} {y = pos b} {p = p} {n = n} {q = q} {m = m} h k =
    negative (suc a * b) _ _ (omega (arith, product (suc a) b n p q m (omega arith) (omega arith)))
multiplied {x = negsuc a} {y = negsuc b} {p = p} {n = n} {q = q} {m = m} h k =
    omega (arith, product (suc a) (suc b) n p m q (omega arith) (omega arith))

-- ---- from differences to equations, and back

pub equal : {x y : ℤ} {p n q m : ℕ} → Difference x p n → Difference y q m → p + m ≡ q + n → x ≡ y
equal {x = pos a} {y = pos b} h k e = ap pos (omega arith)
equal {x = pos a} {y = negsuc b} h k e = absurd (omega arith)
equal {x = negsuc a} {y = pos b} h k e = absurd (omega arith)
equal {x = negsuc a} {y = negsuc b} h k e = ap negsuc (omega arith)

pub size : {z : ℤ} {p n : ℕ} → Difference z p n → nat_abs z ≤ p + n
size {z = pos a} h = omega arith
size {z = negsuc a} h = omega arith

pub size_up : {z : ℤ} {p n : ℕ} → Difference z p n → n ≤ p → nat_abs z + n ≡ p
size_up {z = pos a} h l = omega arith
size_up {z = negsuc a} h l = absurd (omega arith)

-- ---- expressions

infixl 20 ◌⊕◌ ◌⊖◌
infixl 21 ◌⊗◌
pub data Expression : Type 0 where
  var : ℤ → Expression
  num : ℕ → Expression
  neg : Expression → Expression
  ◌⊕◌ ◌⊖◌ ◌⊗◌ : Expression → Expression → Expression

abbrev pub value : Expression → ℤ
value (var z) = z
value (num n) = pos n
value (neg e) = neg_ℤ (value e)
value (e ⊕ f) = value e +ℤ value f
value (e ⊖ f) = value e -ℤ value f
value (e ⊗ f) = value e *ℤ value f

abbrev mutual
  pub plus : Expression → ℕ
  plus (var z) = up z
  plus (num n) = n
  plus (neg e) = minus e
  plus (e ⊕ f) = plus e + plus f
  plus (e ⊖ f) = plus e + minus f
  plus (e ⊗ f) = plus e * plus f + minus e * minus f

  pub minus : Expression → ℕ
  minus (var z) = down z
  minus (num n) = 0
  minus (neg e) = plus e
  minus (e ⊕ f) = minus e + minus f
  minus (e ⊖ f) = minus e + plus f
  minus (e ⊗ f) = plus e * minus f + minus e * plus f

pub split : (e : Expression) → Difference (value e) (plus e) (minus e)
split (var z) = parts z
split (num n) = natural n
split (neg e) = negated (split e)
split (e ⊕ f) = added (split e) (split f)
split (e ⊖ f) = added (split e) (negated (split f))
split (e ⊗ f) = multiplied (split e) (split f)

-- `ring e f (omega arith)`
pub ring : (e f : Expression) → plus e + minus f ≡ plus f + minus e → value e ≡ value f
ring e f h = equal (split e) (split f) h

-- ---- from x to y and on, from x by m and back

pub there : (x y : ℤ) → x +ℤ (y -ℤ x) ≡ y
there x y = ring (var x ⊕ (var y ⊖ var x)) (var y) (omega arith)

pub gone : (x m : ℤ) → (x +ℤ m) -ℤ x ≡ m
gone x m = ring (var x ⊕ var m ⊖ var x) (var m) (omega arith)
