-- The circle points of one octant, 0 ≤ y ≤ x, over the naturals. Products of orders (`apart`, `apart_le`) are all that `omega` has to
-- be told.
use Rattle.std.specs.Prelude.{◌≡◌, ◌⊎◌, ℕ, zero, suc, ◌+◌, ◌*◌, ◌≤◌, ◌<◌}
use Rattle.std.proofs.Common.{sym, inl, inr, le_antisymm, le_refl, le_of_lt, mul-le-mul, mul-le-mul_left, mul-le-mul_right}
use Rattle.std.proofs.Common.{mul-lt-mul_of_pos_right, lt_of_not-le, arith}
use Rattle.std.proofs.Math.Nat.{le_of_mul-le-mul_left}
use Rattle.std.proofs.Math.Decide.{dec_le}
use Rattle.whole.specs.Root.{nearest_root}
use Rattle.whole.specs.laws.Root.{NearestRoot, nearest_root_lem, nearest_root_is}

-- -m ≤ F < m where m is x
pub record Octant (n x y : ℕ) : Type 0 where
  pub wide : y ≤ x
  pub low : n ≤ x * x + x + y * y
  pub high : x * x + y * y + 1 ≤ n + x

-- on an axis: r is the nearest root of n
abbrev pub Axis : ℕ → ℕ → Type 0
Axis n r = Octant n r 0

-- a circle point of the closed first quadrant
abbrev pub Quadrant : ℕ → ℕ → ℕ → Type 0
Quadrant n a b = Octant n a b ⊎ Octant n b a

pub swapped : {n a b : ℕ} → Quadrant n a b → Quadrant n b a
swapped (inl h) = inr h
swapped (inr h) = inl h

-- ---- products of orders

pub unless : {a b : ℕ} → ¬ (b < a) → a ≤ b
unless f = omega arith

pub apart : {x u : ℕ} → x < u → x * x + x + u ≤ u * u
apart {x} {u} h = omega (arith, mul-le-mul_right (u + x) h)

pub apart_le : {y x : ℕ} → y ≤ x → y * y + x ≤ x * x + y
apart_le {y} {x} h = by (dec_le x y)
  where
    by : Dec (x ≤ y) → y * y + x ≤ x * x + y
    by (yes k) = omega (arith, mul-le-mul h h)
    by (no f) = omega (arith, apart (lt_of_not-le f))

pub self_square : (y : ℕ) → y ≤ y * y
self_square zero = omega arith
self_square (suc y) = omega arith

-- ---- one octant

module _ {n x y : ℕ} (h : Octant n x y) where
  pub some : 1 ≤ x
  some = unless (λ g. omega (arith, mul-le-mul h.wide h.wide, apart_le h.wide))

  pub some_n : 1 ≤ n
  some_n = omega (arith, apart_le h.wide, self_square y, self_square x)

  -- on the diagonal the two octants are one
  pub diagonal : x ≤ y → Octant n y x
  diagonal l = omega arith

  -- the key: as y grows, x falls
  pub falls : {u v : ℕ} → Octant n u v → y ≤ v → u ≤ x
  falls k l = unless (λ g. omega (arith, apart g, mul-le-mul l l))

pub unique : {n x u y : ℕ} → Octant n x y → Octant n u y → x ≡ u
unique {y = y} h k = le_antisymm (falls k h (le_refl y)) (falls h k (le_refl y))

module _ {n x y u v : ℕ} (h : Octant n x y) (k : Octant n u v) where
  -- the order by cross products is that by y
  pub turns : y < v → y * u < x * v
  turns l = omega (arith, mul-lt-mul_of_pos_right l (some k), mul-le-mul_left v (falls h k (le_of_lt l)))

  pub rises : y * u < x * v → y < v
  rises l = lt_of_not-le (λ g. omega (arith, mul-le-mul (falls k h g) g))

  level : y * u ≡ x * v → y ≡ v
  level e =
      le_antisymm (unless (λ g. omega (arith, mul-lt-mul_of_pos_right g (some h), mul-le-mul_left y (falls k h (le_of_lt g)))))
      (unless (λ g. omega (arith, turns g)))

-- y is at most half a quarter turn
pub minor : {n x y q : ℕ} → Octant n x y → Axis (2 * n) q → 2 * y ≤ q
minor h k = unless (λ g. omega (arith, apart g, apart_le h.wide))

-- past the diagonal there is no point of the octant
pub past : {n u v : ℕ} (y : ℕ) → n + (y + 1) ≤ 2 * ((y + 1) * (y + 1)) → Octant n u v → y + 1 ≤ v → ⊥
past y e k l = omega (arith, apart_le k.wide, apart_le l)

-- ---- the first quadrant

-- circle points on one ray are equal
module _ {n : ℕ} where
  same : {a b u v : ℕ} → Octant n a b → Octant n u v → a * v ≡ b * u → (a ≡ u) × (b ≡ v)
  same {a} {b} {u} {v} h k e = at b v h k (level h k (sym e))
    where
      at : (b v : ℕ) → Octant n a b → Octant n u v → b ≡ v → (a ≡ u) × (b ≡ v)
      at b v h k e = (le_antisymm (falls k h (omega arith)) (falls h k (omega arith)), e)

  mixed : {a b u v : ℕ} → Octant n a b → Octant n v u → a * v ≡ b * u → (a ≡ u) × (b ≡ v)
  mixed {a} {b} {u} {v} h k e =
      let f : v ≤ u = le_of_mul-le-mul_left {k = a} (omega (arith, mul-le-mul_right u h.wide)) (some h) in
      same h (diagonal k f) e

  pub ray : {a b u v : ℕ} → Quadrant n a b → Quadrant n u v → a * v ≡ b * u → (a ≡ u) × (b ≡ v)
  ray (inl h) (inl k) e = same h k e
  ray (inl h) (inr k) e = mixed h k e
  ray (inr h) (inl k) e = let p = mixed h k (sym e) in (p.1, p.0)
  ray (inr h) (inr k) e = let p = same h k (sym e) in (p.1, p.0)

-- which octant
pub below : {n x y : ℕ} → Quadrant n x y → y ≤ x → Octant n x y
below (inl h) l = h
below (inr h) l = diagonal h l

pub above : {n x y : ℕ} → Quadrant n x y → x ≤ y → Octant n y x
above (inl h) l = diagonal h l
above (inr h) l = h

-- no coordinate passes that on the axis
pub under_axis : {n a b r : ℕ} → Quadrant n a b → Axis n r → (a ≤ r) × (b ≤ r)
under_axis (inl h) k = omega (arith, falls k h (omega arith))
under_axis (inr h) k = omega (arith, falls k h (omega arith))

-- ---- the nearest root

pub axis_of : {n r : ℕ} → NearestRoot n r → Axis n r
axis_of h = omega arith

pub nearest_axis : (n : ℕ) → 1 ≤ n → Axis n (nearest_root n)
nearest_axis n some = axis_of (nearest_root_lem n some)

pub axis_is : {n r : ℕ} → Axis n r → r ≡ nearest_root n
axis_is h = nearest_root_is (record { below = omega arith; above = omega arith })

-- the axis point is within E: one product, no root
module _ {n r : ℕ} (h : Axis n r) (e : ℕ) where
  pub axis_within : r ≤ e → n ≤ e * e + e
  axis_within l = omega (arith, mul-le-mul l l)

  pub within_axis : n ≤ e * e + e → r ≤ e
  within_axis l = unless (λ g. omega (arith, apart g))
