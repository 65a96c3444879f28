-- The circle points of N, seen from the centre, and the distance of a point from the circle.
use Rattle.std.specs.Prelude.{Bool, ◌&&◌, ℕ, ◌+◌, ◌*◌, max, leb, ltb, ℤ, pos, neg_ℤ, nat_abs, ◌+ℤ◌, ◌-ℤ◌, ◌*ℤ◌, ◌≤ℤ◌, ◌<ℤ◌}
use Rattle.circle.specs.declared.plane.Offset.{Offset}
use Rattle.whole.specs.Root.{nearest_root}

abbrev pub offset : ℤ → ℤ → Offset
offset x y = record { x = x; y = y }

abbrev pub square : ℤ → ℤ
square z = z *ℤ z

-- 01, Arcs: "Seen from the centre, (x, y) has F = x² + y² - N, and m is the larger of |x|, |y|."
abbrev pub squares : Offset → ℤ
squares p = square p.x +ℤ square p.y

abbrev pub excess : ℕ → Offset → ℤ
excess N p = squares p -ℤ pos N

abbrev pub larger : Offset → ℕ
larger p = max (nat_abs p.x) (nat_abs p.y)

-- "It is a circle point if -m ≤ F < m."
pub record Circle (N : ℕ) (p : Offset) : Type 0 where
  pub low : neg_ℤ (pos (larger p)) ≤ℤ excess N p
  pub high : excess N p <ℤ pos (larger p)

-- "less than t half pulses means that 4 × F - t², where positive, has a square below 16 × t² × N, and -4 × F - t², where positive, one
-- below 16 × t² × (x² + y²)."
abbrev pub past : ℕ → ℤ → ℤ
past t f = pos 4 *ℤ f -ℤ pos (t * t)

pub record Within (t N : ℕ) (p : Offset) : Type 0 where
  pub outside : pos 0 <ℤ past t (excess N p) → square (past t (excess N p)) <ℤ (pos (16 * (t * t)) *ℤ pos N)
  pub inside : pos 0 <ℤ past t (neg_ℤ (excess N p)) → square (past t (neg_ℤ (excess N p))) <ℤ (pos (16 * (t * t)) *ℤ squares p)

-- 01, Job and machine: "N in 1..2,000,000,000,000, point and end both circle points of N"
abbrev pub largest_n : ℕ
largest_n = 2000000000000

-- -m ≤ F < m over magnitudes and without signs
abbrev pub circle_test : (N a b : ℕ) → Bool
circle_test N a b = ltb (a * a + b * b) (N + max a b) && leb N (a * a + b * b + max a b)

unfoldable pub on_circle : ℕ → Offset → Bool
on_circle N p = leb 1 N && (leb N largest_n && circle_test N (nat_abs p.x) (nat_abs p.y))

-- the cycles of a quarter turn: √2 times the radius √N, to the nearest
abbrev pub quarter_of : ℕ → ℕ
quarter_of N = nearest_root (2 * N)
