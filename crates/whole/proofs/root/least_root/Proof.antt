-- `least_root` is right because a guess is taken only where its square settles the root, and each search reaches far enough.
use borrow.Author.Rules.{rules}
use Prim.Native.Nat.{ℕ, ◌+◌, ◌-◌, ◌*◌, ◌%◌, ◌≤◌}
use native.Mathlib.Omega.{arith}
use mir.Facts.{Fits-le, Fits-lit}
use Rattle.whole.specs.laws.Float.{itself_no_nan}
use Rattle.whole.specs.laws.Squares.{square_le}
use Rattle.whole.specs.laws.Root.{least_root_is, least_root_up, least_root_down}
use Rattle.whole.proofs.root.least_root.Statement.{statement}
use Rattle.whole.proofs.root.least_root.Tie as tie

-- the square of a number of 32 bits
square_small : (n : ℕ) → n % 4294967296 * (n % 4294967296) ≤ 4294967295 * 4294967295
square_small n = square_le {n = 4294967295} (omega arith)

gap_small : (n s : ℕ) → n % 4294967296 * (n % 4294967296) - s + 1 ≤ 4294967295 * 4294967295 + 1
gap_small n s = omega (arith, square_small n)

returns-then-s-eq0 : tie.Need-returns-then-s-eq0
returns-then-s-eq0 c = rw c.if-s-eq0.true (least_root_is (record { above = omega arith; least = λ k h. omega arith }))

root_within-requires : tie.Need-root_within-requires
root_within-requires c κs = search rules

returns-then-s-le65536 : tie.Need-returns-then-s-le65536
returns-then-s-le65536 c = search rules

near_root-parts-requires : tie.Need-near_root-parts-requires
near_root-parts-requires c κs = search rules

float_to_bits-g : tie.Need-float_to_bits-g
float_to_bits-g c = itself_no_nan _ c.if-parts.true

overflow_mul-square : tie.Need-overflow_mul-square
overflow_mul-square c = Fits-le (square_small _) (Fits-lit tt)

overflow_sub-s : tie.Need-overflow_sub-s
overflow_sub-s c = search rules

overflow_mul-g : tie.Need-overflow_mul-g
overflow_mul-g c = search rules

overflow_add-g : tie.Need-overflow_add-g
overflow_add-g c = search rules

overflow_add-result : tie.Need-overflow_add-result
overflow_add-result c = search rules

returns-then-s-square : tie.Need-returns-then-s-square
returns-then-s-square c = least_root_up _ _ c.if-square-s.true c.if-s-square.true

overflow_add-square : tie.Need-overflow_add-square
overflow_add-square c = Fits-le (gap_small _ _) (Fits-lit tt)

overflow_mul-g-else-square-s : tie.Need-overflow_mul-g-else-square-s
overflow_mul-g-else-square-s c = search rules

returns-then-square-s-2 : tie.Need-returns-then-square-s-2
returns-then-square-s-2 c = least_root_down _ _ c.if-square-s.false c.if-square-s-2.true

root_within-requires-2 : tie.Need-root_within-requires-2
root_within-requires-2 c κs = search rules

returns : tie.Need-returns
returns c = search rules

pub least_root_spec : {M : Type 1} → statement M
least_root_spec = tie.close (tie.spec returns-then-s-eq0 root_within-requires returns-then-s-le65536 near_root-parts-requires
    float_to_bits-g overflow_mul-square overflow_sub-s overflow_mul-g overflow_add-g overflow_add-result returns-then-s-square
    overflow_add-square overflow_mul-g-else-square-s returns-then-square-s-2 root_within-requires-2 returns)
