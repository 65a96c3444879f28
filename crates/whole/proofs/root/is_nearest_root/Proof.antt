-- `is_nearest_root` is right because the nearest root is the r with r * r - r < n <= r * r + r.
use borrow.Author.Rules.{rules}
use mathlib.Core.Path.{sym, ap, ◌∙◌}
use Prim.Native.Nat.{ℕ, ◌≤◌}
use native.Mathlib.Nat.{pos_of_ne-zero, mul-le-mul}
use native.Mathlib.Omega.{arith}
use borrow.Author.Tests.{ne_eqb}
use lib.Dec.{eqb}
use Rattle.whole.specs.Root.{nearest_root}
use Rattle.whole.specs.laws.Root.{nearest_least, nearest_test_zero, nearest_test_low, nearest_test}
use Rattle.whole.specs.laws.Squares.{square_le}
use Rattle.whole.proofs.root.is_nearest_root.Statement.{statement}
use Rattle.whole.proofs.root.is_nearest_root.Tie as tie

returns-then-r-eq0 : tie.Need-returns-then-r-eq0
returns-then-r-eq0 c = let n = c.args.n in nearest_test_zero n ∙ ap (λ (r : ℕ). eqb r (nearest_root n)) (sym c.if-r-eq0.true)

returns-then-r-gt-MOST_ROOT : tie.Need-returns-then-r-gt-MOST_ROOT
returns-then-r-gt-MOST_ROOT c =
    let s = c.before.before in
    let bound : nearest_root s.args.n ≤ 4194304 = nearest_least s.args.n 4194304 (omega (arith, s.requires)) in
    sym (ne_eqb s.args.r (nearest_root s.args.n) (λ e. omega arith))

overflow_mul-square : tie.Need-overflow_mul-square
overflow_mul-square c = omega (arith, square_le {m = c.args.r} {n = 4194304} (omega arith))

-- r is at most its square
overflow_sub-square : tie.Need-overflow_sub-square
overflow_sub-square c =
    let r = c.args.r in
    omega (arith, mul-le-mul {n₁ = 1} {m₁ = r} {n₂ = r} {m₂ = r} (pos_of_ne-zero c.if-r-eq0.false) (omega arith))

returns-then-n-square : tie.Need-returns-then-n-square
returns-then-n-square c = sym (nearest_test_low _ _ (pos_of_ne-zero c.if-r-eq0.false) (omega (arith, c.if-n-square.true)))

overflow_add-result : tie.Need-overflow_add-result
overflow_add-result c = search rules

returns : tie.Need-returns
returns c = nearest_test _ _ (pos_of_ne-zero c.if-r-eq0.false) (omega (arith, c.if-n-square.false))

pub is_nearest_root_spec : {M : Type 1} → statement M
is_nearest_root_spec = tie.close (tie.spec returns-then-r-eq0 returns-then-r-gt-MOST_ROOT overflow_mul-square overflow_sub-square
    returns-then-n-square overflow_add-result returns)
