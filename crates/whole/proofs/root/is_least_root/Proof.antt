-- `is_least_root` is right because the least root is the number whose square reaches s while the square before does not.
use borrow.Author.Rules.{rules}
use mathlib.Core.Path.{sym, ap, ◌∙◌}
use Prim.Native.Nat.{ℕ, ◌-◌, ◌≤◌}
use native.Mathlib.Nat.{pos_of_ne-zero}
use native.Mathlib.Omega.{arith}
use borrow.Author.Tests.{ne_eqb}
use lib.Dec.{eqb}
use Rattle.whole.specs.Root.{least_root}
use Rattle.whole.specs.laws.Root.{least_root_lem, root_test_zero, root_test_low, root_test}
use Rattle.whole.specs.laws.Squares.{square_le}
use Rattle.whole.proofs.root.is_least_root.Statement.{statement}
use Rattle.whole.proofs.root.is_least_root.Tie as tie

returns-then-q-eq0 : tie.Need-returns-then-q-eq0
returns-then-q-eq0 c = let s = c.args.s in root_test_zero s ∙ ap (λ (q : ℕ). eqb q (least_root s)) (sym c.if-q-eq0.true)

returns-then-q-gt-MOST_ROOT : tie.Need-returns-then-q-gt-MOST_ROOT
returns-then-q-gt-MOST_ROOT c =
    let s = c.before.before in
    let bound : least_root s.args.s ≤ 4194304 = (least_root_lem s.args.s).least 4194304 (omega (arith, s.requires)) in
    sym (ne_eqb s.args.q (least_root s.args.s) (λ e. omega arith))

overflow_sub-less : tie.Need-overflow_sub-less
overflow_sub-less c = search rules

overflow_mul-less : tie.Need-overflow_mul-less
overflow_mul-less c = omega (arith, square_le {m = c.args.q - 1} {n = 4194304} (omega arith))

returns-then-s-less : tie.Need-returns-then-s-less
returns-then-s-less c = sym (root_test_low _ _ (pos_of_ne-zero c.if-q-eq0.false) (omega (arith, c.if-s-less.true)))

overflow_mul-result : tie.Need-overflow_mul-result
overflow_mul-result c = omega (arith, square_le {m = c.args.q} {n = 4194304} (omega arith))

returns : tie.Need-returns
returns c = root_test _ _ (pos_of_ne-zero c.if-q-eq0.false) (omega (arith, c.if-s-less.false))

pub is_least_root_spec : {M : Type 1} → statement M
is_least_root_spec = tie.close (tie.spec returns-then-q-eq0 returns-then-q-gt-MOST_ROOT overflow_sub-less overflow_mul-less
    returns-then-s-less overflow_mul-result returns)
