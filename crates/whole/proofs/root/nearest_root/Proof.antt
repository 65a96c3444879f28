-- `nearest_root` is right because the nearest root is the least root or the number before it, as n lies above their product or not.
use borrow.Author.Rules.{rules}
use Prim.Native.Nat.{◌-◌, ◌^◌, ◌≤◌}
use mathlib.Core.Path.{◌≡◌, sym, ap, ◌∙◌}
use native.Mathlib.Nat.{mul-le-mul, pos_of_ne-zero}
use native.Mathlib.Omega.{arith}
use Rattle.whole.specs.Root.{nearest_root}
use Rattle.whole.specs.laws.Root.{LeastRoot, least_root_lem, nearest_root_zero, nearest_down, nearest_same}
use Rattle.whole.proofs.root.nearest_root.Statement.{statement}
use Rattle.whole.proofs.root.nearest_root.Tie as tie

-- what the call gives is a least root
root : (c : tie.After-least_root-q) → LeastRoot c.args.n c.least_root-q.result
root c = rw c.least_root-q.ensures (least_root_lem c.args.n)

least_root-q-requires : tie.Need-least_root-q-requires
least_root-q-requires c κs = search rules

returns-then-q-eq0 : tie.Need-returns-then-q-eq0
returns-then-q-eq0 c =
    let q_is : c.least_root-q.result ≡ 0 = c.if-q-eq0.true in
    let none : c.args.n ≡ 0 = omega (arith, rw q_is at (root c.before).above) in
    sym (ap nearest_root none ∙ nearest_root_zero)

overflow_sub-down : tie.Need-overflow_sub-down
overflow_sub-down c = search rules

overflow_mul-q : tie.Need-overflow_mul-q
overflow_mul-q c =
    let q = c.least_root-q.result in
    let small : q ≤ 2 ^ 32 = (root c.before).least (2 ^ 32) (omega arith) in
    omega (arith, mul-le-mul {n₁ = q} {m₁ = q - 1} {n₂ = 2 ^ 32} {m₂ = 2 ^ 32 - 1} small (omega arith))

returns-then-n-q : tie.Need-returns-then-n-q
returns-then-n-q c = nearest_down _ _ (root c.before.before) (pos_of_ne-zero c.if-q-eq0.false) c.if-n-q.true

returns-else-n-q : tie.Need-returns-else-n-q
returns-else-n-q c = nearest_same _ _ (root c.before.before) (pos_of_ne-zero c.if-q-eq0.false) c.if-n-q.false

pub nearest_root_spec : {M : Type 1} → statement M
nearest_root_spec = tie.close (tie.spec least_root-q-requires returns-then-q-eq0 overflow_sub-down overflow_mul-q returns-then-n-q
    returns-else-n-q)
