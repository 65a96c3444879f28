-- `root_width` is right because the nearest root is at most k exactly where n is at most k * k + k.
use borrow.Author.Rules.{rules}
use mathlib.Core.Path.{◌≡◌, ap}
use Prim.Native.Nat.{ℕ, ◌+◌, ◌-◌, ◌*◌, ◌/◌, ◌%◌, ◌^◌, ◌≤◌}
use native.Mathlib.Nat.{mul-le-mul, mod-eq_of_lt}
use native.Mathlib.Omega.{arith}
use lib.Pow.{pow_pos, pow_mono}
use mir.Syntax.{w64}
use mir.Val.{Fits}
use Rattle.whole.specs.Width.{width_of}
use Rattle.whole.specs.laws.Width.{width_least, root_width_half, root_width_more}
use Rattle.whole.proofs.width.root_width.Statement.{statement}
use Rattle.whole.proofs.width.root_width.Tie as tie

-- a shift by half the bits of a word at most is a power of two, and the product fits
module _ (w : ℕ) (h : w ≤ 64) where
  abbrev top : ℕ
  top = 2 ^ ((w + 1) / 2)

  small : top ≤ 2 ^ 32
  small = pow_mono {j = 32} (omega arith)

  top_is : 1 * top % 2 ^ 64 ≡ top
  top_is = let e : 1 * top ≡ top = omega arith in rw e (mod-eq_of_lt (omega (arith, small)))

  product_fits : Fits w64 ((top - 1) * top)
  product_fits = omega (arith, mul-le-mul {n₁ = top - 1} {n₂ = 2 ^ 32 - 1} (omega (arith, small)) small)

-- the width of a word
word : (c : tie.After-width) → c.width.result ≤ 64
word c = rw c.width.ensures (width_least c.args.n 64 c.ranges.n.fits)

half_is : (c : tie.After-width) → (c.width.result + 1) / 2 ≡ (width_of c.args.n + 1) / 2
half_is c = ap (λ (t : ℕ). (t + 1) / 2) c.width.ensures

width-requires : tie.Need-width-requires
width-requires c κs = search rules

overflow_add-half : tie.Need-overflow_add-half
overflow_add-half c = omega (arith, word c)

overflow_shl-top : tie.Need-overflow_shl-top
overflow_shl-top c = omega (arith, word c)

overflow_sub-top : tie.Need-overflow_sub-top
overflow_sub-top c = rw (top_is c.width.result (word c)) (pow_pos _)

overflow_mul-top : tie.Need-overflow_mul-top
overflow_mul-top c = rw (top_is c.width.result (word c)) (product_fits c.width.result (word c))

overflow_add-result : tie.Need-overflow_add-result
overflow_add-result c = search rules

returns-then-n-top : tie.Need-returns-then-n-top
returns-then-n-top c =
    let w = c.before in
    root_width_half w.args.n _ (half_is w) (rw (top_is w.width.result (word w)) at c.if-n-top.true)

returns-else-n-top : tie.Need-returns-else-n-top
returns-else-n-top c =
    let w = c.before in
    root_width_more w.args.n _ (half_is w) (rw (top_is w.width.result (word w)) at c.if-n-top.false)

pub root_width_spec : {M : Type 1} → statement M
root_width_spec = tie.close (tie.spec width-requires overflow_add-half overflow_shl-top overflow_sub-top overflow_mul-top
    overflow_add-result returns-then-n-top returns-else-n-top)
