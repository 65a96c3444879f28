use Rattle.std.proofs.Common.{arith, ℕ, suc, ◌+◌, ◌-◌, ◌^◌, ◌<◌, ◌%◌, ◌≡◌, le_refl}
use Rattle.row.specs.laws.Long.{last_none, last_more, last_all, tenth_below}
use Rattle.row.proofs.push.last_digits.Goals as goal

pub loop-i-init : goal.loop-i-init
loop-i-init c =
    let a = c.args in
    let places : a.at + a.count - a.at ≡ a.count = omega arith in
    (last_none a.count a.n a.out.now a.at c.requires.0, omega (arith, c.requires.1), rw places c.requires.2)

-- what is left, once one place is left for it
last_one : (at i m : ℕ) → i ≡ at + 1 → m < 10 ^ (i - at) → m < 10
last_one at i m e h = let one : i - at ≡ 1 = omega arith in let small : m < 10 ^ 1 = rw one at h in omega arith

pub loop-i-preserved : goal.loop-i-preserved
loop-i-preserved c =
    let i = c.loop-i.i in
    let at = c.args.at in
    let v = c.loop-i.invariant in
    let places : i - at ≡ suc (i - 1 - at) = omega arith in (
      last_more (i - 1) v.0 (omega arith) (omega arith),
      omega arith,
      tenth_below (i - 1 - at) c.loop-i.rest (rw places at v.2),
    )

pub overflow_cast-out-2 : goal.overflow_cast-out-2
overflow_cast-out-2 c =
    let v = c.loop-i.invariant in
    let here : c.loop-i.i ≡ c.args.at + 1 = omega (arith, v.1) in
    omega (arith, last_one c.args.at c.loop-i.i c.loop-i.rest here v.2)

pub overflow_add-out-2 : goal.overflow_add-out-2
overflow_add-out-2 c =
    let v = c.loop-i.invariant in
    let here : c.loop-i.i ≡ c.args.at + 1 = omega (arith, v.1) in
    omega (arith, last_one c.args.at c.loop-i.i c.loop-i.rest here v.2)

pub returns : goal.returns
returns c =
    let at = c.args.at in
    let v = c.loop-i.invariant in
    let here : c.loop-i.i ≡ at + 1 = omega (arith, v.1) in
    let small = last_one at c.loop-i.i c.loop-i.rest here v.2 in
    let same : c.loop-i.rest % 10 ≡ c.loop-i.rest = omega arith in
    rw same at (last_all (last_more at v.0 here (le_refl at)) (le_refl at))
