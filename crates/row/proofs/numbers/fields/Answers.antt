use Rattle.std.proofs.Common.{rules, arith, ◌-◌, ◌≡◌, ◌<◌, pos, length, get_or, take, SFits, length-take-le}
use Rattle.std.specs.Int.{w64}
use Rattle.std.proofs.lemmas.List.{get_or-take}
use mir.Facts.{to_z-of_z}
use Rattle.row.specs.laws.Numbers.{written_none, written_more, written_last}
use Rattle.row.proofs.numbers.fields.Goals as goal

pub loop-n-init : goal.loop-n-init
loop-n-init c = written_none _ _ _ c.requires.0 (omega (arith, c.requires.1))

pub loop-n-preserved : goal.loop-n-preserved
loop-n-preserved c =
    let numbers = c.args.numbers.now in
    let i = c.loop-n.n-index in
    let most = length numbers - 1 in
    let size = length-take-le most numbers (omega arith) in
    let before : i < most = omega (arith, size, c.loop-n-test.true) in
    let here : get_or (take most numbers) i (pos 0) ≡ get_or numbers i (pos 0) = get_or-take most numbers i (pos 0) before in
    let f : SFits w64 (get_or numbers i (pos 0)) = search rules in
    written_more c.loop-n.invariant (omega (arith, before)) (simp (here, to_z-of_z) at c.signed-next.ensures)

pub returns : goal.returns
returns c =
    let numbers = c.args.numbers.now in
    let w = c.loop-n.invariant in
    let f : SFits w64 (get_or numbers (length numbers - 1) (pos 0)) = search rules in
    let size = length-take-le (length numbers - 1) numbers (omega arith) in
    let last : c.loop-n.n-index ≡ length numbers - 1 = omega (arith, c.loop-n-test.false, size, w.some) in
    written_last w (omega (arith, last, c.requires.0)) (simp (to_z-of_z, ← last) at c.signed.ensures)
