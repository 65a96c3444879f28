use Rattle.std.proofs.Common.{arith, length, ◌+◌, ◌<◌}
use Rattle.std.proofs.Math.Numerals.{add-one}
use Rattle.std.proofs.Math.Seq.{paste-zero, paste-suc}
use Rattle.row.specs.laws.Puts.{puts_text}
use Rattle.row.proofs.push.text.Goals as goal

pub loop-i-init : goal.loop-i-init
loop-i-init c = paste-zero c.args.out.now c.args.at c.args.s.now

pub loop-i-preserved : goal.loop-i-preserved
loop-i-preserved c =
    let l = c.loop-i in
    let a = c.args in
    let inside : a.at + l.i < length a.out.now = omega (arith, c.loop-i-test.true) in
    rw (l.invariant, add-one) (paste-suc a.out.now a.at a.s.now l.i 0 inside c.loop-i-test.true)

pub returns : goal.returns
returns c =
    let l = c.loop-i in
    let a = c.args in
    puts_text a.s.now a.out.now l.out a.at l.i c.requires (omega (arith, c.loop-i-test.false)) l.invariant
