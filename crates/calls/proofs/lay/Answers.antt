use Rattle.std.proofs.Common.{arith, length, ◌<◌, ◌≡◌}
use Rattle.std.proofs.Math.Seq.{paste-zero}
use borrow.Author.Rules.{rules}
use lib.IntN.{pos}
use lib.ListN.{get_or}
use mir.Facts.{to_z-of_z}
use mir.Syntax.{w64}
use mir.Val.{SFits}
use Rattle.calls.specs.laws.Make.{lay_step, all_laid}
use Rattle.calls.proofs.lay.Goals as goal

pub loop-i-init : goal.loop-i-init
loop-i-init c = paste-zero c.args.words.now 0 c.args.front.now

pub loop-i-preserved : goal.loop-i-preserved
loop-i-preserved c =
    let l = c.loop-i in
    let a = c.args in
    let inside : l.i < length a.words.now = omega (arith, c.told-words, c.loop-i-test.true) in
    let held : l.i < length a.front.now = omega (arith, c.told-front, c.loop-i-test.true) in
    let fits : SFits w64 (get_or a.front.now l.i (pos 0)) = search rules in
    rw (to_z-of_z fits) (lay_step a.words.now a.front.now l.i inside held l.invariant)

pub returns : goal.returns
returns c =
    let l = c.loop-i in
    let all : l.i ≡ 19 = omega (arith, l.auto.i-end, c.loop-i-test.false) in
    all_laid c.args.words.now c.args.front.now c.told-front all l.invariant
