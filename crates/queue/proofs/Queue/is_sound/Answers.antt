-- `is_sound` is right because what is left to test after i blocks is the same test.
use Rattle.std.proofs.Common.{rules, refl, sym, ◌∙◌, true}
use Rattle.block.proofs.laws.Accepted.{yes}
use Rattle.queue.specs.laws.Places.{unmap}
use Rattle.queue.specs.laws.Test.{too_long_lem, tested, fits_has, off_some, wrong_one, counted, none_left}
use Rattle.queue.proofs.Queue.is_sound.Goals as goal

pub returns-then-self-gt16 : goal.returns-then-self-gt16
returns-then-self-gt16 c = sym (too_long_lem _ _ _ _ _ c.if-self-gt16.true)

pub loop-w-init : goal.loop-w-init
loop-w-init c = record { wide = c.requires.0; inside = c.requires.1; same = refl }

pub take_off-requires : goal.take_off-requires
take_off-requires c = let v = c.loop-w.invariant in (v.wide, v.inside)

pub returns-in_default : goal.returns-in_default
returns-in_default c =
    let l = c.loop-w in
    tested _ _ _ _ _ (search (unmap, rules)) c.if-self-gt16.false
    (l.invariant.same ∙ wrong_one _ _ _ l.left _ l.w-index c.loop-w-test.true (c.in_default.ensures))

pub loop-w-preserved : goal.loop-w-preserved
loop-w-preserved c =
    let l = c.loop-w in
    let off = c.in-Some.ensures in
    record {
      wide = l.invariant.wide;
      inside = (yes _ _ true _ _ (fits_has _ _ _ _ _ (off_some _ _ _ _ _ off).0).asked).end_in_lem;
      same = l.invariant.same ∙ counted _ _ _ l.left _ l.w-index c.loop-w-test.true off;
    }

pub returns : goal.returns
returns c =
    let l = c.loop-w in
    tested _ _ _ _ _ (search (unmap, rules)) c.if-self-gt16.false
    (l.invariant.same ∙ none_left _ _ _ l.left _ l.w-index c.loop-w-test.false)
