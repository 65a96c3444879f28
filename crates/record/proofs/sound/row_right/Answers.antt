-- `row_right` is right because what is left to test after some blocks is the same test.
use Rattle.std.proofs.Common.{refl, sym, ◌∙◌, true}
use Rattle.block.proofs.laws.Accepted.{yes}
use Rattle.queue.specs.laws.Test.{fits_has}
use Rattle.record.specs.laws.Right.{row_long, row_tested, row_end, wrong_words, wrong_block, fitting, counted}
use Rattle.record.proofs.sound.row_right.Goals as goal

pub returns-then-len-gt16 : goal.returns-then-len-gt16
returns-then-len-gt16 c = sym (row_long _ _ _ _ _ _ c.if-len-gt16.true)

pub loop-place-init : goal.loop-place-init
loop-place-init c = record { wide = c.requires.0; inside = c.requires.1; same = refl }

pub returns-then-not-is_block : goal.returns-then-not-is_block
returns-then-not-is_block c =
    let l = c.loop-place in
    row_tested _ _ _ _ _ _ c.if-len-gt16.false
    (l.invariant.same
    ∙ wrong_words _ _ _ _ l.left l.place _ c.loop-place-test.true c.block_words_in-b.ensures c.is_block.ensures c.if-not-is_block.true)

pub take_off-requires : goal.take_off-requires
take_off-requires c = let v = c.loop-place.invariant in (v.wide, v.inside)

pub returns-in_default : goal.returns-in_default
returns-in_default c =
    let l = c.loop-place in
    row_tested _ _ _ _ _ _ c.if-len-gt16.false
    (l.invariant.same
    ∙ wrong_block _ _ _ _ l.left l.place _ c.loop-place-test.true c.block_words_in-b.ensures c.is_block.ensures c.if-not-is_block.false
    c.waiting_of-w.ensures c.in_default.ensures)

pub loop-place-preserved : goal.loop-place-preserved
loop-place-preserved c =
    let l = c.loop-place in
    let ws = c.args.words.now in
    record {
      wide = l.invariant.wide;
      inside = (yes _ _ true _ _ (fits_has _ _ _ _ _ (fitting _ _ ws _ l.left l.place _ c.loop-place-test.true c.block_words_in-b.ensures
          c.is_block.ensures c.if-not-is_block.false c.waiting_of-w.ensures c.in-Some.ensures)).asked).end_in_lem;
      same = l.invariant.same
          ∙ counted _ _ _ _ l.left l.place _ c.loop-place-test.true c.block_words_in-b.ensures c.is_block.ensures c.if-not-is_block.false
          c.waiting_of-w.ensures c.in-Some.ensures;
    }

pub returns : goal.returns
returns c =
    let l = c.loop-place in
    row_tested _ _ _ _ _ _ c.if-len-gt16.false (l.invariant.same ∙ row_end _ _ _ _ l.left l.place _ c.loop-place-test.false)
