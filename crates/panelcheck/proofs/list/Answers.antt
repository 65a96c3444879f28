use Rattle.std.proofs.Common.{rules, ◌≡◌, sym, ◌∙◌, ℕ, ◌-◌, ◌≤◌, List, length, take, drop, arith, length-take}
use Rattle.panelcheck.specs.laws.Turn.{turn_input, turn_piece}
use Rattle.panelcheck.proofs.list.Goals as goal

-- what is left of a piece
part : (from len : ℕ) (piece : List ℕ) → length (take (len - from) (drop from piece)) ≤ len - from
part from len piece = omega (arith, length-take (len - from) (drop from piece))

pub loop-scratch-smaller-then-used_up : goal.loop-scratch-smaller-then-used_up
loop-scratch-smaller-then-used_up c =
    let l = c.loop-scratch in
    turn_input l.check l.from l.len c.in-Ok.got l.last (sym c.used_up.ensures ∙ c.if-used_up.true)

pub loop-scratch-preserved-then-used_up : goal.loop-scratch-preserved-then-used_up
loop-scratch-preserved-then-used_up c =
    let i = c.loop-scratch.invariant in
    record {
      scratch_size = i.scratch_size;
      piece_size = search rules;
      rows_size = i.rows_size;
      ordered = omega arith;
      within = omega (arith, c.in-Ok.ensures, i.piece_size);
      room = i.room;
    }

pub loop-scratch-smaller : goal.loop-scratch-smaller
loop-scratch-smaller c =
    let l = c.loop-scratch in
    let i = l.invariant in
    turn_piece l.check l.scratch l.piece l.rows l.from l.len l.last l.waiting
    (sym c.is_over.ensures ∙ c.loop-scratch-test.true)
    i.scratch_size i.ordered (omega (arith, i.piece_size, i.within)) (omega (arith, i.rows_size, i.room))
    (sym c.used_up.ensures ∙ c.if-used_up.false) c.read-done.ensures _

pub loop-scratch-preserved : goal.loop-scratch-preserved
loop-scratch-preserved c =
    let l = c.loop-scratch in
    let i = l.invariant in
    let rows : 1792 ≡ length c.read-done.new.rows = search rules in
    let room = c.in_ok-waiting.ensures in
    record {
      scratch_size = search rules;
      piece_size = i.piece_size;
      rows_size = rows;
      ordered = omega (arith, i.piece_size, i.ordered, i.within, c.read-done.ensures.took, part l.from l.len l.piece);
      within = i.within;
      room = omega (arith, rows, room (omega (arith, rows)));
    }
