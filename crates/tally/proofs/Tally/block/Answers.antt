-- `block` is right because it prints what `finish` gives and adds it to the totals, which have room for it.
use borrow.Author.Rules.{rules}
use Rattle.tally.proofs.Tally.block.Goals as goal
use mir.Syntax.{w64}
use mir.Val.{SFits}
use mir.Facts.{to_z-of_z}
use mathlib.Core.Path.{◌≡◌, refl, ◌∙◌}
use mathlib.Core.Bool.{true}
use mathlib.Core.List.{List}
use Prim.Native.Nat.{ℕ, ◌+◌}
use native.Mathlib.Omega.{arith}
use Rattle.bench.specs.declared.Bench.{Bench}
use Rattle.row.specs.Lines.{block_line}
use Rattle.row.specs.laws.Buffer.{block_short}
use Rattle.finish.specs.declared.Finished.{Finished}
use Rattle.finish.specs.computed.Finish.{finish_of}
use Rattle.finish.specs.laws.Record.{cycles_most, ticks_most}
use Rattle.tally.specs.declared.Tally.{Tally}
use Rattle.tally.specs.computed.Tally.{counts_right, block_listed}
use Rattle.tally.specs.laws.Counts.{Room, room}
use Rattle.tally.specs.laws.Read.{written, goes_on}

-- the totals have room for the block
has_room_lem :
    (t : Tally) (m : Bench) (f : Finished) → counts_right t ≡ true → f ≡ finish_of m → Room t f.cycles f.ticks
has_room_lem t m f right is = rw is (room t _ _ right (cycles_most m) (ticks_most m))

pub overflow_add-row : goal.overflow_add-row
overflow_add-row c = omega (arith, (has_room_lem c.args.self _ _ c.requires.0 c.finish-done.ensures).blocks)

pub overflow_add-row-2 : goal.overflow_add-row-2
overflow_add-row-2 c = omega (arith, (has_room_lem c.args.self _ _ c.requires.0 c.finish-done.ensures).lines)

pub overflow_add-result : goal.overflow_add-result
overflow_add-result c = omega (arith, (has_room_lem c.args.self _ _ c.requires.0 c.finish-done.ensures).lines)

pub overflow_add-result-2 : goal.overflow_add-result-2
overflow_add-result-2 c = omega (arith, (has_room_lem c.args.self _ _ c.requires.0 c.finish-done.ensures).blocks)

pub overflow_add-result-3 : goal.overflow_add-result-3
overflow_add-result-3 c = omega (arith, (has_room_lem c.args.self _ _ c.requires.0 c.finish-done.ensures).cycles)

pub plus-requires : goal.plus-requires
plus-requires c = let r = has_room_lem c.args.self _ _ c.requires.0 c.finish-done.ensures in (r.low, r.few, r.high)

pub returns-clause-gives : goal.returns-clause-gives
unfolding block_listed
returns-clause-gives c =
    let s = c.args in
    let f = c.finish-done.result in
    let x : SFits w64 f.bench.at.x = search rules in
    let y : SFits w64 f.bench.at.y = search rules in
    -- the row, with the end's numbers as the code holds them
    let line : List ℕ =
    block_line (s.self.blocks + 1) (s.self.lines + 1) c.kind_of.result f.cycles f.bench.at.x f.bench.at.y s.bits in
    let r : Room s.self f.cycles f.ticks = has_room_lem s.self _ f c.requires.0 c.finish-done.ensures in
    let short =
    block_short (s.self.blocks + 1) (s.self.lines + 1) c.kind_of.result f.cycles f.bench.at.x f.bench.at.y s.bits
    (omega (arith, r.blocks)) (omega (arith, r.lines)) (omega (arith, r.cycles)) (search rules) (search rules)
    (search rules) in
    let buffer_is = simp to_z-of_z at c.block-place.ensures.buffer in
    let place_is = simp to_z-of_z at c.block-place.ensures.place in
    let room = c.requires.1 in
    rw (← c.finish-done.ensures)
    (record {
      short = rw (← c.kind_of.ensures) short;
      buffer = rw (← c.kind_of.ensures) (buffer_is ∙ written line s.out.now s.at room);
      next = rw (← c.kind_of.ensures) (c.unwrap_or.ensures ∙ goes_on line s.out.now s.at room place_is);
      over = refl;
      tally = rw c.plus.ensures;
    })
