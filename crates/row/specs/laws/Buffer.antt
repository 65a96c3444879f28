-- For programs that write lines into a buffer: every line fits, and what the buffer holds after one.
use Rattle.std.specs.Prelude.{ℕ, ◌+◌, ◌^◌, ◌≤◌, ◌<◌, ◌≡◌, ℤ}
use Rattle.std.proofs.Math.Path.{sym, ap}
use Rattle.std.proofs.Common.{◌∙◌, arith, length-drop, Fits, SFits}
use mathlib.Core.List.{List, ◌++◌, append_assoc}
use Rattle.std.proofs.Math.ListN.{length, take, drop, length-append, length-take}
use Rattle.std.proofs.Math.Seq.{take_at, drop_at, drop-drop}
use Rattle.std.specs.Int.{w64}
use Rattle.row.specs.declared.lines.Kind.{Kind}
use Rattle.row.specs.Lines.{header_line, block_line, total_line, refused_line}
use Rattle.row.specs.declared.long.LongCount.{LongCount}
use Rattle.row.specs.computed.Buffer.{line_room, placed}
use Rattle.row.specs.computed.Long.{long_of}
use Rattle.row.specs.laws.Lines.{block_length, total_length, refused_length}

-- ---- there is room for every line

pub header_short : length header_line ≤ line_room
header_short = omega arith

pub block_short : (block text_line : ℕ) (kind : Kind) (cycles : ℕ) (x y : ℤ) (bits : ℕ)
    → Fits w64 block → Fits w64 text_line → Fits w64 cycles → SFits w64 x → SFits w64 y → Fits w64 bits
    → length (block_line block text_line kind cycles x y bits) ≤ line_room
block_short block text_line kind cycles x y bits b l c p q w = omega (arith, block_length block text_line kind cycles x y bits b l c p q w)

pub total_short : (blocks cycles : ℕ) (ticks : LongCount) → Fits w64 blocks → Fits w64 cycles → ticks.low < 2 ^ 64 → ticks.high < 2 ^ 32
    → length (total_line blocks cycles (long_of ticks)) ≤ line_room
total_short blocks cycles ticks b c l h = omega (arith, total_length blocks cycles (long_of ticks) b c (omega arith))

pub refused_short : (text_line number : ℕ) → Fits w64 text_line → Fits w64 number → length (refused_line text_line number) ≤ line_room
refused_short text_line number l n = omega (arith, refused_length text_line number l n)

-- ---- the buffer after a line that fits

module _ (line old : List ℕ) (at : ℕ) (fits : at + length line ≤ length old) where
  front_length : length (take at old ++ line) ≡ at + length line
  front_length = simp (length-append, length-take) (omega arith)

  pub placed_length : length (placed line old at) ≡ length old
  unfolding placed
  placed_length = simp (length-append, length-take, length-drop) (omega arith)

  -- before the next place stands what stood before the line, and the line
  pub placed_front : take (at + length line) (placed line old at) ≡ take at old ++ line
  unfolding placed
  placed_front = take_at (take at old ++ line) _ (at + length line) front_length

  -- and from there on what stood there
  pub placed_rest : drop (at + length line) (placed line old at) ≡ drop (at + length line) old
  unfolding placed
  placed_rest = drop_at (take at old ++ line) _ (at + length line) front_length

  -- two texts, one after the other, are one
  pub placed_join : (more : List ℕ) → placed more (placed line old at) (at + length line) ≡ placed (line ++ more) old at
  unfolding placed
  placed_join more =
      let skip : drop (at + length line + length more) (placed line old at) ≡ drop (at + length line + length more) old =
      sym (drop-drop (length more) (at + length line) (placed line old at)) ∙ ap (drop (length more)) placed_rest
      ∙ drop-drop (length more) (at + length line) old in
      let long : at + length (line ++ more) ≡ at + length line + length more = simp length-append (omega arith) in
      rw (long, ← append_assoc (take at old) line more)
      (ap (λ (s : List ℕ). s ++ more ++ drop (at + length line + length more) (placed line old at)) placed_front
      ∙ ap (λ (s : List ℕ). take at old ++ line ++ more ++ s) skip)
