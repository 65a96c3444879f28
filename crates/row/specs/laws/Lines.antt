-- The lines of the listing: none takes more than 128 bytes.
use Rattle.std.specs.Prelude.{ℕ, ◌+◌, ◌^◌, ◌≤◌, ◌<◌, ◌≡◌, List, [], ◌∷◌, length, ℤ}
use Rattle.std.proofs.Common.{◌∙◌, arith, length-append, Fits, SFits}
use Rattle.std.specs.Int.{w64}
use Rattle.row.specs.declared.lines.Kind.{Kind}
use Rattle.row.specs.Lines.{line, block_line, total_line, refused_line}
use Rattle.row.specs.laws.Decimal.{digits_below, digits_most, signed_most}

-- each field and the byte after it
abbrev widths : List (List ℕ) → ℕ
widths [] = 0
widths (f ∷ fs) = length f + 1 + widths fs

line_length : (f : List ℕ) (fs : List (List ℕ)) → length (line (f ∷ fs)) ≡ widths (f ∷ fs)
line_length f [] = length-append f (10 ∷ []) ∙ omega arith
line_length f (g ∷ fs) = rw (length-append, length-append, line_length g fs)

pub block_length : (block text_line : ℕ) (kind : Kind) (cycles : ℕ) (x y : ℤ) (bits : ℕ)
    → Fits w64 block → Fits w64 text_line → Fits w64 cycles → SFits w64 x → SFits w64 y → Fits w64 bits
    → length (block_line block text_line kind cycles x y bits) ≤ 128
block_length block text_line kind cycles x y bits b l c p q w =
    rw line_length
    (omega (
      arith,
      digits_most block b,
      digits_most text_line l,
      digits_most cycles c,
      signed_most x p,
      signed_most y q,
      digits_most bits w,
    ))

pub total_length : (blocks cycles ticks : ℕ) → Fits w64 blocks → Fits w64 cycles → ticks < 10 ^ 30
    → length (total_line blocks cycles ticks) ≤ 79
total_length blocks cycles ticks b c t =
    rw line_length (omega (arith, digits_most blocks b, digits_most cycles c, digits_below ticks 29 t))

pub refused_length : (text_line number : ℕ) → Fits w64 text_line → Fits w64 number → length (refused_line text_line number) ≤ 55
refused_length text_line number l n = rw line_length (omega (arith, digits_most text_line l, digits_most number n))
