-- The listing of document 01's example, byte by byte; an empty job, a refusal, an arc to the left.
use Rattle.std.specs.Prelude.{◌≡◌, refl, [], ◌∷◌, pos, negsuc}
use Rattle.std.proofs.Common.{arith}
use Rattle.row.specs.declared.lines.Kind.TheVariants.{Line, Arc}
use Rattle.row.specs.Decimal.{decimal, signed_decimal}
use Rattle.row.specs.laws.Decimal.{decimal_large}
use Rattle.row.specs.Lines.{header_line, block_line, total_line, refused_line}
use Rattle.row.specs.computed.Numbers.{numbers_line}

-- "block line kind cycles x y bits"
pub header : header_line
    ≡ 98 ∷ 108 ∷ 111 ∷ 99 ∷ 107 ∷ 32 ∷ 108 ∷ 105 ∷ 110 ∷ 101 ∷ 32 ∷ 107 ∷ 105 ∷ 110 ∷ 100 ∷ 32 ∷ 99 ∷ 121 ∷ 99 ∷ 108 ∷ 101 ∷ 115
    ∷ 32 ∷ 120 ∷ 32 ∷ 121 ∷ 32 ∷ 98 ∷ 105 ∷ 116 ∷ 115 ∷ 10 ∷ []
unfolding decimal signed_decimal
header = refl

-- "1 1 L 2237 1000 2000 11"
pub first_block : block_line 1 1 Line 2237 (pos 1000) (pos 2000) 11
    ≡ 49 ∷ 32 ∷ 49 ∷ 32 ∷ 76 ∷ 32 ∷ 50 ∷ 50 ∷ 51 ∷ 55 ∷ 32 ∷ 49 ∷ 48 ∷ 48 ∷ 48 ∷ 32 ∷ 50 ∷ 48 ∷ 48 ∷ 48 ∷ 32 ∷ 49 ∷ 49 ∷ 10 ∷ []
unfolding decimal signed_decimal
first_block = refl

-- "2 2 L 2500 2500 4000 11"
pub second_block : block_line 2 2 Line 2500 (pos 2500) (pos 4000) 11
    ≡ 50 ∷ 32 ∷ 50 ∷ 32 ∷ 76 ∷ 32 ∷ 50 ∷ 53 ∷ 48 ∷ 48 ∷ 32 ∷ 50 ∷ 53 ∷ 48 ∷ 48 ∷ 32 ∷ 52 ∷ 48 ∷ 48 ∷ 48 ∷ 32 ∷ 49 ∷ 49 ∷ 10 ∷ []
unfolding decimal signed_decimal
second_block = refl

-- "total 2 4737 284220". The ticks are taken digit by digit: computing a decimal outright takes time that grows with the number.
two : decimal 2 ≡ 50 ∷ []
unfolding decimal
two = refl

cycles : decimal 4737 ≡ 52 ∷ 55 ∷ 51 ∷ 55 ∷ []
unfolding decimal
cycles = refl

first_ticks : decimal 2842 ≡ 50 ∷ 56 ∷ 52 ∷ 50 ∷ []
unfolding decimal
first_ticks = refl

ticks : decimal 284220 ≡ 50 ∷ 56 ∷ 52 ∷ 50 ∷ 50 ∷ 48 ∷ []
ticks = rw (decimal_large 284220 (omega arith), decimal_large 28422 (omega arith), first_ticks)

pub total : total_line 2 4737 284220
    ≡ 116 ∷ 111 ∷ 116 ∷ 97 ∷ 108 ∷ 32 ∷ 50 ∷ 32 ∷ 52 ∷ 55 ∷ 51 ∷ 55 ∷ 32 ∷ 50 ∷ 56 ∷ 52 ∷ 50 ∷ 50 ∷ 48 ∷ 10 ∷ []
total = rw (two, cycles, ticks)

-- "total 0 0 0"
pub empty_job : total_line 0 0 0 ≡ 116 ∷ 111 ∷ 116 ∷ 97 ∷ 108 ∷ 32 ∷ 48 ∷ 32 ∷ 48 ∷ 32 ∷ 48 ∷ 10 ∷ []
unfolding decimal signed_decimal
empty_job = refl

-- "line 3 refused 15"
pub refusal : refused_line 3 15 ≡ 108 ∷ 105 ∷ 110 ∷ 101 ∷ 32 ∷ 51 ∷ 32 ∷ 114 ∷ 101 ∷ 102 ∷ 117 ∷ 115 ∷ 101 ∷ 100 ∷ 32 ∷ 49 ∷ 53 ∷ 10 ∷ []
unfolding decimal signed_decimal
refusal = refl

-- "1 1 A 7 -5 0 3"
pub arc_to_the_left : block_line 1 1 Arc 7 (negsuc 4) (pos 0) 3
    ≡ 49 ∷ 32 ∷ 49 ∷ 32 ∷ 65 ∷ 32 ∷ 55 ∷ 32 ∷ 45 ∷ 53 ∷ 32 ∷ 48 ∷ 32 ∷ 51 ∷ 10 ∷ []
unfolding decimal signed_decimal
arc_to_the_left = refl

-- "-15 0 7", and no number
pub plain_numbers : numbers_line (negsuc 14 ∷ pos 0 ∷ pos 7 ∷ []) ≡ 45 ∷ 49 ∷ 53 ∷ 32 ∷ 48 ∷ 32 ∷ 55 ∷ 10 ∷ []
unfolding decimal signed_decimal
plain_numbers = refl

pub no_number : numbers_line [] ≡ 10 ∷ []
no_number = refl
