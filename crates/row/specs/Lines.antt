-- The lines of the listing, in bytes.
use Rattle.std.specs.Prelude.{ℕ, List, [], ◌∷◌, ◌++◌, ℤ}
use Rattle.row.specs.declared.lines.Kind.{Kind}
use Rattle.row.specs.declared.lines.Kind.TheVariants.{Line, Arc}
use Rattle.row.specs.Decimal.{decimal, signed_decimal}

-- Fields, one blank (byte 32) between, and LF (byte 10) after the last.
abbrev pub line : List (List ℕ) → List ℕ
line [] = 10 ∷ []
line (f ∷ []) = f ++ (10 ∷ [])
line (f ∷ g ∷ fs) = (f ++ (32 ∷ [])) ++ line (g ∷ fs)

-- 01, The check program: "block line kind cycles x y bits"
abbrev pub header_fields : List (List ℕ)
header_fields =
    (98 ∷ 108 ∷ 111 ∷ 99 ∷ 107 ∷ [])  -- block
    ∷ (108 ∷ 105 ∷ 110 ∷ 101 ∷ [])  -- line
    ∷ (107 ∷ 105 ∷ 110 ∷ 100 ∷ [])  -- kind
    ∷ (99 ∷ 121 ∷ 99 ∷ 108 ∷ 101 ∷ 115 ∷ [])  -- cycles
    ∷ (120 ∷ [])  -- x
    ∷ (121 ∷ [])  -- y
    ∷ (98 ∷ 105 ∷ 116 ∷ 115 ∷ [])  -- bits
    ∷ []

-- "L or A"
abbrev pub kind_letter : Kind → ℕ
kind_letter Line = 76
kind_letter Arc = 65

-- "Fields: block number, text line, L or A, cycles, absolute end, register width"
abbrev pub block_fields : (block text_line : ℕ) (kind : Kind) (cycles : ℕ) (x y : ℤ) (bits : ℕ) → List (List ℕ)
block_fields block text_line kind cycles x y bits =
    decimal block
    ∷ decimal text_line
    ∷ (kind_letter kind ∷ [])
    ∷ decimal cycles
    ∷ signed_decimal x
    ∷ signed_decimal y
    ∷ decimal bits
    ∷ []

-- "the last line gives blocks, cycles and ticks": "total 2 4737 284220"
abbrev pub total_fields : (blocks cycles ticks : ℕ) → List (List ℕ)
total_fields blocks cycles ticks =
    (116 ∷ 111 ∷ 116 ∷ 97 ∷ 108 ∷ [])  -- total
    ∷ decimal blocks
    ∷ decimal cycles
    ∷ decimal ticks
    ∷ []

-- "At a refusal the rows so far stand and the last line is `line 3 refused 15` with its own numbers."
abbrev pub refused_fields : (text_line number : ℕ) → List (List ℕ)
refused_fields text_line number =
    (108 ∷ 105 ∷ 110 ∷ 101 ∷ [])  -- line
    ∷ decimal text_line
    ∷ (114 ∷ 101 ∷ 102 ∷ 117 ∷ 115 ∷ 101 ∷ 100 ∷ [])  -- refused
    ∷ decimal number
    ∷ []

-- ---- the lines

abbrev pub header_line : List ℕ
header_line = line header_fields

abbrev pub block_line : (block text_line : ℕ) (kind : Kind) (cycles : ℕ) (x y : ℤ) (bits : ℕ) → List ℕ
block_line block text_line kind cycles x y bits = line (block_fields block text_line kind cycles x y bits)

abbrev pub total_line : (blocks cycles ticks : ℕ) → List ℕ
total_line blocks cycles ticks = line (total_fields blocks cycles ticks)

abbrev pub refused_line : (text_line number : ℕ) → List ℕ
refused_line text_line number = line (refused_fields text_line number)
