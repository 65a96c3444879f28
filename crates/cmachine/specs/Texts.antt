-- The number by which a text line answers a caller in C.
use Rattle.std.specs.Prelude.{ℤ, pos}
use Rattle.reader.specs.declared.text_line.Read.{Read}
use Rattle.encoding.specs.Words.{word_of, refusal_of}

-- the register width of the block that the line loaded; 0 where it makes none
abbrev pub read_number : Read → ℤ
read_number Read.Nothing = pos 0
read_number (Read.Loaded n) = word_of n
read_number (Read.Refused n) = refusal_of n
