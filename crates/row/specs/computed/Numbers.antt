-- A line of plain numbers, in bytes, for a reader that is a program.
use Rattle.std.specs.Prelude.{ℕ, ◌+◌, ◌*◌, Bool, cond, List, [], ◌∷◌, leb, ℤ, length, ◌≤◌, None, Some, IfSome}
use Rattle.std.specs.declared.option.Option.{Option}
use Rattle.row.specs.Decimal.{signed_decimal}
use Rattle.row.specs.Lines.{line}
use Rattle.row.specs.computed.Buffer.{placed}
use Rattle.row.specs.computed.Puts.{Puts}

abbrev pub number_fields : List ℤ → List (List ℕ)
number_fields [] = []
number_fields (v ∷ vs) = signed_decimal v ∷ number_fields vs

-- one blank between, and LF after the last
abbrev pub numbers_line : List ℤ → List ℕ
numbers_line vs = line (number_fields vs)

-- 22 bytes from the place on for each number, with its sign and the byte after it, and once more
abbrev pub has_room_for : (count : ℕ) (buffer : List ℕ) (at : ℕ) → Bool
has_room_for count buffer at = leb (at + 22 * (count + 1)) (length buffer)

-- with room the line is placed; else the buffer is as it was
abbrev pub buffer_with : List ℤ → (buffer : List ℕ) (at : ℕ) → List ℕ
buffer_with vs buffer at = cond (has_room_for (length vs) buffer at) (placed (numbers_line vs) buffer at) buffer

abbrev pub place_with : List ℤ → (buffer : List ℕ) (at : ℕ) → Option ℕ
place_with vs buffer at = cond (has_room_for (length vs) buffer at) (Some (at + length (numbers_line vs))) None

abbrev pub PutsNumbers : List ℤ → (old : List ℕ) (at : ℕ) (new : List ℕ) (next : ℕ) → Type 0
PutsNumbers vs old at new next = Puts (numbers_line vs) (22 * length vs) old at new next

-- the place after a line lies in the buffer, or is its end
abbrev pub EndsIn : (buffer : List ℕ) → Option ℕ → Type 0
EndsIn buffer place = IfSome place (λ at. at ≤ length buffer)
