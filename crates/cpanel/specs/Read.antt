-- What a read tells a caller in C.
use Rattle.std.specs.Prelude.{Bool, not, List, ℕ, ℤ, pos}
use Rattle.whole.specs.Equal.{equal_z}
use Rattle.panel.specs.declared.Told.{Told}

abbrev pub told_number : Told → ℤ
told_number Told.More = pos 0
told_number Told.Over = pos 1
told_number Told.Short = pos 2

-- whether the text ends with the piece: any number but 0
abbrev pub is_last : ℤ → Bool
is_last z = not (equal_z z (pos 0))

-- its answer, how many bytes it took and wrote, and after it the words of the bench and of the panel, the scratch buffer, whose bytes are
-- free, and the one for rows
pub record ToldRead : Type 0 where
  pub answer : ℤ
  pub took : ℕ
  pub written : ℕ
  pub words : List ℤ
  pub panel : List ℤ
  pub free : List ℕ
  pub rows : List ℕ

abbrev pub tells_read : (answer : ℤ) (took written : ℕ) (words panel : List ℤ) (free rows : List ℕ) → ToldRead
tells_read n took written ws ps free rows =
    record { answer = n; took = took; written = written; words = ws; panel = ps; free = free; rows = rows }

-- an answer after which all is as it was
abbrev pub unchanged : (answer : ℤ) (words panel : List ℤ) (scratch rows : List ℕ) → ToldRead
unchanged n ws ps scratch rows = tells_read n 0 0 ws ps scratch rows
