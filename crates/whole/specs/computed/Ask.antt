-- The questions of a text line, as numbers. Those of settings and of a block are named: crate question. 01, "Questions, and the number when
-- the answer is no": each question has a number, and "each number comes only from its own "no"".
use Rattle.std.specs.Prelude.{Bool, true, false, ℕ}

-- the next question where the answer is yes, else the number of this one; 0 says that no question was answered by no
abbrev pub ask : (yes : Bool) (next number : ℕ) → ℕ
ask true next number = next
ask false next number = number
