-- 01, Questions, "Job text": the lines of a text. "LF (byte 10)"; "A last line may lack its LF."
use Rattle.std.specs.Prelude.{Bool, true, false, List, [], ◌∷◌, ℕ, eqb}

-- a byte in front of the first line; where no line is left it begins the last one, which lacks its LF
abbrev pub in_front : ℕ → List (List ℕ) → List (List ℕ)
in_front b [] = (b ∷ []) ∷ []
in_front b (l ∷ ls) = (b ∷ l) ∷ ls

abbrev pub line_or : (lf : Bool) (b : ℕ) → List (List ℕ) → List (List ℕ)
line_or true b ls = [] ∷ ls
line_or false b ls = in_front b ls

-- the lines without their LF; after a final LF there is no further line
unfoldable pub lines_of : List ℕ → List (List ℕ)
lines_of [] = []
lines_of (b ∷ s) = line_or (eqb b 10) b (lines_of s)
