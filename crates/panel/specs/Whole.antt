-- 02 §5: "the whole lines before byte 65,537".
use Rattle.std.specs.Prelude.{Bool, true, false, List, [], ◌∷◌, ℕ, suc, eqb, take}
use Rattle.job.specs.Text.{lines_of}

abbrev pub count_one : (lf : Bool) → ℕ → ℕ
count_one true n = suc n
count_one false n = n

-- how many LFs (byte 10) these bytes have
unfoldable pub lfs_in : (bytes : List ℕ) → ℕ
lfs_in [] = 0
lfs_in (b ∷ s) = count_one (eqb b 10) (lfs_in s)

-- A line is whole before byte 65,537 if its LF stands before it: so the first lines of the text are, as many as LFs stand there. The line
-- after these holds the byte.
unfoldable pub whole_lines : (text : List ℕ) → List (List ℕ)
whole_lines text = take (lfs_in (take 65536 text)) (lines_of text)
