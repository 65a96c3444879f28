-- 02 §4, "Jobs whose F words have no point": such texts, and the blocks of a job with feed numbers in a unit u times as fine.
use Rattle.std.specs.Prelude.{List, [], ◌∷◌, ℕ}
use Rattle.block.specs.Feed.{finer}
use Rattle.words.specs.Whole.{NoPoint}
use Rattle.job.specs.Text.{lines_of}
use Rattle.job.specs.Job.{Made}

abbrev pub AllWhole : (lines : List (List ℕ)) → Type 0
AllWhole [] = Unit
AllWhole (l ∷ ls) = NoPoint l × AllWhole ls

abbrev pub WholeText : (text : List ℕ) → Type 0
WholeText text = AllWhole (lines_of text)

abbrev pub finer_made : (u : ℕ) → Made → Made
finer_made u m = record { text_line = m.text_line; start = m.start; block = finer u m.block }

abbrev pub finer_blocks : (u : ℕ) → List Made → List Made
finer_blocks u [] = []
finer_blocks u (m ∷ ms) = finer_made u m ∷ finer_blocks u ms
