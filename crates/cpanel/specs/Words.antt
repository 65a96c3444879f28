-- How far a panel's check has come as 10 words beside its bench's, signed numbers of 64 bits: those of a check's progress, with the bytes
-- that the text may still have where a check has its place; and how many bytes of the line being read the scratch buffer holds.
use Rattle.std.specs.Prelude.{List, [], ◌∷◌, ◌++◌, ℕ, ℤ, take}
use Rattle.bench.specs.declared.Bench.{Bench}
use Rattle.job.specs.declared.Check.{Check}
use Rattle.encoding.specs.Words.{word_of, count_of, at}
use Rattle.progress.specs.Progress.{encode_progress, check_in}
use Rattle.panel.specs.declared.PanelCheck.{PanelCheck}

abbrev pub as_check : PanelCheck → Check
as_check c = record { stage = c.stage; at = c.left; tally = c.tally }

unfoldable pub encode_panel : PanelCheck → List ℤ
encode_panel c = encode_progress (as_check c) ++ (word_of c.held ∷ [])

-- ---- and back: what the words tell, whatever they are

abbrev pub panel_of : Check → (held : ℕ) → PanelCheck
panel_of c held = record { stage = c.stage; left = c.at; held = held; tally = c.tally }

-- the panel's check at this bench that the words tell, if they are one's at all
unfoldable pub panel_in : Bench → List ℤ → PanelCheck
panel_in m ws = panel_of (check_in m (take 9 ws)) (count_of (at ws 9))
