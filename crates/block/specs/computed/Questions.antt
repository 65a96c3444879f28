-- What inner functions know of a block that no question refuses.
use Rattle.std.specs.Prelude.{◌≡◌, true, ℕ}
use Rattle.question.specs.Question.{number_told}
use Rattle.plane.specs.declared.point.Point.{Point}
use Rattle.plane.specs.declared.travel.Travel.{Travel}
use Rattle.plane.specs.Travel.{inside_of}
use Rattle.plane.specs.Point.{Near}
use Rattle.plane.specs.computed.Travel.{Wide}
use Rattle.circle.specs.Circle.{on_circle}
use Rattle.arc.specs.declared.arc.Arc.{Arc}
use Rattle.arc.specs.Centre.{seen_from}
use Rattle.block.specs.declared.Block.{Block}
use Rattle.block.specs.declared.Path.{Path}
use Rattle.block.specs.Questions.{ask_arc, ask_path}

-- the number of the first of 15 and 16 that is answered by no, or 0
abbrev pub arc_no : Travel → Arc → (start : Point) → ℕ
arc_no t a start = number_told (ask_arc t a start)

-- the number of the first of 13 to 16 that is answered by no, or 0
abbrev pub path_no : Travel → (start : Point) → Block → Path → ℕ
path_no t start b p = number_told (ask_path t start b p)

-- what the code asks of an arc that begins at a start in travel
pub record Begins (t : Travel) (start : Point) (a : Arc) : Type 0 where
  pub wide : Wide t
  pub start_in : inside_of t start ≡ true
  pub end_in_lem : inside_of t a.end ≡ true
  pub centre : Near 2000000 a.centre
  pub on : on_circle a.square (seen_from a.centre start) ≡ true
