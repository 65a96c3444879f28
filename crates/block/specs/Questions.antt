-- 01, "Questions, and the number when the answer is no": load's own questions, in the paper's order. 0 says that none was answered by no.
use Rattle.std.specs.Prelude.{Bool, ◌&&◌, not, ℕ, leb, eqb, nat_abs, Result, Ok, ⊤}
use Rattle.question.specs.declared.Question.{Question}
use Rattle.question.specs.Question.{ask, number_told}
use Rattle.plane.specs.declared.point.Point.{Point}
use Rattle.plane.specs.declared.travel.Travel.{Travel}
use Rattle.plane.specs.Travel.{inside_of, visits_inside}
use Rattle.circle.specs.declared.plane.Offset.{Offset}
use Rattle.circle.specs.Circle.{on_circle}
use Rattle.line.specs.Line.{differ}
use Rattle.arc.specs.declared.arc.Arc.{Arc}
use Rattle.arc.specs.Centre.{seen_from}
use Rattle.arc.specs.computed.Arc.{arc_after, arc_cycles}
use Rattle.block.specs.declared.Block.{Block}
use Rattle.block.specs.declared.Path.{Path}
use Rattle.block.specs.Block.{arc_of}

-- "Is f in 1..q0? 11."
abbrev pub feed_right : (q0 feed : ℕ) → Bool
feed_right q0 f = leb 1 f && leb f q0

-- "Arc: are I and J within ±1,000,000 and not both 0? 14."
abbrev pub offset_right : Offset → Bool
offset_right o = (leb (nat_abs o.x) 1000000 && leb (nat_abs o.y) 1000000) && not (eqb (nat_abs o.x) 0 && eqb (nat_abs o.y) 0)

-- "Is the end a circle point? 15. Is every visited point in travel? 16."
abbrev pub ask_arc : Travel → Arc → (start : Point) → Result ⊤ Question
ask_arc t a start =
    ask (on_circle a.square (seen_from a.centre a.end))
    (ask (visits_inside t (arc_after a start) (arc_cycles a start)) (Ok tt) Question.VisitsInTravel)
    Question.EndOnCircle

-- "Line: do start and end differ? 13."
abbrev pub ask_path : Travel → (start : Point) → Block → Path → Result ⊤ Question
ask_path t start b Path.Line = ask (differ start b.end) (Ok tt) Question.Moves
ask_path t start b (Path.Arc turn centre) = ask (offset_right centre) (ask_arc t (arc_of start b turn centre) start) Question.Centre

-- "Load, after 9, in this order: is nothing in work? 10. Is f in 1..q0? 11. Is the end in travel? 12." 02 §3: "Question 10 becomes: are
-- fewer than 16 waiting?" Either way it is whether there is room for the block.
unfoldable pub ask_load : (q0 : ℕ) → Travel → (room : Bool) (start : Point) → Block → Result ⊤ Question
ask_load q0 t room start b =
    ask room
    (ask (feed_right q0 b.feed)
    (ask (inside_of t b.end) (ask_path t start b b.path) Question.EndInTravel)
    Question.Feed)
    Question.Room

abbrev pub load_no : (q0 : ℕ) → Travel → (room : Bool) (start : Point) → Block → ℕ
load_no q0 t room start b = number_told (ask_load q0 t room start b)
