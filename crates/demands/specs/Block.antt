-- 01, "Questions, and the number when the answer is no": load's questions, by the unit of feed numbers, the settings and the place where
-- the block starts.
use Rattle.std.specs.Prelude.{◌≡◌, ◌≢◌, ℕ, ◌≤◌, nat_abs}
use Rattle.plane.specs.declared.point.Point.{Point}
use Rattle.circle.specs.declared.plane.Offset.{Offset}
use Rattle.circle.specs.declared.plane.Turn.{Turn}
use Rattle.circle.specs.Circle.{Circle}
use Rattle.arc.specs.Centre.{seen_from, back_from}
use Rattle.block.specs.declared.Block.{Block}
use Rattle.block.specs.declared.Path.{Path}
use Rattle.block.specs.Block.{square_of, arc_of}
use Rattle.settings.specs.declared.Settings.{Settings}
use Rattle.settings.specs.Settings.{capacity_at}
use Rattle.demands.specs.Asked.{Questions, none, question}
use Rattle.demands.specs.Bench.{InTravel, FeedRight, VisitsInTravel}

-- "Is f in 1..q0? 11.", both in u-ths of a pulse per minute
abbrev pub BlockFeedRight : (u : ℕ) → Settings → Block → Type 0
BlockFeedRight u s b = FeedRight (capacity_at u s) b.feed

-- "Is the end in travel? 12."
abbrev pub EndInTravel : Settings → Block → Type 0
EndInTravel s b = InTravel s.travel b.end

-- "Line: do start and end differ? 13."
abbrev pub StartAndEndDiffer : (start : Point) → Block → Type 0
StartAndEndDiffer start b = start ≢ b.end

-- "Arc: are I and J within ±1,000,000 and not both 0? 14."
pub record CentreRight (centre : Offset) : Type 0 where
  pub x : nat_abs centre.x ≤ 1000000
  pub y : nat_abs centre.y ≤ 1000000
  pub some : ¬ ((nat_abs centre.x ≡ 0) × (nat_abs centre.y ≡ 0))

-- "Is the end a circle point? 15."
abbrev pub EndOnCircle : (start : Point) → Block → (centre : Offset) → Type 0
EndOnCircle start b centre = Circle (square_of centre) (seen_from (back_from start centre) b.end)

-- "Is every visited point in travel? 16."
abbrev pub EveryVisitInTravel : Settings → (start : Point) → Block → Turn → (centre : Offset) → Type 0
EveryVisitInTravel s start b turn centre = VisitsInTravel s.travel (arc_of start b turn centre) start

abbrev pub path_questions : Settings → (start : Point) → Block → Path → Questions
path_questions s start b Path.Line = question 13 (StartAndEndDiffer start b) none
path_questions s start b (Path.Arc turn centre) =
    question 14 (CentreRight centre)
    (question 15 (EndOnCircle start b centre) (question 16 (EveryVisitInTravel s start b turn centre) none))

-- "Load, after 9, in this order"; Room is what 10 asks: whether there is room for the block
abbrev pub block_questions : (u : ℕ) (Room : Type 0) → Settings → (start : Point) → Block → Questions
block_questions u Room s start b =
    question 10 Room (question 11 (BlockFeedRight u s b) (question 12 (EndInTravel s b) (path_questions s start b b.path)))
