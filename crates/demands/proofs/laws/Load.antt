-- Load's questions of a block: the number by the code's tests is that of the first no.
use Rattle.std.specs.Prelude.{◌≡◌, Bool, true, ◌↔◌, ℕ}
use Rattle.question.specs.declared.Question.{Question}
use Rattle.plane.specs.declared.point.Point.{Point}
use Rattle.plane.specs.Travel.{inside_of}
use Rattle.block.specs.declared.Block.{Block}
use Rattle.block.specs.Questions.{feed_right, load_no, ask_load}
use Rattle.settings.specs.declared.Settings.{Settings}
use Rattle.settings.specs.Settings.{capacity_at}
use Rattle.demands.specs.Block.{block_questions}
use Rattle.demands.proofs.laws.Asked.{Verdict, questioned}
use Rattle.demands.proofs.laws.Bench.{in_range_lem, in_travel}
use Rattle.demands.proofs.laws.Block.{path_verdict}

module _ (s : Settings) (start : Point) (b : Block) where
  pub block_verdict : {Room : Type 0} (u : ℕ) (room : Bool) → (room ≡ true) ↔ Room
      → Verdict (block_questions u Room s start b) (load_no (capacity_at u s) s.travel room start b)
  unfolding ask_load
  block_verdict u room is =
      questioned room Question.Room _ is (λ _.
      questioned (feed_right (capacity_at u s) b.feed) Question.Feed _ (in_range_lem 1 (capacity_at u s) b.feed) (λ _.
      questioned (inside_of s.travel b.end) Question.EndInTravel _ (in_travel s.travel b.end) (λ _.
      path_verdict s start b b.path)))
