-- The test of blocks in a chain, and what inner functions know of blocks that pass it.
use Rattle.std.specs.Prelude.{◌≡◌, Bool, true, ◌&&◌, List, [], ◌∷◌, ℕ, eqb}
use Rattle.plane.specs.declared.point.Point.{Point}
use Rattle.plane.specs.declared.travel.Travel.{Travel}
use Rattle.plane.specs.Travel.{inside_of}
use Rattle.plane.specs.computed.Travel.{Wide}
use Rattle.block.specs.declared.Block.{Block}
use Rattle.block.specs.Questions.{load_no}
use Rattle.block.specs.Chain.{end_after}

-- "only waiting blocks that would be accepted in turn": load's questions, from the end of the block before, but for 10
unfoldable pub chain_accepted : (q0 : ℕ) → Travel → (start : Point) → List Block → Bool
chain_accepted q0 t start [] = true
chain_accepted q0 t start (b ∷ l) = eqb (load_no q0 t true start b) 0 && chain_accepted q0 t (end_after start b) l

-- ---- what the code asks of a block that a load from here would accept

pub record Accepted (start : Point) (b : Block) : Type 0 where
  pub capacity : ℕ
  pub travel : Travel
  pub wide : Wide travel
  pub start_in : inside_of travel start ≡ true
  pub none : load_no capacity travel true start b ≡ 0
