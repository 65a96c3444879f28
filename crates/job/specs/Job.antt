-- A job: its blocks, with the text lines that made them, and how it ends. `TextMeans` of crate demands says which job a text is.
use Rattle.std.specs.Prelude.{List, ℕ}
use Rattle.plane.specs.declared.point.Point.{Point}
use Rattle.block.specs.declared.Block.{Block}

-- a block of the job, the text line that made it, and the point where it starts
pub record Made : Type 0 where
  pub text_line : ℕ
  pub start : Point
  pub block : Block

-- how a job ends: read to its last line, or refused at one
pub data End : Type 0 where
  complete : End
  refused : (text_line number : ℕ) → End

pub record Job : Type 0 where
  pub blocks : List Made
  pub end : End
