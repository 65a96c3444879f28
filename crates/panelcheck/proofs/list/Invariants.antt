-- Each turn brings a byte or the end of the text, and leaves fewer calls; or it reads, and the next turn brings what it read.
use Rattle.std.proofs.Common.{◌≡◌, ℕ, ◌+◌, ◌≤◌, List, length}
use Rattle.row.specs.computed.Buffer.{line_room}
use Rattle.panelcheck.specs.computed.Rows.{turns_left}
use Rattle.panelcheck.proofs.list.Given as goal

-- the buffers keep their sizes, and what is left of the piece and what waits lies within them
pub record Holds (scratch piece rows : List ℕ) (from len waiting : ℕ) : Type 0 where
  pub scratch_size : 81 ≡ length scratch
  pub piece_size : 1024 ≡ length piece
  pub rows_size : 1792 ≡ length rows
  pub ordered : from ≤ len
  pub within : len ≤ 1024
  pub room : waiting + line_room ≤ 1792

abbrev pub invariant-loop-scratch : goal.invariant-loop-scratch
invariant-loop-scratch l = Holds l.scratch l.piece l.rows l.from l.len l.waiting

abbrev pub decreases-loop-scratch : goal.decreases-loop-scratch
decreases-loop-scratch l = turns_left l.check l.from l.len l.last
