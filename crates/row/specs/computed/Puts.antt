-- A piece of a line put into a buffer: where it stands, and that the rest of the buffer stays.
use Rattle.std.specs.Prelude.{ℕ, ◌+◌, ◌≤◌, ◌≡◌, List, length}
use Rattle.row.specs.computed.Buffer.{placed}

-- new is old with the line at a place; the next place is after the line, at most k further on, and within the buffer
pub record Puts (line : List ℕ) (k : ℕ) (old : List ℕ) (at : ℕ) (new : List ℕ) (next : ℕ) : Type 0 where
  pub buffer : new ≡ placed line old at
  pub place : next ≡ at + length line
  pub most : next ≤ at + k
  pub within : next ≤ length old
  pub len : length new ≡ length old
