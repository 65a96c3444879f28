-- A block at another feed. 02 §4: "The feed number becomes thousandths of a pulse per minute".
use Rattle.std.specs.Prelude.{ℕ, ◌*◌}
use Rattle.block.specs.declared.Block.{Block}

abbrev pub at_feed : (f : ℕ) → Block → Block
at_feed f b = record { path = b.path; end = b.end; feed = f }

-- the same block, its feed number counted in a unit u times as fine
abbrev pub finer : (u : ℕ) → Block → Block
finer u b = at_feed (u * b.feed) b
