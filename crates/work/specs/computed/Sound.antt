-- What inner functions know of the feed of what is in work.
use Rattle.std.specs.Prelude.{ℕ, ◌≤◌}

-- a feed that the divider takes
pub record Feed (q0 f : ℕ) : Type 0 where
  pub some : 1 ≤ f
  pub most : f ≤ q0
