-- What the registers have sent, and what the code asks so that they hold their numbers.
use Rattle.std.specs.Prelude.{cond, ℕ, zero, suc, ◌≤◌, ◌<◌}
use Rattle.line.specs.Register.{pulses_of}

-- the pulses of the first c cycles
unfoldable pub sent_of : (q a c : ℕ) → ℕ
sent_of q a zero = 0
sent_of q a (suc c) = cond (pulses_of q a c) (suc (sent_of q a c)) (sent_of q a c)

-- What the code asks of an axis: a line that moves, no increment beyond q, no cycle beyond the last, and numbers small enough for their
-- products.
pub record AxisFits (q a c : ℕ) : Type 0 where
  pub some : 0 < q
  pub wide : q ≤ 4000000
  pub short : a ≤ q
  pub due : c ≤ q
