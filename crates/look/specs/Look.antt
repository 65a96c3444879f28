-- 02 §1, Where will it be?: "Add a look-ahead of up to 1,000,000 ticks."
use Rattle.std.specs.Prelude.{ℕ}

-- "38: more than 1,000,000 ticks, checked after 9."
abbrev pub most_ticks : ℕ
most_ticks = 1000000
