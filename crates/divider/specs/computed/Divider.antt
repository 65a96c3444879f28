-- The feed divider without ticking: many ticks at once, and the tick on which a block ends, for any remainder.
use Rattle.std.specs.Prelude.{cond, ℕ, zero, suc, ◌+◌, ◌-◌, ◌*◌, max}
use Rattle.divider.specs.declared.Fed.{Fed}
use Rattle.divider.specs.declared.Gone.{Gone}
use Rattle.divider.specs.declared.End.{End}
use Rattle.divider.specs.Divider.{fed_of, end_tick}

-- ---- so many working ticks of cycles with these dues, the first of them number 0

-- one tick more: a cycle done makes the next one due
abbrev pub gone_by : (cycles : ℕ) → Fed → Gone
gone_by c f = record { cycles = cond f.cycle (suc c) c; remainder = f.remainder }

unfoldable pub gone_of : (dues : ℕ → ℕ) (added r t : ℕ) → Gone
gone_of d a r zero = record { cycles = 0; remainder = r }
gone_of d a r (suc t) = let g = gone_of d a r t in gone_by g.cycles (fed_of (d g.cycles) a g.remainder)

-- ---- the end of a block, whose dues are together `due`

-- 02 §2: "A block ends on the tick that stepping by this rule gives", whatever the remainder; k are its cycles. Each cycle has a tick of
-- its own, and the sum must reach their dues. `laws/Last.antt` proves that stepping gives this tick, and that from a remainder below the
-- first due, as in a history, it is `end_tick`.
unfoldable pub last_tick : (due added r k : ℕ) → ℕ
last_tick due a r k = max k (end_tick due a r)

-- 01: "The remainder goes over to the next block.": what the ticks have added, less the dues
abbrev pub ending_of : (due added r k : ℕ) → End
ending_of due a r k = let t = last_tick due a r k in record { tick = t; remainder = r + t * a - due }
