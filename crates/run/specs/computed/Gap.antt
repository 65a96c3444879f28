-- From cycle to cycle, for the contracts of inner functions; no contract that a caller reads rests on it.
use Rattle.std.specs.Prelude.{◌≡◌, cond, List, ◌++◌, ℕ, ◌+◌, ◌-◌, ◌*◌, ◌/◌, ◌^◌, ◌≤◌, ◌<◌, eqb, ltb, drop, replicate}
use Rattle.circle.specs.declared.step.Move.{Move}
use Rattle.circle.specs.declared.step.Move.TheVariants.{Rise, Slant, Fall}
use Rattle.run.specs.declared.gap.Gap.{Gap}
use Rattle.run.specs.declared.gap.Divided.{Divided}

-- the ticks without a cycle before the next cycle, of this due, and the remainder after the tick that does it; none where the due is there
-- already
unfoldable pub gap_of : (due a r : ℕ) → Gap
gap_of due a r = let g = (due - 1 - r) / a in record { ticks = g; remainder = r + g * a + a - due }

-- a due by what a tick adds, and what is over
unfoldable pub divided_of : (due a : ℕ) → Divided
divided_of due a = record { whole = due / a; over = due - due / a * a }

-- below which remainder a divided due tells the next gap: what a tick adds; with one whole tick the greatest number of 64 bits
unfoldable pub limit_of : (a : ℕ) → Divided → ℕ
limit_of a d = cond (eqb d.whole 1) 18446744073709551615 a

-- a gap that is counted from d ticks earlier
abbrev pub later : (d : ℕ) → Gap → Gap
later d g = record { ticks = d + g.ticks; remainder = g.remainder }

-- the gap after a gap's cycle, to a cycle of this due
unfoldable pub next_gap : (due a : ℕ) → Gap → Gap
next_gap due a g = later (g.ticks + 1) (gap_of due a g.remainder)

-- the remainder after n ticks, none of which does the gap's cycle: the feeds from there to the cycle are taken off again
unfoldable pub remainder_at : (due a : ℕ) → Gap → (n : ℕ) → ℕ
remainder_at due a g n = g.remainder + due - (g.ticks + 1 - n) * a

-- n where a is below b, else 0; and a number chosen by the move
abbrev pub if_less : (a b n : ℕ) → ℕ
if_less a b n = cond (ltb a b) n 0

abbrev pub by_move : Move → (straight diagonal : ℕ) → ℕ
by_move Rise straight diagonal = straight
by_move Slant straight diagonal = diagonal
by_move Fall straight diagonal = straight

-- what `remainder_at` asks: n ticks are no more than lead to the cycle, and the sums fit
pub record Before (due a : ℕ) (g : Gap) (n : ℕ) : Type 0 where
  pub within : n ≤ g.ticks + 1
  pub early : g.ticks + 1 < 2 ^ 64
  pub small : g.remainder + due < 2 ^ 64
  pub off : (g.ticks + 1 - n) * a ≤ g.remainder + due

-- what `arc_gap` asks: the dues of a straight step and of a diagonal one are divided, and the sums fit
pub record ArcGap (q0 a : ℕ) (straight diagonal : Divided) (g : Gap) : Type 0 where
  pub some : 1 ≤ a
  pub most : a ≤ 1000 * q0
  pub capacity : q0 ≤ 1200000000
  pub is_straight : straight ≡ divided_of (1000 * q0) a
  pub is_diagonal : diagonal ≡ divided_of (1414 * q0) a
  pub rest : g.remainder ≤ 1696800000000
  pub early : g.ticks + 4000000000000 < 2 ^ 64

-- a buffer with its first n bytes made 0
unfoldable pub cleared_of : (n : ℕ) (out : List ℕ) → List ℕ
cleared_of n out = replicate n 0 ++ drop n out
