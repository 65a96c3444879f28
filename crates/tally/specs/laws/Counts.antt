-- The counts of a tally: what their test says, and that those after one more line fit.
use Rattle.std.specs.Prelude.{◌≡◌, true, ℕ, ◌+◌, ◌*◌, ◌^◌, ◌≤◌, ◌<◌}
use Rattle.std.proofs.Common.{arith, leb-true, ltb-true, le-leb, lt-ltb}
use Rattle.whole.specs.laws.Test.{both, joined}
use Rattle.row.specs.computed.Long.{low_limit}
use Rattle.reader.specs.computed.Reader.{longest_text}
use Rattle.tally.specs.declared.Tally.{Tally}
use Rattle.tally.specs.computed.Tally.{most_block_cycles, most_block_ticks, counts_right}

pub record Counts (t : Tally) : Type 0 where
  pub lines : t.lines ≤ longest_text
  pub blocks : t.blocks ≤ t.lines
  pub cycles : t.cycles ≤ most_block_cycles * t.lines
  pub high : t.ticks.high ≤ t.lines
  pub low : t.ticks.low < low_limit

pub counts : (t : Tally) → counts_right t ≡ true → Counts t
unfolding counts_right
counts t e =
    let l = both e in
    let b = both l.1 in
    let c = both b.1 in
    let h = both c.1 in
    record {
      lines = leb-true _ _ l.0;
      blocks = leb-true _ _ b.0;
      cycles = leb-true _ _ c.0;
      high = leb-true _ _ h.0;
      low = ltb-true t.ticks.low low_limit h.1;
    }

pub counts_test : (t : Tally) → Counts t → counts_right t ≡ true
unfolding counts_right
counts_test t c =
    joined (le-leb _ _ c.lines)
    (joined (le-leb _ _ c.blocks)
    (joined (le-leb _ _ c.cycles) (joined (le-leb _ _ c.high) (lt-ltb t.ticks.low low_limit c.low))))

-- with what one block of k cycles and n ticks adds
pub record Room (t : Tally) (k n : ℕ) : Type 0 where
  pub lines : t.lines + 1 < 2 ^ 64
  pub blocks : t.blocks + 1 < 2 ^ 64
  pub cycles : t.cycles + k < 2 ^ 64
  pub low : t.ticks.low < low_limit
  pub few : n < low_limit
  pub high : t.ticks.high + 1 < 2 ^ 32

pub room : (t : Tally) (k n : ℕ) → counts_right t ≡ true → k ≤ most_block_cycles → n ≤ most_block_ticks → Room t k n
room t k n e few short =
    let c = counts t e in
    record {
      lines = omega (arith, c.lines);
      blocks = omega (arith, c.lines, c.blocks);
      cycles = omega (arith, c.lines, c.cycles);
      low = c.low;
      few = omega arith;
      high = omega (arith, c.lines, c.high);
    }
