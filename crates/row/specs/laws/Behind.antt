-- A number written from its last digit to its first: what the loop of `push::digits` keeps.
use Rattle.std.specs.Prelude.{ℕ, ◌+◌, ◌/◌, ◌%◌, ◌≤◌, ◌<◌, ◌≡◌, List, [], ◌∷◌, ◌++◌, length, set}
use Rattle.std.proofs.Common.{sym, ◌∙◌, append-nil, arith}
use Rattle.std.proofs.Math.Seq.{append_snoc}
use Rattle.row.specs.Decimal.{digit, decimal}
use Rattle.row.specs.laws.Decimal.{decimal_small, decimal_large, length_small, length_large}
use Rattle.row.specs.computed.Puts.{Puts}
use Rattle.row.specs.laws.Puts.{puts_none, puts_before}

-- the digits of n are those of m and then a text; the text stands in the buffer up to the end, and before it there is room for those of m
pub record Behind (n : ℕ) (old : List ℕ) (at end : ℕ) (new : List ℕ) (m from : ℕ) : Type 0 where
  pub text : List ℕ
  pub all : decimal n ≡ decimal m ++ text
  pub room : from ≡ at + length (decimal m)
  pub puts : Puts text (length text) old from new end

-- before the first turn
pub behind_none : (n : ℕ) (old : List ℕ) (at end : ℕ) → end ≡ at + length (decimal n) → end ≤ length old → Behind n old at end old n end
behind_none n old at end e h = record { text = []; all = sym (append-nil (decimal n)); room = e; puts = puts_none old end h }

module _ {n : ℕ} {old : List ℕ} {at end : ℕ} {new : List ℕ} {m from : ℕ} (b : Behind n old at end new m from) where
  -- a turn puts the last digit of m before the text
  pub behind_more : (i : ℕ) → from ≡ i + 1 → 10 ≤ m → Behind n old at end (set new i (digit (m % 10))) (m / 10) i
  behind_more i e h = record {
    text = digit (m % 10) ∷ b.text;
    all = b.all ∙ rw (decimal_large m h, append_snoc);
    room = omega (arith, length_large m h, b.room);
    puts = puts_before i (digit (m % 10)) e b.puts;
  }

  -- and the one digit that is left is the first
  pub behind_all : m < 10 → Puts (decimal n) (length (decimal n)) old at (set new at (digit m)) end
  behind_all h =
      rw (b.all, decimal_small m h) (puts_before at (digit m) (omega (arith, length_small m h, b.room)) b.puts)
