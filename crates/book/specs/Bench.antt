-- 01, "The book of a history": what the book holds of the block in work, and what a tick and a run do with it, by the charges of 02 §2.
-- The feed capacity q0 is a setting and never changes.
use Rattle.std.specs.Prelude.{Bool, true, false, cond, List, [], ◌∷◌, ℕ, zero, suc, ◌+◌, ◌-◌, ◌*◌, min, leb, eqb, pos, length}
use Rattle.plane.specs.declared.point.Point.{Point}
use Rattle.plane.specs.Pulse.{pulses_between}
use Rattle.plane.specs.Byte.{cycle_byte}
use Rattle.divider.specs.declared.Fed.{Fed}
use Rattle.divider.specs.Divider.{fed_of, added_at}
use Rattle.block.specs.declared.Block.{Block}
use Rattle.block.specs.Block.{block_cycles, block_point}
use Rattle.block.specs.Chain.{end_after}
use Rattle.block.specs.Charge.{block_charge}

-- "It holds a point, a mark, a remainder and the block in work with its start and its cycles done c."
pub record BlockInWork : Type 0 where
  pub block : Block
  pub start : Point
  pub done : ℕ

pub data InWork : Type 0 where
  nothing : InWork
  working : BlockInWork → InWork

pub record Bench : Type 0 where
  pub at : Point
  pub mark : Bool
  pub remainder : ℕ
  pub work : InWork

-- "It begins as a fresh machine": "A fresh machine stands at (0, 0), idle, not held, remainder 0."
abbrev pub fresh_bench : Bench
fresh_bench = record { at = record { x = pos 0; y = pos 0 }; mark = false; remainder = 0; work = nothing }

abbrev pub is_nothing : InWork → Bool
is_nothing nothing = true
is_nothing (working j) = false

-- where the block in work ends, else the point
abbrev pub end_in : (at : Point) → InWork → Point
end_in at nothing = at
end_in at (working j) = end_after j.start j.block

abbrev pub work_end : Bench → Point
work_end b = end_in b.at b.work

-- the cycles that the block in work has still to do
abbrev pub left_in : InWork → ℕ
left_in nothing = 0
left_in (working j) = block_cycles j.start j.block - j.done

-- "the block comes into work with c 0", at the point
abbrev pub begun : Bench → Block → Bench
begun b k = record { at = b.at; mark = b.mark; remainder = b.remainder; work = working (record { block = k; start = b.at; done = 0 }) }

-- 01, "The remainder grows by f."; 02 §2, "A tick adds 1,000 × f."
abbrev pub added_by : Block → ℕ
added_by k = added_at k.feed

-- 01, "If it is then q0 or more, q0 comes off"; 02 §2, "A cycle is due when the remainder reaches its charge times q0, at most one a tick."
-- The charge is that of the cycle to come, the one after those done.
abbrev pub cycle_due : (q0 : ℕ) → BlockInWork → ℕ
cycle_due q0 j = block_charge j.start j.block j.done * q0

-- ---- tick

-- what a tick gives: its byte and the bench after it
pub record Ticked : Type 0 where
  pub byte : ℕ
  pub after : Bench

abbrev pub resting : Bench → Ticked
resting b = record { byte = 0; after = b }

-- ".. c grows by 1 and the point becomes the one of "Lines" or "Arcs" after c cycles. At c = k the block has ended and nothing is in work.
-- The byte tells the pulses, the cycle and the end, coded as under "Ticks and runs"."
unfoldable pub cycle_tick : Bench → BlockInWork → (remainder : ℕ) → Ticked
cycle_tick b j r =
    let c = j.done + 1 in
    let at = block_point j.start j.block c in
    let last = eqb c (block_cycles j.start j.block) in
    record {
      byte = cycle_byte (pulses_between b.at at) last;
      after = record {
        at = at;
        mark = b.mark;
        remainder = r;
        work = cond last nothing (working (record { block = j.block; start = j.start; done = c }));
      };
    }

-- after the divider's tick: a working tick without a cycle has byte 0
abbrev pub fed_tick : Bench → BlockInWork → Fed → Ticked
fed_tick b j f =
    cond f.cycle (cycle_tick b j f.remainder)
    (record { byte = 0; after = record { at = b.at; mark = b.mark; remainder = f.remainder; work = b.work } })

-- "Tick: with a block and no mark it is a working tick. .. Any other tick gives 0 and changes nothing."
abbrev pub tick_with : (q0 : ℕ) → Bench → InWork → Ticked
tick_with q0 b nothing = resting b
tick_with q0 b (working j) = cond b.mark (resting b) (fed_tick b j (fed_of (cycle_due q0 j) (added_by j.block) b.remainder))

unfoldable pub bench_tick : (q0 : ℕ) → Bench → Ticked
bench_tick q0 b = tick_with q0 b b.work

-- ---- run

-- the ticks of a run: their bytes, the bench after them, and whether the last ended the block
pub record TicksDone : Type 0 where
  pub bytes : List ℕ
  pub last : Bench
  pub ended : Bool

-- a tick in front of what follows, of which there is nothing where the tick ended the block
abbrev pub in_front : (ended : Bool) → Ticked → TicksDone → TicksDone
in_front true t s = record { bytes = t.byte ∷ []; last = t.after; ended = true }
in_front false t s = record { bytes = t.byte ∷ s.bytes; last = s.last; ended = s.ended }

-- "Run: ticks until the budget or the buffer is used up or the block ends"
unfoldable pub ticks_done : (q0 : ℕ) → (most : ℕ) → Bench → TicksDone
ticks_done q0 zero b = record { bytes = []; last = b; ended = false }
ticks_done q0 (suc n) b = let t = bench_tick q0 b in in_front (is_nothing t.after.work) t (ticks_done q0 n t.after)

pub data Report : Type 0 where
  idle held ended spent full : Report

-- 01, Ticks and runs: "else ended, spent or full, the first that is true"
abbrev pub report_of : (block_ended budget_used : Bool) → Report
report_of true budget_used = ended
report_of false true = spent
report_of false false = full

-- what a run gives: its report, its bytes and the bench after it
pub record Ran : Type 0 where
  pub report : Report
  pub bytes : List ℕ
  pub after : Bench

abbrev pub ran_over : (budget : ℕ) → TicksDone → Ran
ran_over budget s = record { report = report_of s.ended (leb budget (length s.bytes)); bytes = s.bytes; after = s.last }

-- ".. none if idle or held": "It answers idle or held (idle first) with 0 ticks"
abbrev pub run_with : (q0 : ℕ) → Bench → InWork → (budget buffer : ℕ) → Ran
run_with q0 b nothing budget buffer = record { report = idle; bytes = []; after = b }
run_with q0 b (working j) budget buffer =
    cond b.mark (record { report = held; bytes = []; after = b }) (ran_over budget (ticks_done q0 (min budget buffer) b))

unfoldable pub bench_run : (q0 : ℕ) → Bench → (budget buffer : ℕ) → Ran
bench_run q0 b budget buffer = run_with q0 b b.work budget buffer
