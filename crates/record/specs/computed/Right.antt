-- The tests by which the code knows a sound record's words: those in front and those of each block are the words of what they tell, which
-- it knows by the values that `encode_of` gives; and from block to block the queue's own test.
use Rattle.std.specs.Prelude.{Bool, true, cond, ◌&&◌, List, [], ℕ, zero, suc, ◌+◌, ◌-◌, min, eqb, ℤ, pos}
use Rattle.whole.specs.Equal.{equal_z}
use Rattle.plane.specs.declared.point.Point.{Point}
use Rattle.plane.specs.declared.travel.Travel.{Travel}
use Rattle.block.specs.Block.{block_cycles}
use Rattle.block.specs.Chain.{end_after, chain_cycles}
use Rattle.queue.specs.Queue.{waiting}
use Rattle.queue.specs.computed.Queue.{queue_sound}
use Rattle.queue.specs.computed.Test.{fits}
use Rattle.settings.specs.Settings.{capacity_of}
use Rattle.bench.specs.declared.Bench.{Bench}
use Rattle.machine.specs.computed.Machine.{waiting_right}
use Rattle.encoding.specs.Words.{abi, at, count_of, head_of, work_words_of}
use Rattle.encoding.specs.computed.Words.{head_in, work_words_in, same_words}
use Rattle.encoding.specs.computed.Right.{is_count, head_right, work_right}
use Rattle.record.specs.declared.read.Figures.{Figures}
use Rattle.record.specs.declared.read.BlockWords.{BlockWords}
use Rattle.record.specs.Words.{figures_of, front_of, seven_of, block_words_of}
use Rattle.record.specs.computed.Words.{waiting_of, block_words_in, waiting_in, queue_in, figures_in}
use Rattle.record.specs.computed.Words.{len_in, bench_in}

-- ---- the words in front

unfoldable pub is_front : List ℤ → Bool
is_front ws =
    same_words (front_of (at ws 0) (head_in ws) (work_words_in ws) (figures_in ws) [])
    (front_of abi (head_of (bench_in ws)) (work_words_of (bench_in ws).work)
    (figures_of (count_of (at ws 19)) (count_of (at ws 20)) (len_in ws)) [])

unfoldable pub figures_right : Figures → Bool
figures_right f = is_count f.root && (is_count f.left && is_count f.len)

unfoldable pub front_right : List ℤ → Bool
front_right ws = equal_z (at ws 0) abi && (head_right (head_in ws) && (work_right (work_words_in ws) && figures_right (figures_in ws)))

-- ---- the words of a block that waits

unfoldable pub block_row_right : BlockWords → Bool
block_row_right b = same_words (seven_of b []) (seven_of (block_words_of (waiting_of b)) [])

abbrev pub kind_right : BlockWords → Bool
kind_right b =
    cond (equal_z b.kind (pos 1)) (equal_z b.i (pos 0) && equal_z b.j (pos 0))
    (cond (equal_z b.kind (pos 2)) true (equal_z b.kind (pos 3)))

unfoldable pub block_right : BlockWords → Bool
block_right b = is_count b.feed && (is_count b.root && kind_right b)

-- so many from the i-th place on
unfoldable pub are_blocks : List ℤ → (i count : ℕ) → Bool
are_blocks ws i zero = true
are_blocks ws i (suc n) = block_row_right (block_words_in ws i) && are_blocks ws (i + 1) n

-- and each fits behind the one before, and their cycles are the count
unfoldable pub row_right : (q0 : ℕ) → Travel → List ℤ → (start : Point) (count i n : ℕ) → Bool
row_right q0 t ws start count i zero = eqb count 0
row_right q0 t ws start count i (suc n) =
    let w = waiting_in ws i in
    (block_row_right (block_words_in ws i) && fits q0 t start w count)
    && row_right q0 t ws (end_after start w.block) (count - block_cycles start w.block) (i + 1) n

-- so many blocks that wait behind one that ends here: their words are right, they are sound, and they take so many cycles
abbrev pub row_sound : (q0 : ℕ) → Travel → List ℤ → (len : ℕ) (from : Point) (cycles : ℕ) → Bool
row_sound q0 t ws len from cycles =
    are_blocks ws 0 (min len 16) && (queue_sound q0 t from (queue_in ws len) && eqb cycles (chain_cycles from (waiting (queue_in ws len))))

-- what waits behind this bench
abbrev pub waiting_sound : List ℤ → Bench → Bool
waiting_sound ws k =
    are_blocks ws 0 (min (len_in ws) 16)
    && waiting_right (capacity_of k.settings) k.settings.travel k.at k.work (count_of (at ws 19)) (count_of (at ws 20))
    (queue_in ws (len_in ws))
