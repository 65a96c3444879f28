-- The machine's record read from its words, whatever they are, and the test of these words.
use Rattle.std.specs.Prelude.{Bool, cond, ◌&&◌, List, [], ◌∷◌, ◌++◌, ℕ, zero, suc, ◌+◌, ◌-◌, ◌*◌, min, eqb, ℤ, length, take, replicate}
use Rattle.circle.specs.declared.plane.Turn.{Turn}
use Rattle.block.specs.declared.Path.{Path}
use Rattle.queue.specs.declared.Queue.{Queue}
use Rattle.queue.specs.declared.Waiting.{Waiting}
use Rattle.queue.specs.Queue.{blank}
use Rattle.bench.specs.declared.Bench.{Bench}
use Rattle.machine.specs.declared.Machine.{Machine}
use Rattle.machine.specs.computed.Machine.{sound_of}
use Rattle.encoding.specs.Words.{count_of, at}
use Rattle.encoding.specs.computed.Words.{work_read, head_in, work_words_in, same_words}
use Rattle.encoding.specs.computed.Words.{bench_of as bench_of}
use Rattle.record.specs.declared.read.Figures.{Figures}
use Rattle.record.specs.declared.read.BlockWords.{BlockWords}
use Rattle.record.specs.Words.{block_words, encode_of}

-- ---- what the words tell, whatever they are

abbrev pub path_read : BlockWords → Path
path_read b =
    cond (eqb (count_of b.kind) 2) (Path.Arc Turn.Clockwise (record { x = b.i; y = b.j }))
    (cond (eqb (count_of b.kind) 3) (Path.Arc Turn.Counterclockwise (record { x = b.i; y = b.j })) Path.Line)

unfoldable pub waiting_of : BlockWords → Waiting
waiting_of b =
    record {
      block = record { path = path_read b; end = record { x = b.x; y = b.y }; feed = count_of b.feed };
      root = count_of b.root;
    }

-- the i-th place's words
abbrev pub block_words_in : List ℤ → (i : ℕ) → BlockWords
block_words_in ws i =
    let n = 22 + 7 * i in
    block_words (at ws n) (at ws (n + 1)) (at ws (n + 2)) (at ws (n + 3)) (at ws (n + 4)) (at ws (n + 5)) (at ws (n + 6))

abbrev pub waiting_in : List ℤ → (i : ℕ) → Waiting
waiting_in ws i = waiting_of (block_words_in ws i)

-- so many places from the i-th on
unfoldable pub places_in : List ℤ → (i count : ℕ) → List Waiting
places_in ws i zero = []
places_in ws i (suc n) = waiting_in ws i ∷ places_in ws (i + 1) n

-- a length above 16 is told as it is, so that it is not sound
abbrev pub queue_in : List ℤ → (len : ℕ) → Queue
queue_in ws len = record { blocks = places_in ws 0 (min len 16) ++ replicate (16 - len) blank; len = len }

abbrev pub figures_in : List ℤ → Figures
figures_in ws = record { root = at ws 19; left = at ws 20; len = at ws 21 }

-- how many wait
abbrev pub len_in : List ℤ → ℕ
len_in ws = count_of (at ws 21)

unfoldable pub bench_in : List ℤ → Bench
bench_in ws = bench_of (head_in ws) (work_read (work_words_in ws))

unfoldable pub machine_in : List ℤ → Machine
machine_in ws = record { bench = bench_in ws; root = count_of (at ws 19); left = count_of (at ws 20); queue = queue_in ws (len_in ws) }

-- Words are a record if those in front are the words of the machine that they tell. So another layout's number, a mark that is neither 0
-- nor 1, a kind that there is not, an unused word that is not 0 and a negative count make no record.
unfoldable pub is_record : List ℤ → Bool
is_record ws = let own = encode_of (machine_in ws) in same_words (take (length own) ws) own

-- "Any call on a record: is it sound? 9.": they are a record, and it is sound
unfoldable pub sound_words : List ℤ → Bool
sound_words ws = is_record ws && sound_of (machine_in ws)
