-- The words that a call stores; `laws/Write.antt` proves that they are those of the record after it.
use Rattle.std.specs.Prelude.{◌≡◌, true, List, ℕ, zero, suc, ◌+◌, ◌*◌, ◌≤◌, ℤ, pos, drop, set}
use Rattle.std.proofs.Math.Seq.{paste}
use Rattle.plane.specs.declared.point.Point.{Point}
use Rattle.block.specs.declared.Block.{Block}
use Rattle.work.specs.declared.Work.{Work}
use Rattle.work.specs.Work.{begun_of}
use Rattle.work.specs.computed.Asked.{Loadable}
use Rattle.bench.specs.declared.Bench.{Bench}
use Rattle.bench.specs.Bench.{moved_of}
use Rattle.queue.specs.declared.Waiting.{Waiting}
use Rattle.queue.specs.Queue.{empty_queue, pushed_of}
use Rattle.machine.specs.declared.Machine.{Machine}
use Rattle.machine.specs.Machine.{machine_of}
use Rattle.machine.specs.Calls.{beginning}
use Rattle.machine.specs.computed.Asked.{Coming, Taking}
use Rattle.encoding.specs.declared.encode.WorkWords.{WorkWords}
use Rattle.encoding.specs.Words.{word_of, work_words_of}
use Rattle.record.specs.declared.read.BlockWords.{BlockWords}
use Rattle.record.specs.computed.Words.{waiting_in, len_in, bench_in, machine_in, sound_words}

-- ---- what inner code asks of its callers

-- a block that comes into work from here can begin
pub record Bringing (ws : List ℤ) (p : Point) : Type 0 where
  pub most : len_in ws ≤ 16
  pub begins : 1 ≤ len_in ws → (let b = (waiting_in ws 0).block in Loadable p b b.path)

-- what is in work after ticks: nothing any more, or the same but for the cycles done of a line
abbrev pub SameWork : (before after : Work) → Type 0
SameWork w Work.Nothing = Unit {0}
SameWork Work.Nothing (Work.Line l) = ⊥
SameWork (Work.Line k) (Work.Line l) = (k.start ≡ l.start) × (k.end ≡ l.end) × (k.feed ≡ l.feed) × (k.cycles ≡ l.cycles)
SameWork (Work.Arc a) (Work.Line l) = ⊥
SameWork Work.Nothing (Work.Arc b) = ⊥
SameWork (Work.Line l) (Work.Arc b) = ⊥
SameWork (Work.Arc a) (Work.Arc b) = a ≡ b

-- a bench after ticks from a sound record, and the cycles still to do then
pub record Later (ws : List ℤ) (k : Bench) (left : ℕ) : Type 0 where
  pub sound : sound_words ws ≡ true
  pub same : k ≡ moved_of (bench_in ws) k.at k.remainder k.work
  pub follows : SameWork (bench_in ws).work k.work
  pub coming : Coming k (machine_in ws).root left (machine_in ws).queue

-- a block that no question refuses at a sound record with this in work, and where it starts
pub record Loading (ws : List ℤ) (w : Work) (start : Point) (b : Block) : Type 0 where
  pub sound : sound_words ws ≡ true
  pub work : w ≡ (bench_in ws).work
  pub taking : Taking (machine_in ws) start b

-- ---- the words stored

abbrev pub set_place : List ℤ → Point → (remainder : ℕ) → List ℤ
set_place ws p r = set (set (set ws 7 p.x) 8 p.y) 10 (word_of r)

abbrev pub set_work : List ℤ → WorkWords → List ℤ
set_work ws w =
    set (set (set (set (set (set (set (set ws 11 w.kind) 12 w.a) 13 w.b) 14 w.c) 15 w.d) 16 w.e) 17 w.f) 18 w.g

-- the seven words from the n-th on
abbrev pub set_block : List ℤ → (n : ℕ) → BlockWords → List ℤ
set_block ws n b =
    set (set (set (set (set (set (set ws n b.kind) (n + 1) b.x) (n + 2) b.y) (n + 3) b.feed) (n + 4) b.i) (n + 5) b.j)
    (n + 6) b.root

-- the first block that waits goes, and the words of the others move up by seven words
abbrev pub shifted : List ℤ → (others : ℕ) → List ℤ
shifted ws n = paste ws 22 (drop 29 ws) (7 * n)

-- no remainder, nothing to do, none waiting
abbrev pub emptied : List ℤ → List ℤ
emptied ws = set (set (set ws 10 (pos 0)) 20 (pos 0)) 21 (pos 0)

-- a block comes into work from here: the first that waits, of so many
abbrev pub brought_of : List ℤ → Point → (len : ℕ) → List ℤ
brought_of ws p zero = set (set_work ws (work_words_of Work.Nothing)) 19 (pos 0)
brought_of ws p (suc n) =
    let w = waiting_in ws 0 in
    shifted (set (set (set_work ws (work_words_of (begun_of p w.block).work)) 19 (word_of w.root)) 21 (word_of n)) n

-- what ticks change: a line or an arc keeps its numbers but the cycles done
abbrev pub ticked_words : List ℤ → Point → (remainder left : ℕ) → Work → List ℤ
ticked_words ws p r left Work.Nothing = let now = set (set_place ws p r) 20 (word_of left) in brought_of now p (len_in now)
ticked_words ws p r left (Work.Line l) = set (set (set_place ws p r) 20 (word_of left)) 18 (word_of l.done)
ticked_words ws p r left (Work.Arc a) = set (set_place ws p r) 20 (word_of left)

-- ---- the records after a load: the block comes into work, or it waits

abbrev pub working_of : Machine → Work → (root left : ℕ) → Machine
working_of m w root left = record { bench = beginning m.bench w; root = root; left = left; queue = m.queue }

abbrev pub waits_of : Machine → Waiting → (left : ℕ) → Machine
waits_of m w left = record { bench = m.bench; root = m.root; left = left; queue = pushed_of m.queue w }

-- the record after a stop
abbrev pub idle_of : Machine → Machine
idle_of m = machine_of (moved_of m.bench m.bench.at 0 Work.Nothing) empty_queue
