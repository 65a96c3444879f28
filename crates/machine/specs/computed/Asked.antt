-- What inner code computes, and what it asks of its callers.
use Rattle.std.specs.Prelude.{◌≡◌, true, false, cond, ◌&&◌, Option, Some, None, ℕ, ◌-◌, leb, eqb, ltb, Result, Ok, Err}
use Rattle.question.specs.declared.Question.{Question}
use Rattle.plane.specs.declared.point.Point.{Point}
use Rattle.block.specs.declared.Block.{Block}
use Rattle.block.specs.Questions.{load_no}
use Rattle.queue.specs.declared.Queue.{Queue}
use Rattle.queue.specs.Queue.{waiting}
use Rattle.queue.specs.computed.Queue.{queue_sound}
use Rattle.work.specs.declared.Work.{Work}
use Rattle.work.specs.Work.{is_nothing, cycles_left, end_of}
use Rattle.work.specs.Work.{root_in}
use Rattle.settings.specs.Settings.{capacity_of}
use Rattle.bench.specs.declared.Bench.{Bench}
use Rattle.bench.specs.computed.Bench.{sound_of as bench_sound}
use Rattle.machine.specs.declared.Machine.{Machine}
use Rattle.machine.specs.Machine.{to_do, start_of}
use Rattle.machine.specs.computed.Machine.{sound_of}

-- the block in work, taken off the count, where it has this root and the count has its cycles
unfoldable pub work_off : (at : Point) → Work → (root count : ℕ) → Option ℕ
work_off at w root count = cond (eqb root (root_in w) && leb (cycles_left at w) count) (Some (count - cycles_left at w)) None

-- the cycles that a tick's answer marks
abbrev pub cycles_told : Result ℕ Question → ℕ
cycles_told (Ok byte) = cond (ltb byte 16) 0 1
cycles_told (Err number) = 0

-- a bench after ticks, and what waits behind it
pub record Coming (k : Bench) (root left : ℕ) (q : Queue) : Type 0 where
  pub bench : bench_sound k ≡ true
  pub queue : queue_sound (capacity_of k.settings) k.settings.travel (end_of k.at k.work) q ≡ true
  pub root_is : is_nothing k.work ≡ false → root ≡ root_in k.work
  pub left_is : left ≡ to_do k.at k.work (waiting q)

-- a block that no question refuses at a sound record, and where it starts
pub record Taking (m : Machine) (start : Point) (b : Block) : Type 0 where
  pub sound : sound_of m ≡ true
  pub start_is : start ≡ start_of m.bench m.queue
  pub asked : load_no (capacity_of m.bench.settings) m.bench.settings.travel (ltb m.queue.len 16) start b ≡ 0
