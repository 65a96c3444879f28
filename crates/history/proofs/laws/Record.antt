-- The record that a book tells: what is in work ends where the book's does, and the figure is the book's.
use Rattle.std.specs.Prelude.{◌≡◌, refl, false, ℕ, ◌-◌}
use Rattle.std.proofs.Common.{arith}
use Rattle.plane.specs.declared.point.Point.{Point}
use Rattle.plane.specs.declared.travel.Travel.{Travel}
use Rattle.block.specs.declared.Path.{Path}
use Rattle.block.specs.Block.{arc_of, cycles_along, block_cycles}
use Rattle.queue.specs.laws.Waiting.{queue_waiting}
use Rattle.work.specs.Work.{is_nothing, cycles_left, end_of}
use Rattle.settings.specs.declared.Settings.{Settings}
use Rattle.settings.specs.Settings.{capacity_of}
use Rattle.settings.specs.computed.Settings.{settings_no}
use Rattle.settings.specs.laws.Right.{settings_right}
use Rattle.machine.specs.declared.Machine.{Machine}
use Rattle.machine.specs.Machine.{to_do, machine_of}
use Rattle.book.specs.Bench.{BlockInWork, InWork, end_in, left_in, work_end}
use Rattle.book.specs.Book.{Book, Reply, Entry, figure_of}
use Rattle.book.proofs.laws.Settings.{SettingsRight}
use Rattle.book.proofs.laws.Sound.{WorkSound, Sound}
use Rattle.book.proofs.laws.Here.{Here, job_here}
use Rattle.history.specs.Agree.{work_along, work_of}
use Rattle.bench.specs.declared.Bench.{Bench}
use Rattle.book.specs.Bench.{Bench as BookBench}
use Rattle.queue.specs.Queue.{queue_of}

abbrev pub bench_told : Settings → BookBench → Bench
bench_told s k = record { settings = s; at = k.at; held = k.mark; remainder = k.remainder; work = work_of k.work }

-- the blocks that wait stand in the first places, behind the end of the block in work, and the other places are blank
abbrev pub record_of : Settings → Book → Machine
record_of s b = machine_of (bench_told s b.bench) (queue_of (work_end b.bench) b.waiting)

-- a reply and a record that follow an entry of the book
pub record Follows (s : Settings) (e : Entry) (reply : Reply) (m : Machine) : Type 0 where
  pub says : reply ≡ e.reply
  pub leads : m ≡ record_of s e.next

-- ---- the block in work

pub always_working : (j : BlockInWork) (p : Path) → is_nothing (work_along j p) ≡ false
always_working j Path.Line = refl
always_working j (Path.Arc turn centre) = refl

along_end : (at : Point) (j : BlockInWork) (p : Path) → end_of at (work_along j p) ≡ j.block.end
unfolding arc_of
along_end at j Path.Line = refl
along_end at j (Path.Arc turn centre) = refl

pub same_end : (at : Point) (w : InWork) → end_of at (work_of w) ≡ end_in at w
same_end at InWork.nothing = refl
same_end at (InWork.working j) = along_end at j j.block.path

-- ---- the figure in the book's own words

along_left : (t : Travel) (at : Point) (j : BlockInWork) (p : Path) → Here t j at p
    → cycles_left at (work_along j p) ≡ cycles_along j.start j.block p - j.done
along_left t at j Path.Line here = refl
along_left t at j (Path.Arc turn centre) here = omega (arith, here.left)

left_is : (q0 : ℕ) (t : Travel) (at : Point) (w : InWork) → WorkSound q0 t at w → cycles_left at (work_of w) ≡ left_in w
unfolding block_cycles
left_is q0 t at InWork.nothing s = refl
left_is q0 t at (InWork.working j) s = along_left t at j j.block.path (job_here s)

pub figure_is : (q0 : ℕ) (t : Travel) (s : Settings) (b : Book) → Sound q0 t b → (record_of s b).left ≡ figure_of b
unfolding machine_of to_do
figure_is q0 t s b i =
    rw (
      queue_waiting (work_end b.bench) b.waiting,
      left_is q0 t b.bench.at b.bench.work i.bench.work,
      same_end b.bench.at b.bench.work,
    ) refl

-- ---- the record

module _ (s : Settings) (passed : settings_no s ≡ 0) where
  -- what the book's laws ask of the settings
  pub book_settings : SettingsRight (capacity_of s) s.travel
  book_settings =
      let r = settings_right s passed in
      record { some = omega (arith, r.clock_some); origin = r.origin; wide = r.wide }
