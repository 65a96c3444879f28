-- What comes into work after a block's end is the same for the record that a book tells and for the book.
use Rattle.std.specs.Prelude.{◌≡◌, Bool, ℕ, ◌≤◌, length}
use Rattle.std.proofs.Math.Path.{refl, ap₂}
use mathlib.Core.List.{List, [], ◌∷◌}
use Rattle.std.proofs.Common.{arith}
use Rattle.plane.specs.declared.point.Point.{Point}
use Rattle.block.specs.declared.Block.{Block}
use Rattle.block.specs.declared.Path.{Path}
use Rattle.queue.specs.declared.Queue.{Queue}
use Rattle.queue.specs.Queue.{rooted, queue_of}
use Rattle.queue.specs.laws.Waiting.{pop_queue}
use Rattle.work.specs.declared.Work.{Work}
use Rattle.work.specs.Work.{begun_of, work_along as begun_along}
use Rattle.settings.specs.declared.Settings.{Settings}
use Rattle.bench.specs.Bench.{moved_of}
use Rattle.machine.specs.Machine.{machine_of}
use Rattle.machine.specs.Calls.{beginning, next_of}
use Rattle.book.specs.Bench.{InWork, work_end, Bench as BookBench}
use Rattle.book.specs.Book.{settled}
use Rattle.book.proofs.laws.Sound.{bench_of}
use Rattle.history.specs.Agree.{work_along, work_of}
use Rattle.history.proofs.laws.Record.{record_of}
use Rattle.history.proofs.laws.Record.{bench_told}
use Rattle.history.proofs.laws.Record.{always_working}

-- a block newly in work is the same for both
pub begun_is : (at : Point) (b : Block) → (begun_of at b).work ≡ work_of (InWork.working (record { block = b; start = at; done = 0 }))
unfolding begun_of
begun_is at b = by b.path
  where
    by : (p : Path) → begun_along at b p ≡ work_along (record { block = b; start = at; done = 0 }) p
    by Path.Line = refl
    by (Path.Arc turn centre) = refl

module _ (s : Settings) where
  abbrev Same : BookBench → List Block → Type 0
  Same k l = next_of (bench_told s k) (queue_of (work_end k) l) ≡ record_of s (settled k l)

  next_parts : (at : Point) (mark : Bool) (r : ℕ) (w : InWork) (l : List Block) → length l ≤ 16 → Same (bench_of at mark r w) l
  unfolding next_of settled queue_of rooted moved_of
  next_parts at mark r InWork.nothing [] few = refl
  next_parts at mark r InWork.nothing (b ∷ l) few =
      ap₂ (λ (w : Work) (q : Queue). machine_of (beginning (bench_told s (bench_of at mark r InWork.nothing)) w) q)
      (begun_is at b) (pop_queue at b l (omega (arith, few)))
  next_parts at mark r (InWork.working j) l few = rw (always_working j j.block.path) refl

  pub next_is : (k : BookBench) (l : List Block) → length l ≤ 16 → Same k l
  next_is k l few = next_parts k.at k.mark k.remainder k.work l few
