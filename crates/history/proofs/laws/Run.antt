-- A run of the bench that a book tells is the run of the book's bench.
use Rattle.std.specs.Prelude.{◌≡◌, Bool, List, leb, length, take, drop, Ok}
use Rattle.std.proofs.Math.Path.{refl}
use Rattle.std.proofs.Common.{sym}
use Rattle.std.proofs.Math.Bool.{true, false}
use Rattle.std.proofs.lemmas.Bool.{false≢true}
use Prim.Native.Nat.{ℕ, zero, suc, min}
use Rattle.std.proofs.Math.Seq.{take-append_seam}
use Rattle.plane.specs.declared.point.Point.{Point}
use Rattle.plane.specs.declared.travel.Travel.{Travel}
use Rattle.work.specs.Work.{is_nothing}
use Rattle.run.specs.computed.Run.{Strip, in_front, strip_of, written}
use Rattle.settings.specs.declared.Settings.{Settings}
use Rattle.settings.specs.Settings.{capacity_of}
use Rattle.bench.specs.computed.Bench.{sound_of}
use Rattle.bench.specs.Bench.{moved_of}
use Rattle.bench.specs.computed.Run.{Run, report_of, run_of}
use Rattle.book.specs.Bench.{BlockInWork, InWork, Ticked, Ran, bench_tick, ticks_done, bench_run, is_nothing as idle, Bench as BookBench}
use Rattle.book.specs.Bench.{TicksDone as BookStrip, in_front as book_in_front, report_of as book_report}
use Rattle.book.specs.Book.{Reply}
use Rattle.book.proofs.laws.Sound.{BenchSound, bench_of}
use Rattle.book.proofs.laws.Ticking.{tick_kept}
use Rattle.history.specs.Agree.{work_of}
use Rattle.history.proofs.laws.Record.{bench_told}
use Rattle.history.specs.Reply.{run_reply}
use Rattle.history.proofs.laws.Record.{always_working}
use Rattle.history.proofs.laws.Tick.{advance_told, advance_is, mark_kept}

-- what the ticks of the book do, in the words of what is in work
abbrev strip_told : BookStrip → Strip
strip_told s = record { bytes = s.bytes; at = s.last.at; remainder = s.last.remainder; work = work_of s.last.work; ended = s.ended }

module _ (q0 : ℕ) (t : Travel) where
  record Same (n : ℕ) (b : BookBench) : Type 0 where
    strip_is : strip_of q0 n b.at b.remainder (work_of b.work) ≡ strip_told (ticks_done q0 n b)
    mark_is : (ticks_done q0 n b).last.mark ≡ false

  -- one tick, and then what follows
  record SameFront (n : ℕ) (k : Ticked) : Type 0 where
    strip_is :
        in_front (is_nothing (work_of k.after.work)) (advance_told k)
        (strip_of q0 n k.after.at k.after.remainder (work_of k.after.work))
        ≡ strip_told (book_in_front (idle k.after.work) k (ticks_done q0 n k.after))
    mark_is : (book_in_front (idle k.after.work) k (ticks_done q0 n k.after)).last.mark ≡ false

  abbrev Rest : ℕ → Type 0
  Rest n =
      (at : Point) (r : ℕ) (j : BlockInWork) → BenchSound q0 t (bench_of at false r (InWork.working j)) →
      Same n (bench_of at false r (InWork.working j))

  in_front_lem : (n : ℕ) → Rest n → (code : ℕ) (at : Point) (mark : Bool) (r : ℕ) (w : InWork) → mark ≡ false
      → BenchSound q0 t (bench_of at mark r w) → SameFront n (record { byte = code; after = bench_of at mark r w })
  in_front_lem n rest code at true r w e s = absurd (false≢true (sym e))
  in_front_lem n rest code at false r InWork.nothing e s = record { strip_is = refl; mark_is = refl }
  in_front_lem n rest code at false r (InWork.working j) e s =
      let m = rest at r j s in
      record { strip_is = rw (always_working j j.block.path, m.strip_is); mark_is = m.mark_is }

  same : (n : ℕ) → Rest n
  unfolding strip_of ticks_done
  same zero at r j i = record { strip_is = refl; mark_is = refl }
  same (suc n) at r j i =
      let b = bench_of at false r (InWork.working j) in
      let k = bench_tick q0 b in
      let f = in_front_lem n (λ at r j. same n at r j) k.byte k.after.at k.after.mark k.after.remainder k.after.work
      (mark_kept q0 t at r j) (tick_kept q0 t b i) in
      record { strip_is = rw (advance_is q0 t at r j i.work) f.strip_is; mark_is = f.mark_is }

-- ---- the call

-- the first bytes of the buffer, as many as the run reports, are its tick bytes
pub first_bytes : (bytes old : List ℕ) → take (length bytes) (written bytes old) ≡ bytes
unfolding written
first_bytes bytes old = take-append_seam bytes (drop (length bytes) old)

report_is : (ended spent : Bool) (ticks : ℕ) (bytes : List ℕ)
    → run_reply (Ok (report_of ended spent)) ticks bytes ≡ Reply.ran (book_report ended spent) ticks bytes
report_is true spent ticks bytes = refl
report_is false true ticks bytes = refl
report_is false false ticks bytes = refl

-- a run of the bench says and leaves what that of the book does
pub record RunTold (s : Settings) (k : Run) (b : Ran) : Type 0 where
  pub says : run_reply k.ran.report k.ran.ticks k.bytes ≡ Reply.ran b.report (length b.bytes) b.bytes
  pub leaves : k.ran.bench ≡ bench_told s b.after

module _ (s : Settings) (budget buffer : ℕ) where
  abbrev Matches : BookBench → Type 0
  Matches k = RunTold s (run_of (bench_told s k) budget buffer) (bench_run (capacity_of s) k budget buffer)

  run_parts : (at : Point) (mark : Bool) (r : ℕ) (w : InWork) → BenchSound (capacity_of s) s.travel (bench_of at mark r w)
      → sound_of (bench_told s (bench_of at mark r w)) ≡ true → Matches (bench_of at mark r w)
  unfolding run_of bench_run moved_of
  run_parts at mark r InWork.nothing i e = rw e (record { says = refl; leaves = refl })
  run_parts at true r (InWork.working j) i e = rw (e, always_working j j.block.path) (record { says = refl; leaves = refl })
  run_parts at false r (InWork.working j) i e =
      let k = ticks_done (capacity_of s) (min budget buffer) (bench_of at false r (InWork.working j)) in
      let m = same (capacity_of s) s.travel (min budget buffer) at r j i in
      rw (e, always_working j j.block.path, m.strip_is)
      (record {
        says = report_is k.ended (leb budget (length k.bytes)) (length k.bytes) k.bytes;
        leaves = rw m.mark_is;
      })

  pub run_is : (k : BookBench) → BenchSound (capacity_of s) s.travel k → sound_of (bench_told s k) ≡ true → Matches k
  run_is k i e = run_parts k.at k.mark k.remainder k.work i e
