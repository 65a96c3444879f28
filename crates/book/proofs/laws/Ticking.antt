-- A tick and a run do the same kind of thing with the block in work: nothing, or a stretch.
use Rattle.std.specs.Prelude.{◌≡◌, Bool, List, [], ◌∷◌, ℕ, min, length}
use Rattle.std.proofs.Math.Path.{refl}
use Rattle.std.proofs.Common.{sym, ap, ◌∙◌}
use Rattle.std.proofs.Math.Bool.{true, false}
use Rattle.plane.specs.declared.point.Point.{Point}
use Rattle.plane.specs.declared.travel.Travel.{Travel}
use Rattle.block.specs.declared.Block.{Block}
use Rattle.book.specs.Bench.{BlockInWork, InWork, Bench, end_in, work_end, bench_tick, bench_run}
use Rattle.book.specs.Book.{Book, Call}
use Rattle.book.specs.Sums.{working_ticks}
use Rattle.book.proofs.laws.Byte.{Silent, zero_silent, none_silent}
use Rattle.book.proofs.laws.Sound.{bench_of, BenchSound}
use Rattle.book.proofs.laws.Stretch.{Left, Stretch, stretch_charges, one_tick, strip_stretch}

module _ (q0 : ℕ) (t : Travel) where
  -- a tick or a run at b, where w is in work: its bytes, its working ticks and the bench after it
  pub data Ticking (b : Bench) : InWork → (bytes : List ℕ) (working : ℕ) (after : Bench) → Type 0 where
    rests : {w : InWork} {bytes : List ℕ} → Silent bytes → Ticking b w bytes 0 b
    works : {j : BlockInWork} {bytes : List ℕ} {n : ℕ} {after : Bench}
        → n ≡ length bytes → Stretch q0 t b.at b.remainder j bytes after → Ticking b (InWork.working j) bytes n after

  tick_parts : (at : Point) (mark : Bool) (r : ℕ) (w : InWork) (l : List Block) → BenchSound q0 t (bench_of at mark r w)
      → (let k = bench_of at mark r w in
      let b : Book = record { bench = k; waiting = l } in
      Ticking k w ((bench_tick q0 k).byte ∷ []) (working_ticks q0 t b Call.tick) (bench_tick q0 k).after)
  unfolding bench_tick
  tick_parts at mark r InWork.nothing l s = rests zero_silent
  tick_parts at true r (InWork.working j) l s = rests zero_silent
  tick_parts at false r (InWork.working j) l s = works refl (one_tick q0 t at r j s.work s.below)

  run_parts : (budget buffer : ℕ) (at : Point) (mark : Bool) (r : ℕ) (w : InWork) (l : List Block) → BenchSound q0 t (bench_of at mark r w)
      → (let k = bench_of at mark r w in
      let b : Book = record { bench = k; waiting = l } in
      let ran = bench_run q0 k budget buffer in
      Ticking k w ran.bytes (working_ticks q0 t b (Call.run budget buffer)) ran.after)
  unfolding bench_run
  run_parts budget buffer at mark r InWork.nothing l s = rests none_silent
  run_parts budget buffer at true r (InWork.working j) l s = rests none_silent
  run_parts budget buffer at false r (InWork.working j) l s =
      works refl (strip_stretch q0 t (min budget buffer) at r j s.work s.below).stretch

  pub tick_does : (b : Book) → BenchSound q0 t b.bench
      → (let k = bench_tick q0 b.bench in
      Ticking b.bench b.bench.work (k.byte ∷ []) (working_ticks q0 t b Call.tick) k.after)
  tick_does b s = let k = b.bench in tick_parts k.at k.mark k.remainder k.work b.waiting s

  pub run_does : (b : Book) (budget buffer : ℕ) → BenchSound q0 t b.bench
      → (let ran = bench_run q0 b.bench budget buffer in
      Ticking b.bench b.bench.work ran.bytes (working_ticks q0 t b (Call.run budget buffer)) ran.after)
  run_does b budget buffer s =
      let k = b.bench in run_parts budget buffer k.at k.mark k.remainder k.work b.waiting s

  -- ---- what is kept

  pub ticking_kept : {b : Bench} {w : InWork} {bytes : List ℕ} {n : ℕ} {after : Bench} → Ticking b w bytes n after → BenchSound q0 t b
      → BenchSound q0 t after
  ticking_kept (rests silent) s = s
  ticking_kept (works n stretch) s = stretch.sound

  pub tick_kept : (k : Bench) → BenchSound q0 t k → BenchSound q0 t (bench_tick q0 k).after
  tick_kept k s = ticking_kept (tick_does (record { bench = k; waiting = [] }) s) s

  -- the end of the block in work stays where it is; at its end it is the point
  pub end_stays : {b : Bench} {bytes : List ℕ} {n : ℕ} {after : Bench} {w : InWork} → Ticking b w bytes n after → b.work ≡ w
      → work_end after ≡ work_end b
  end_stays (rests silent) e = refl
  end_stays {b} {after = after} (works {j = j} {bytes = bytes} len x) e = by after.work x.left ∙ ap (end_in b.at) (sym e)
    where
      by : (w : InWork) → Left j (stretch_charges j bytes) after.at after.remainder w → end_in after.at w ≡ j.block.end
      by InWork.nothing over = over.reached
      by (InWork.working next) going = ap (λ (k : Block). k.end) going.block
