-- A run is its ticks, one by one, and does the least of budget, buffer and ticks to the block's end.
use Rattle.std.specs.Prelude.{◌≡◌, Bool, leb, length, replicate}
use Rattle.std.proofs.Math.Path.{refl, sym, ap₂}
use Rattle.std.proofs.Common.{ap, subst, subst₂, ◌∙◌, mul-le-mul_right, arith, leb-true, leb-false, le-leb}
use Rattle.std.proofs.Math.Bool.{true, false}
use mathlib.Core.List.{List, [], ◌∷◌, map, cons≢nil}
use Prim.Native.Nat.{ℕ, zero, suc, ◌+◌, ◌-◌, ◌*◌, ◌≤◌, ◌<◌, min}
use Rattle.std.proofs.lemmas.Bool.{lt-leb}
use Rattle.whole.specs.laws.Test.{same_test}
use Rattle.plane.specs.declared.point.Point.{Point}
use Rattle.plane.specs.declared.travel.Travel.{Travel}
use Rattle.divider.specs.Divider.{end_tick}
use Rattle.divider.specs.laws.AddUp.{fewer, exactly, rest}
use Rattle.block.specs.declared.Block.{Block}
use Rattle.block.specs.Charge.{block_charges}
use Rattle.book.specs.Bench.{BlockInWork, InWork, Bench, TicksDone, Report, is_nothing, added_by, cycle_due, bench_tick, in_front}
use Rattle.book.specs.Bench.{ticks_done, report_of}
use Rattle.book.specs.Bench.{bench_run}
use Rattle.book.specs.Book.{Book, Call, Reply, settled, run_entry, replies, closing}
use Rattle.book.specs.Sums.{tick_bytes}
use Rattle.book.proofs.laws.Sound.{bench_of, JobSound, WorkSound, BenchSound, Sound, job_charge, job_paid, job_charges, Below}
use Rattle.book.proofs.laws.Sound.{charge_within}
use Rattle.book.proofs.laws.Stretch.{Left, Stripped, stretch_charges, strip_stretch}
use Rattle.book.proofs.laws.Settled.{settled_busy}

-- the working ticks to the end of the block in work, at the remainder r
abbrev pub job_ticks_left : (q0 r : ℕ) → BlockInWork → ℕ
job_ticks_left q0 r j = end_tick ((job_charges j - job_paid j) * q0) (added_by j.block) r

-- at most so many ticks are all that the block allows, and they say whether it ended
pub record Counted (q0 most r : ℕ) (j : BlockInWork) (s : TicksDone) : Type 0 where
  pub ticks : length s.bytes ≡ min most (job_ticks_left q0 r j)
  pub ended : s.ended ≡ leb (job_ticks_left q0 r j) most

module _ (q0 : ℕ) (t : Travel) where
  -- ---- one by one

  -- so many ticks, called one after the other, answer these bytes and leave this book
  pub record OneByOne (b : Book) (bytes : List ℕ) (after : Book) : Type 0 where
    pub answers : replies q0 t b (replicate (length bytes) Call.tick) ≡ map Reply.byte bytes
    pub leaves : closing q0 t b (replicate (length bytes) Call.tick) ≡ after

  none : (b : Book) → OneByOne b [] b
  unfolding replies closing
  none b = record { answers = refl; leaves = refl }

  -- from a book with a block in work
  strip_ticks : (most : ℕ) (k : Bench) (l : List Block) → is_nothing k.work ≡ false
      → OneByOne (record { bench = k; waiting = l }) (ticks_done q0 most k).bytes (settled (ticks_done q0 most k).last l)
  unfolding ticks_done replies closing
  strip_ticks zero k l busy = record { answers = refl; leaves = sym (settled_busy k l busy) }
  strip_ticks (suc n) k l busy = by (is_nothing (bench_tick q0 k).after.work) refl (strip_ticks n (bench_tick q0 k).after l)
    where
      after : Bench
      after = (bench_tick q0 k).after

      by : (ended : Bool) → is_nothing after.work ≡ ended
          → (let s = ticks_done q0 n after in
          let whole = in_front ended (bench_tick q0 k) s in
          (is_nothing after.work ≡ false → OneByOne (record { bench = after; waiting = l }) s.bytes (settled s.last l))
          → OneByOne (record { bench = k; waiting = l }) whole.bytes (settled whole.last l))
      by true e rest = record { answers = refl; leaves = refl }
      by false e rest =
          let r = rest e in
          let m = length (ticks_done q0 n after).bytes in
          let same = settled_busy after l e in
          record {
            answers = ap (λ (l : List Reply). Reply.byte (bench_tick q0 k).byte ∷ l)
                (ap (λ (b : Book). replies q0 t b (replicate m Call.tick)) same ∙ r.answers);
            leaves = ap (λ (b : Book). closing q0 t b (replicate m Call.tick)) same ∙ r.leaves;
          }

  -- a run's bytes, and the book that it leaves, are those of its ticks
  pub run_ticks : (b : Book) (budget buffer : ℕ) → Sound q0 t b
      → (let e = run_entry q0 b budget buffer in OneByOne b (tick_bytes e.reply) e.next)
  unfolding bench_run settled
  run_ticks b budget buffer s = by b.bench.at b.bench.mark b.bench.remainder b.bench.work b.waiting s.none
    where
      by : (at : Point) (mark : Bool) (r : ℕ) (w : InWork) (l : List Block) → (is_nothing w ≡ true → l ≡ [])
          → (let b : Book = record { bench = bench_of at mark r w; waiting = l } in
          let e = run_entry q0 b budget buffer in
          OneByOne b (tick_bytes e.reply) e.next)
      by at mark r InWork.nothing [] alone = none _
      by at mark r InWork.nothing (x ∷ l) alone = absurd (cons≢nil (alone refl))
      by at true r (InWork.working j) l alone = none _
      by at false r (InWork.working j) l alone = strip_ticks (min budget buffer) _ l refl

  -- ---- how many ticks

  module _ (at : Point) (r : ℕ) (j : BlockInWork) (sound : JobSound q0 t at j) (low : r < cycle_due q0 j) where
    counted : (most : ℕ) → Counted q0 most r j (ticks_done q0 most (bench_of at false r (InWork.working j)))
    counted most =
        let s = ticks_done q0 most (bench_of at false r (InWork.working j)) in
        let x = strip_stretch q0 t most at r j sound low in
        by s x s.last.work x.ended x.stretch.left x.stretch.sound.work x.stretch.sound.below
      where
        k : ℕ
        k = job_charges j - job_paid j

        some : 1 ≤ added_by j.block
        some = omega (arith, sound.some)

        by : (s : TicksDone) → Stripped q0 t most at r j s → (w : InWork) → s.ended ≡ is_nothing w
            → Left j (stretch_charges j s.bytes) s.last.at s.last.remainder w → WorkSound q0 t s.last.at w
            → Below q0 w s.last.remainder → Counted q0 most r j s
        by s x InWork.nothing ends over work below =
            let left : stretch_charges j s.bytes ≡ k = omega (arith, over.paid) in
            let fed = ap (λ (c : ℕ). c * q0 + s.last.remainder) (sym left) ∙ x.stretch.feeds in
            let all = exactly (k * q0) (added_by j.block) r some (length s.bytes) s.last.remainder fed over.early in
            record { ticks = omega (arith, x.within); ended = ends ∙ sym (le-leb (job_ticks_left q0 r j) most (omega (arith, x.within))) }
        by s x (InWork.working next) ends going work below =
            let paid = stretch_charges j s.bytes in
            let same = ap₂ (λ (s : Point) (b : Block). block_charges s b) going.start going.block in
            let next_paid : paid + job_charge next ≤ k = omega (arith, going.paid, charge_within work, same) in
            let within : paid * q0 + cycle_due q0 next ≤ k * q0 = omega (arith, mul-le-mul_right q0 next_paid) in
            let more =
            fewer (k * q0) (added_by j.block) r some (length s.bytes) (paid * q0) s.last.remainder (cycle_due q0 next)
            x.stretch.feeds below within in
            let all = x.used_up_lem ends in
            record { ticks = omega arith; ended = ends ∙ sym (lt-leb (job_ticks_left q0 r j) most (omega arith)) }

    working_run : (budget buffer : ℕ) (l : List Block)
        → (let k = bench_of at false r (InWork.working j) in
        let most = min budget buffer in
        (run_entry q0 (record { bench = k; waiting = l }) budget buffer).reply
        ≡ Reply.ran (report_of (leb (job_ticks_left q0 r j) most) (leb budget buffer)) (min most (job_ticks_left q0 r j))
        (ticks_done q0 most k).bytes)
    unfolding bench_run
    working_run budget buffer l =
        let s = ticks_done q0 most (bench_of at false r (InWork.working j)) in
        let c = counted most in
        ap₂ (λ (report : Report) (n : ℕ). Reply.ran report n s.bytes)
        (reports s.ended (length s.bytes) c.ended c.ticks (leb left most) refl) c.ticks
      where
        most : ℕ
        most = min budget buffer

        left : ℕ
        left = job_ticks_left q0 r j

        -- where the block has not ended, what is used up is the lesser of budget and buffer
        reports : (ended : Bool) (n : ℕ) → ended ≡ leb left most → n ≡ min most left → (u : Bool) → leb left most ≡ u
            → report_of ended (leb budget n) ≡ report_of (leb left most) (leb budget buffer)
        reports ended n p l true e =
            ap (λ (u : Bool). report_of u (leb budget n)) (p ∙ e) ∙ ap (λ (u : Bool). report_of u (leb budget buffer)) (sym e)
        reports ended n p l false e =
            let short = leb-false left most e in
            ap₂ report_of p (same_test
            (λ h. le-leb budget buffer (omega (arith, leb-true budget n h)))
            (λ h. le-leb budget n (omega (arith, leb-true budget buffer h))))

  module _ (b : Book) (j : BlockInWork) (s : BenchSound q0 t b.bench) (work : b.bench.work ≡ InWork.working j)
      (free : b.bench.mark ≡ false) where
    job_sound : JobSound q0 t b.bench.at j
    job_sound = subst (WorkSound q0 t b.bench.at) work s.work

    job_below : b.bench.remainder < cycle_due q0 j
    job_below = subst (λ (w : InWork). Below q0 w b.bench.remainder) work s.below

    abbrev left : ℕ
    left = job_ticks_left q0 b.bench.remainder j

    -- they are every tick that the run may do, up to the end of the block
    pub strip_counted : (most : ℕ) → Counted q0 most b.bench.remainder j (ticks_done q0 most b.bench)
    strip_counted most =
        let k = b.bench in
        subst₂ (λ (m : Bool) (w : InWork). Counted q0 most k.remainder j (ticks_done q0 most (bench_of k.at m k.remainder w)))
        (sym free) (sym work) (counted k.at k.remainder j job_sound job_below most)

    -- 01, Ticks and runs: "It does the least of its tick budget, the buffer length and the ticks to the block's end"; "else ended, spent or
    -- full, the first that is true"
    pub run_report : (budget buffer : ℕ)
        → (let most = min budget buffer in
        (run_entry q0 b budget buffer).reply
        ≡ Reply.ran (report_of (leb left most) (leb budget buffer)) (min most left) (ticks_done q0 most b.bench).bytes)
    run_report budget buffer =
        let most = min budget buffer in
        let k = b.bench in
        subst₂ (λ (m : Bool) (w : InWork).
        let now = bench_of k.at m k.remainder w in
        (run_entry q0 (record { bench = now; waiting = b.waiting }) budget buffer).reply
        ≡ Reply.ran (report_of (leb left most) (leb budget buffer)) (min most left) (ticks_done q0 most now).bytes)
        (sym free) (sym work) (working_run k.at k.remainder j job_sound job_below budget buffer b.waiting)

    -- up to the end of the block n ticks in a run are n ticks called one by one
    pub so_many_ticks : (n : ℕ) → n ≤ left
        → (let s = ticks_done q0 n b.bench in
        (replies q0 t b (replicate n Call.tick) ≡ map Reply.byte s.bytes)
        × (closing q0 t b (replicate n Call.tick) ≡ settled s.last b.waiting))
    so_many_ticks n most =
        let all : length (ticks_done q0 n b.bench).bytes ≡ n = omega (arith, (strip_counted n).ticks) in
        let o = strip_ticks n b.bench b.waiting (ap is_nothing work) in
        let ticks = ap (λ (m : ℕ). replicate m Call.tick) (sym all) in
        (ap (replies q0 t b) ticks ∙ o.answers, ap (closing q0 t b) ticks ∙ o.leaves)
