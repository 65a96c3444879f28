-- A run of any sound record does every tick that it may, and its bytes are its ticks' one by one.
use Rattle.std.specs.Prelude.{◌≡◌, Bool, true, false, cond, ◌≢◌, ◌↔◌, List, [], ℕ, zero, suc, ◌*◌, ◌≤◌, ◌<◌, min, drop, Result, Ok}
use Rattle.std.proofs.Math.Path.{refl, sym, ap, subst}
use Rattle.std.proofs.Common.{◌∙◌, arith, length-append, length-drop}
use Rattle.std.proofs.Math.Dec.{leb}
use Rattle.std.proofs.Math.ListN.{length, take}
use Rattle.std.proofs.Math.Seq.{drop-append_seam}
use borrow.Author.Tests.{leb-true, leb-false, le-leb, lt-leb}
use Rattle.question.specs.declared.Question.{Question}
use Rattle.whole.specs.laws.Test.{refuted}
use Rattle.plane.specs.declared.point.Point.{Point}
use Rattle.plane.specs.Byte.{cycles_marked}
use Rattle.divider.specs.Divider.{end_tick}
use Rattle.divider.specs.computed.Divider.{last_tick}
use Rattle.divider.specs.laws.Last.{EndsAt, unique}
use Rattle.work.specs.declared.Work.{Work}
use Rattle.work.specs.declared.Advance.{Advance}
use Rattle.work.specs.Work.{is_nothing, added_of, cycles_left, charges_left, end_of}
use Rattle.work.specs.computed.Work.{advance_of}
use Rattle.run.specs.computed.Run.{Strip, in_front, strip_of, written, SoundIn}
use Rattle.run.specs.laws.Keep.{ran_left}
use Rattle.run.specs.laws.Strip.{strip_ends, end_tick_lem, strip_early}
use Rattle.run.specs.laws.Paid.{strip_pays}
use Rattle.settings.specs.Settings.{capacity_of}
use Rattle.queue.specs.declared.Queue.{Queue}
use Rattle.queue.specs.Queue.{waiting}
use Rattle.queue.specs.laws.Waiting.{none_waits, pop_waiting}
use Rattle.bench.specs.declared.Bench.{Bench}
use Rattle.bench.specs.declared.Report.{Report}
use Rattle.bench.specs.Bench.{moved_of}
use Rattle.bench.specs.computed.Calls.{working, tick_of as bench_tick}
use Rattle.bench.specs.computed.Run.{report_of, ran_over, no_tick as bench_no_tick, run_of as bench_run}
use Rattle.bench.specs.laws.Calls.{tick_works}
use Rattle.finish.specs.computed.Finish.{last_tick_of}
use Rattle.finish.specs.laws.Record.{AtWork, at_work}
use Rattle.machine.specs.declared.Machine.{Machine}
use Rattle.machine.specs.declared.Ticked.{Ticked}
use Rattle.machine.specs.computed.Machine.{sound_of}
use Rattle.machine.specs.Machine.{machine_of}
use Rattle.machine.specs.Calls.{next_of, first_in, ticks}
use Rattle.machine.specs.computed.Calls.{tick_of}
use Rattle.machine.specs.computed.Run.{ran_on, no_tick, run_of}
use Rattle.machine.specs.laws.Right.{sound}
use Rattle.look.specs.laws.Sums.{next_stands}
use Rattle.machine.specs.laws.Rest.{next_own}
use Rattle.look.specs.laws.Pass.{next, moved, same, kept, working_on}
use Rattle.book.specs.Bench.{Report as BookReport}
use Rattle.book.specs.Book.{Reply}
use Rattle.stream.specs.laws.Pieces.{runs}
use Rattle.history.specs.Reply.{run_reply}
use Rattle.history.proofs.laws.Run.{first_bytes}
use Rattle.demands.specs.Taken.{ComesIn}
use Rattle.demands.specs.Runs.{TicksTo, cycles_in, Running, EveryRun}
use Rattle.demands.proofs.laws.Block.{nothing_iff}
use Rattle.demands.proofs.laws.Sound.{sound_is}

-- ---- how many ticks, and whether the last ended the block

pub record Counted (n t : ℕ) (s : Strip) : Type 0 where
  pub ticks : length s.bytes ≡ min n t
  pub ended : s.ended ≡ leb t (min n t)

pub strip_counts : {q0 : ℕ} (n t : ℕ) {at : Point} {r : ℕ} {w : Work} → SoundIn q0 at r w
    → EndsAt (charges_left at w * q0) (added_of w) r (cycles_left at w) t → Counted n t (strip_of q0 n at r w)
strip_counts {q0} n t {at} {r} {w} i e = by (leb t n) refl
  where
    by : (all : Bool) → leb t n ≡ all → Counted n t (strip_of q0 n at r w)
    by true h =
        let most = leb-true t n h in
        let s = strip_ends n t i e most in
        record { ticks = s.ticks ∙ (omega arith); ended = s.ended ∙ sym (le-leb t (min n t) (omega arith)) }
    by false h =
        let less = leb-false t n h in
        let s = strip_early i n (rw (unique e (end_tick_lem i)) at less) in
        record { ticks = s.ticks ∙ (omega arith); ended = s.ended ∙ sym (lt-leb t (min n t) (omega arith)) }

-- ---- one by one

pub bench_tick_lem : (k : Bench) → AtWork k → working k (advance_of (capacity_of k.settings) k.at k.remainder k.work) ≡ bench_tick k
bench_tick_lem k a = tick_works k a.sound a.free a.busy refl

module _ (m : Machine) (e : sound_of m ≡ true) (a : AtWork m.bench) where
  tick_is : ticks (Ok (next m e a).byte) (next_of (moved m e a) m.queue) ≡ tick_of m
  unfolding tick_of
  tick_is = rw (e, sym (bench_tick_lem m.bench a)) refl

pub strip_ticks : (n : ℕ) (m : Machine) → sound_of m ≡ true → AtWork m.bench
    → (let k = m.bench in
    let s = strip_of (capacity_of k.settings) n k.at k.remainder k.work in
    TicksTo m s.bytes (next_of (moved_of k s.at s.remainder s.work) m.queue))
unfolding strip_of moved_of machine_of
strip_ticks zero m e a = subst (TicksTo m []) (sym (next_own m (sound m e))) TicksTo.none
strip_ticks (suc n) m e a =
    by (is_nothing (next m e a).work) refl
    (λ busy. strip_ticks n (machine_of (moved m e a) m.queue) (kept m e a busy) (working_on m e a busy))
  where
    k : Bench
    k = m.bench

    first : Advance
    first = next m e a

    rest : Strip
    rest = strip_of (capacity_of k.settings) n first.at first.remainder first.work

    one : Ticked
    one = ticks (Ok first.byte) (next_of (moved m e a) m.queue)

    After : Strip → Machine
    After s = next_of (moved_of k s.at s.remainder s.work) m.queue

    by : (ended : Bool) → is_nothing first.work ≡ ended
        → (is_nothing first.work ≡ false → TicksTo (machine_of (moved m e a) m.queue) rest.bytes (After rest))
        → (let s = in_front ended first rest in TicksTo m s.bytes (After s))
    by true none later = TicksTo.one one first.byte (tick_is m e a) refl TicksTo.none
    by false more later =
        TicksTo.one one first.byte (tick_is m e a) refl
        (subst (λ (m' : Machine). TicksTo m' rest.bytes (After rest)) (sym (same m e a more)) (later more))

-- ---- a block has ended

pub comes_in_lem : (k : Bench) (q : Queue) → q.len ≤ length q.blocks → k.work ≡ Work.Nothing → ComesIn k.at (waiting q) (next_of k q)
unfolding next_of machine_of moved_of
comes_in_lem k q most none = let idle : is_nothing k.work ≡ true = ap is_nothing none in rw idle (by q.len refl)
  where
    by : (n : ℕ) → q.len ≡ n → ComesIn k.at (waiting q) (first_in k q n)
    by zero e = let empty = none_waits q e in rw empty (none, empty)
    by (suc n) e = rw (pop_waiting q (omega arith) most) (refl, refl)

pub remainder_then : (k : Bench) (q : Queue) → (next_of k q).bench.remainder ≡ k.remainder
unfolding next_of machine_of moved_of
remainder_then k q = by (is_nothing k.work) q.len
  where
    by : (idle : Bool) (n : ℕ) → (cond idle (first_in k q n) (machine_of k q)).bench.remainder ≡ k.remainder
    by true zero = refl
    by true (suc n) = refl
    by false n = refl

-- ---- what it reports

abbrev place : BookReport → ℕ
place BookReport.idle = 0
place BookReport.held = 1
place BookReport.ended = 2
place BookReport.spent = 3
place BookReport.full = 4

-- replies of different reports differ
abbrev rank : Reply → ℕ
rank (Reply.ran report ticks bytes) = place report
rank (Reply.refused number) = 5
rank (Reply.width bits) = 5
rank (Reply.byte byte) = 5
rank Reply.done = 5

record Reported (t n budget : ℕ) (bytes : List ℕ) (reply : Reply) : Type 0 where
  ended : (reply ≡ Reply.ran BookReport.ended n bytes) ↔ (t ≤ n)
  spent : (reply ≡ Reply.ran BookReport.spent n bytes) ↔ ((n < t) × (budget ≤ n))
  full : (reply ≡ Reply.ran BookReport.full n bytes) ↔ ((n < t) × (n < budget))

reported : (t n budget : ℕ) (bytes : List ℕ) → Reported t n budget bytes (run_reply (Ok (report_of (leb t n) (leb budget n))) n bytes)
reported t n budget bytes = by (leb t n) refl (leb budget n) refl
  where
    by : (e : Bool) → leb t n ≡ e → (s : Bool) → leb budget n ≡ s → Reported t n budget bytes (run_reply (Ok (report_of e s)) n bytes)
    by true e s f =
        let h = leb-true t n e in
        record {
          ended = (λ q. h, λ g. refl);
          spent = (λ q. absurd (let r = ap rank q in omega arith), λ g. absurd (omega (arith, g.0)));
          full = (λ q. absurd (let r = ap rank q in omega arith), λ g. absurd (omega (arith, g.0)));
        }
    by false e true f =
        let h = leb-false t n e in
        let k = leb-true budget n f in
        record {
          ended = (λ q. absurd (let r = ap rank q in omega arith), λ g. absurd (omega arith));
          spent = (λ q. (h, k), λ g. refl);
          full = (λ q. absurd (let r = ap rank q in omega arith), λ g. absurd (omega (arith, g.1)));
        }
    by false e false f =
        let h = leb-false t n e in
        let k = leb-false budget n f in
        record {
          ended = (λ q. absurd (let r = ap rank q in omega arith), λ g. absurd (omega arith));
          spent = (λ q. absurd (let r = ap rank q in omega arith), λ g. absurd (omega (arith, g.1)));
          full = (λ q. (h, k), λ g. refl);
        }

-- ---- the call

pub busy_is : (k : Bench) → k.work ≢ Work.Nothing → is_nothing k.work ≡ false
busy_is k some = refuted (is_nothing k.work) (λ e. some ((nothing_iff k.work).0 e))

written_later : (bytes old : List ℕ) → drop (length bytes) (written bytes old) ≡ drop (length bytes) old
unfolding written
written_later bytes old = drop-append_seam bytes (drop (length bytes) old)

written_long : (bytes old : List ℕ) → length bytes ≤ length old → length (written bytes old) ≡ length old
unfolding written
written_long bytes old h = simp (length-append, length-drop) (omega arith)

module _ (m : Machine) (budget : ℕ) (old : List ℕ) (e : sound_of m ≡ true) (a : AtWork m.bench) where
  abbrev bench : Bench
  bench = m.bench

  abbrev strip : Strip
  strip = strip_of (capacity_of bench.settings) (min budget (length old)) bench.at bench.remainder bench.work

  counted : Counted (min budget (length old)) (last_tick_of bench) strip
  counted = strip_counts (min budget (length old)) (last_tick_of bench) (at_work a) (end_tick_lem (at_work a))

  abbrev after : Machine
  after = next_of (moved_of bench strip.at strip.remainder strip.work) m.queue

  run_over : strip.ended ≡ true
      → (let end = end_of bench.at bench.work in (after.bench.at ≡ end) × ComesIn end (waiting m.queue) after)
  unfolding moved_of
  run_over last =
      let most = leb-true (last_tick_of bench) (min (min budget (length old)) (last_tick_of bench)) (sym counted.ended ∙ last) in
      let s = strip_ends (min budget (length old)) (last_tick_of bench) (at_work a) (end_tick_lem (at_work a)) (omega arith) in
      let queue = (sound m e).right.queue in
      let k = moved_of bench strip.at strip.remainder strip.work in
      let in_work_lem = comes_in_lem k m.queue (omega (arith, queue.most, queue.sixteen)) s.idle in
      (next_stands k m.queue ∙ s.reached, subst (λ (p : Point). ComesIn p (waiting m.queue) after) s.reached in_work_lem)

  -- the bytes mark the cycles that so many ticks pay
  paid : cycles_marked strip.bytes ≡ cycles_in bench (length strip.bytes)
  paid =
      let n = min budget (length old) in
      omega (arith, ran_left (at_work a) n, strip_pays (at_work a) n)

  running : Running m budget old (written strip.bytes old) (ran_on m (ran_over bench budget strip)).ran
  unfolding end_tick last_tick
  running =
      let n = length strip.bytes in
      let count = counted.ticks in
      let is : strip.ended ≡ leb (last_tick_of bench) n = counted.ended ∙ ap (leb (last_tick_of bench)) (sym count) in
      let new = take n (written strip.bytes old) in
      let r : Reported (last_tick_of bench) n budget new (run_reply (Ok (report_of strip.ended (leb budget n))) n new) = rw is
      (reported (last_tick_of bench) n budget new) in
      record {
        ticks = omega arith;
        bytes = rw (first_bytes strip.bytes old) (strip_ticks (min budget (length old)) m e a);
        cycles = rw (first_bytes strip.bytes old) paid;
        later = written_later strip.bytes old;
        long = written_long strip.bytes old (omega arith);
        ended = r.ended;
        spent = r.spent;
        full = r.full;
        over = λ e. run_over (is ∙ le-leb (last_tick_of bench) n e);
      }

-- a run without a tick leaves the record
rests : (m : Machine) → sound_of m ≡ true → (budget : ℕ) (old : List ℕ) (report : Result Report Question)
    → bench_run m.bench budget (length old) ≡ bench_no_tick m.bench report → run_of m budget (length old) ≡ no_tick m report
unfolding run_of
rests m e budget old report is = rw (e, is, next_own m (sound m e)) refl

-- and one of a machine at work is its bench's, then what comes into work
runs_on : (m : Machine) → sound_of m ≡ true → (a : AtWork m.bench) (budget buffer : ℕ)
    → (let k = m.bench in
    run_of m budget buffer
    ≡ ran_on m (ran_over k budget (strip_of (capacity_of k.settings) (min budget buffer) k.at k.remainder k.work)))
unfolding run_of
runs_on m e a budget buffer = rw (e, runs m.bench a budget buffer) refl

pub every_run : EveryRun
unfolding bench_run written
every_run κs m budget out out' r h s =
    let e = (sound_is m).1 s in
    let k = (sound m e).bench in
    record {
      idle = λ none.
          let t = rests m e budget out.now (Ok Report.Idle) (rw (k, (nothing_iff m.bench.work).1 none)) in
          rw (h.1, h.0, t) (record { reply = refl; machine = refl; buffer = refl });
      held = λ some mark.
          let t = rests m e budget out.now (Ok Report.Held) (rw (k, busy_is m.bench some, mark)) in
          rw (h.1, h.0, t) (record { reply = refl; machine = refl; buffer = refl });
      works = λ some free.
          let a : AtWork m.bench = record { sound = k; free = free; busy = busy_is m.bench some } in
          rw (h.1, h.0, runs_on m e a budget (length out.now)) (running m budget out.now e a);
    }
