-- The unit of feed numbers does not show in a history: with the capacity u times as much and every load's feed too, every answer and tick
-- byte is the same, so are point, mark, cycles done and what waits, and the remainder is u times as much. 02 §4: "Jobs whose F words have
-- no point must, from a fresh machine, give the same pulses on the same ticks as before."
use Rattle.std.proofs.Math.Path.{◌≡◌, refl, ap}
use Rattle.std.proofs.Common.{sym, ◌∙◌, arith}
use Rattle.std.specs.Prelude.{Bool, eqb, length}
use Rattle.std.proofs.Math.Bool.{true, false, cond}
use mathlib.Core.List.{List, [], ◌∷◌, ◌++◌}
use Prim.Native.Nat.{ℕ, zero, suc, ◌+◌, ◌*◌, ◌≤◌, min}
use Rattle.plane.specs.declared.point.Point.{Point}
use Rattle.plane.specs.declared.travel.Travel.{Travel}
use Rattle.divider.specs.declared.Fed.{Fed}
use Rattle.divider.specs.Divider.{fed_of, added_at}
use Rattle.divider.specs.laws.Unit.{times_fed, leb_times, one_times, fed_times, end_times, times_minus}
use Rattle.block.specs.declared.Block.{Block}
use Rattle.block.specs.Block.{block_cycles, block_point}
use Rattle.block.specs.Chain.{end_after, chain_end}
use Rattle.block.specs.Charge.{block_charge, block_charges}
use Rattle.block.specs.Feed.{finer}
use Rattle.block.specs.Questions.{feed_right, load_no}
use Rattle.block.proofs.laws.Feed.{cycles_at_feed, point_at_feed, width_at_feed, charge_at_feed, charges_at_feed, load_at_feed}
use Rattle.book.specs.Bench.{BlockInWork, InWork, Bench, Ticked, TicksDone, Ran, Report, is_nothing, work_end, end_in, added_by}
use Rattle.book.specs.Bench.{cycle_due, resting, cycle_tick, fed_tick, tick_with, bench_tick, in_front, ticks_done, ran_over, run_with}
use Rattle.book.specs.Bench.{bench_run}
use Rattle.book.specs.Book.{Book, Call, Reply, Entry, fresh_book, start_of, fewer_wait, settled_with, settled, loaded, load_entry, entry}
use Rattle.book.specs.Book.{replies, closing}
use Rattle.book.specs.Ledger.{block_ticks, block_leaves}
use Rattle.book.specs.Unit.{finer_call, finer_calls}

-- ---- the same in a unit u times as fine

abbrev finer_block_in_work : (u : ℕ) → BlockInWork → BlockInWork
finer_block_in_work u j = record { block = finer u j.block; start = j.start; done = j.done }

abbrev finer_work : (u : ℕ) → InWork → InWork
finer_work u InWork.nothing = InWork.nothing
finer_work u (InWork.working j) = InWork.working (finer_block_in_work u j)

abbrev finer_bench : (u : ℕ) → Bench → Bench
finer_bench u b = record { at = b.at; mark = b.mark; remainder = u * b.remainder; work = finer_work u b.work }

abbrev finer_waiting : (u : ℕ) → List Block → List Block
finer_waiting u [] = []
finer_waiting u (b ∷ l) = finer u b ∷ finer_waiting u l

abbrev pub finer_book : (u : ℕ) → Book → Book
finer_book u b = record { bench = finer_bench u b.bench; waiting = finer_waiting u b.waiting }

abbrev finer_ticked : (u : ℕ) → Ticked → Ticked
finer_ticked u t = record { byte = t.byte; after = finer_bench u t.after }

abbrev finer_done : (u : ℕ) → TicksDone → TicksDone
finer_done u s = record { bytes = s.bytes; last = finer_bench u s.last; ended = s.ended }

abbrev finer_ran : (u : ℕ) → Ran → Ran
finer_ran u r = record { report = r.report; bytes = r.bytes; after = finer_bench u r.after }

abbrev finer_entry : (u : ℕ) → Entry → Entry
finer_entry u e = record { reply = e.reply; next = finer_book u e.next }

-- ---- what looks at no feed

module _ (u : ℕ) where
  same_idle : (w : InWork) → is_nothing (finer_work u w) ≡ is_nothing w
  same_idle InWork.nothing = refl
  same_idle (InWork.working j) = refl

  same_end : (at : Point) (w : InWork) → end_in at (finer_work u w) ≡ end_in at w
  same_end at InWork.nothing = refl
  same_end at (InWork.working j) = refl

  same_chain : (start : Point) (l : List Block) → chain_end start (finer_waiting u l) ≡ chain_end start l
  unfolding chain_end
  same_chain start [] = refl
  same_chain start (b ∷ l) = same_chain (end_after start b) l

  same_many : (l : List Block) → length (finer_waiting u l) ≡ length l
  same_many [] = refl
  same_many (b ∷ l) = ap suc (same_many l)

  more_wait : (l : List Block) (k : Block) → finer_waiting u l ++ (finer u k ∷ []) ≡ finer_waiting u (l ++ (k ∷ []))
  more_wait [] k = refl
  more_wait (b ∷ l) k = ap (λ (m : List Block). finer u b ∷ m) (more_wait l k)

  same_start : (b : Book) → start_of (finer_book u b) ≡ start_of b
  same_start b =
      ap (λ (p : Point). chain_end p (finer_waiting u b.waiting)) (same_end b.bench.at b.bench.work)
      ∙ same_chain (work_end b.bench) b.waiting

  settled_with_lem : (k : Bench) (w : InWork) (l : List Block)
      → settled_with (finer_bench u k) (finer_work u w) (finer_waiting u l) ≡ finer_book u (settled_with k w l)
  settled_with_lem k (InWork.working j) l = refl
  settled_with_lem k InWork.nothing [] = refl
  settled_with_lem k InWork.nothing (b ∷ l) = refl

  settled_finer : (k : Bench) (l : List Block) → settled (finer_bench u k) (finer_waiting u l) ≡ finer_book u (settled k l)
  unfolding settled
  settled_finer k l = settled_with_lem k k.work l

module _ (u : ℕ) (some : 1 ≤ u) (q0 : ℕ) where
  -- a tick adds u times as much, and a cycle is due at u times as much
  added_times : (f : ℕ) → added_at (u * f) ≡ u * added_at f
  added_times f = omega arith

  due_times : (charge : ℕ) → charge * (u * q0) ≡ u * (charge * q0)
  due_times charge = omega arith

  -- ---- load

  -- "Is f in 1..q0? 11."
  right_times : (f : ℕ) → feed_right (u * q0) (u * f) ≡ feed_right q0 f
  right_times f = rw (one_times u some f, leb_times u some f q0)

  pub load_finer : (travel : Travel) (room : Bool) (start : Point) (b : Block)
      → load_no (u * q0) travel room start (finer u b) ≡ load_no q0 travel room start b
  load_finer travel room start b = load_at_feed (u * b.feed) start b (u * q0) q0 travel room (right_times b.feed)

  loaded_finer : (b : Book) (k : Block) (number : ℕ) → loaded (finer_book u b) (finer u k) number ≡ finer_entry u (loaded b k number)
  loaded_finer b k zero =
      rw (
        same_start u b,
        width_at_feed (u * k.feed) (start_of b) k,
        more_wait u b.waiting k,
        settled_finer u b.bench (b.waiting ++ (k ∷ [])),
      )
  loaded_finer b k (suc n) = refl

  load_entry_lem : (travel : Travel) (b : Book) (k : Block)
      → load_entry (u * q0) travel (finer_book u b) (finer u k) ≡ finer_entry u (load_entry q0 travel b k)
  unfolding load_entry
  load_entry_lem travel b k =
      rw (same_many u b.waiting, same_start u b, load_finer travel (fewer_wait b) (start_of b) k)
      (loaded_finer b k (load_no q0 travel (fewer_wait b) (start_of b) k))

  -- ---- tick

  cycle_finer : (b : Bench) (j : BlockInWork) (r : ℕ)
      → cycle_tick (finer_bench u b) (finer_block_in_work u j) (u * r) ≡ finer_ticked u (cycle_tick b j r)
  unfolding cycle_tick
  cycle_finer b j r =
      let f = u * j.block.feed in
      rw (point_at_feed f j.start j.block (j.done + 1), cycles_at_feed f j.start j.block)
      (by (eqb (j.done + 1) (block_cycles j.start j.block)))
    where
      by : (last : Bool) → ◌≡◌ {A = Ticked}
          (record {
            byte = (cycle_tick b j r).byte;
            after = record {
              at = block_point j.start j.block (j.done + 1);
              mark = b.mark;
              remainder = u * r;
              work = cond last InWork.nothing
                  (InWork.working (record { block = finer u j.block; start = j.start; done = j.done + 1 }));
            };
          })
          (record {
            byte = (cycle_tick b j r).byte;
            after = record {
              at = block_point j.start j.block (j.done + 1);
              mark = b.mark;
              remainder = u * r;
              work = finer_work u (cond last InWork.nothing
                  (InWork.working (record { block = j.block; start = j.start; done = j.done + 1 })));
            };
          })
      by true = refl
      by false = refl

  fed_finer : (b : Bench) (j : BlockInWork) (f : Fed)
      → fed_tick (finer_bench u b) (finer_block_in_work u j) (times_fed u f) ≡ finer_ticked u (fed_tick b j f)
  fed_finer b j f = by f.cycle
    where
      by : (cycle : Bool)
          → cond cycle (cycle_tick (finer_bench u b) (finer_block_in_work u j) (u * f.remainder))
          (record { byte = 0; after = record { at = b.at; mark = b.mark; remainder = u * f.remainder; work = finer_work u b.work } })
          ≡ finer_ticked u
          (cond cycle (cycle_tick b j f.remainder)
          (record { byte = 0; after = record { at = b.at; mark = b.mark; remainder = f.remainder; work = b.work } }))
      by true = cycle_finer b j f.remainder
      by false = refl

  -- what the divider is given, all times u
  fed_same : (j : BlockInWork) (r : ℕ)
      → fed_of (cycle_due (u * q0) (finer_block_in_work u j)) (added_by (finer u j.block)) (u * r)
      ≡ times_fed u (fed_of (cycle_due q0 j) (added_by j.block) r)
  fed_same j r =
      let c = block_charge j.start j.block j.done in
      rw (charge_at_feed (u * j.block.feed) j.start j.block j.done, due_times c, added_times j.block.feed)
      (fed_times u some (c * q0) (added_at j.block.feed) r)

  tick_with_lem : (b : Bench) (w : InWork) → tick_with (u * q0) (finer_bench u b) (finer_work u w) ≡ finer_ticked u (tick_with q0 b w)
  tick_with_lem b InWork.nothing = refl
  tick_with_lem b (InWork.working j) = by b.mark
    where
      by : (mark : Bool)
          → cond mark (resting (finer_bench u b))
          (fed_tick (finer_bench u b) (finer_block_in_work u j)
          (fed_of (cycle_due (u * q0) (finer_block_in_work u j)) (added_by (finer u j.block)) (u * b.remainder)))
          ≡ finer_ticked u (cond mark (resting b) (fed_tick b j (fed_of (cycle_due q0 j) (added_by j.block) b.remainder)))
      by true = refl
      by false =
          ap (fed_tick (finer_bench u b) (finer_block_in_work u j)) (fed_same j b.remainder)
          ∙ fed_finer b j (fed_of (cycle_due q0 j) (added_by j.block) b.remainder)

  tick_finer : (b : Bench) → bench_tick (u * q0) (finer_bench u b) ≡ finer_ticked u (bench_tick q0 b)
  unfolding bench_tick
  tick_finer b = tick_with_lem b b.work

  -- ---- run

  in_front_lem : (ended : Bool) (t : Ticked) (s : TicksDone)
      → in_front ended (finer_ticked u t) (finer_done u s) ≡ finer_done u (in_front ended t s)
  in_front_lem true t s = refl
  in_front_lem false t s = refl

  done_finer : (most : ℕ) (b : Bench) → ticks_done (u * q0) most (finer_bench u b) ≡ finer_done u (ticks_done q0 most b)
  unfolding ticks_done
  done_finer zero b = refl
  done_finer (suc n) b =
      let t = bench_tick q0 b in
      rw (tick_finer b, same_idle u t.after.work, done_finer n t.after)
      (in_front_lem (is_nothing t.after.work) t (ticks_done q0 n t.after))

  run_with_lem : (b : Bench) (w : InWork) (budget buffer : ℕ)
      → run_with (u * q0) (finer_bench u b) (finer_work u w) budget buffer ≡ finer_ran u (run_with q0 b w budget buffer)
  run_with_lem b InWork.nothing budget buffer = refl
  run_with_lem b (InWork.working j) budget buffer = by b.mark
    where
      by : (mark : Bool)
          → cond mark (record { report = Report.held; bytes = []; after = finer_bench u b })
          (ran_over budget (ticks_done (u * q0) (min budget buffer) (finer_bench u b)))
          ≡ finer_ran u (cond mark (record { report = Report.held; bytes = []; after = b })
          (ran_over budget (ticks_done q0 (min budget buffer) b)))
      by true = refl
      by false = ap (ran_over budget) (done_finer (min budget buffer) b)

  run_finer : (b : Bench) (budget buffer : ℕ)
      → bench_run (u * q0) (finer_bench u b) budget buffer ≡ finer_ran u (bench_run q0 b budget buffer)
  unfolding bench_run
  run_finer b budget buffer = run_with_lem b b.work budget buffer

  -- ---- the whole history

  module _ (travel : Travel) where
    entry_finer : (b : Book) (c : Call) → entry (u * q0) travel (finer_book u b) (finer_call u c) ≡ finer_entry u (entry q0 travel b c)
    entry_finer b (Call.load k) = load_entry_lem travel b k
    entry_finer b Call.tick =
        let t = bench_tick q0 b.bench in rw (tick_finer b.bench, settled_finer u t.after b.waiting)
    entry_finer b (Call.run budget buffer) =
        let r = bench_run q0 b.bench budget buffer in rw (run_finer b.bench budget buffer, settled_finer u r.after b.waiting)
    entry_finer b Call.hold = refl
    entry_finer b Call.release = refl
    entry_finer b Call.stop = ap (λ (r : ℕ). stopped_at r) none
      where
        stopped_at : (remainder : ℕ) → Entry
        stopped_at r =
            record {
              reply = Reply.done;
              next = record {
                bench = record { at = b.bench.at; mark = b.bench.mark; remainder = r; work = InWork.nothing };
                waiting = [];
              };
            }

        none : 0 ≡ u * 0
        none = omega arith

    replies_finer : (b : Book) (cs : List Call) → replies (u * q0) travel (finer_book u b) (finer_calls u cs) ≡ replies q0 travel b cs
    unfolding replies
    replies_finer b [] = refl
    replies_finer b (c ∷ cs) =
        let e = entry q0 travel b c in rw (entry_finer b c) (ap (λ (rs : List Reply). e.reply ∷ rs) (replies_finer e.next cs))

    closing_finer : (b : Book) (cs : List Call)
        → closing (u * q0) travel (finer_book u b) (finer_calls u cs) ≡ finer_book u (closing q0 travel b cs)
    unfolding closing
    closing_finer b [] = refl
    closing_finer b (c ∷ cs) =
        ap (λ (e : Entry). closing (u * q0) travel e.next (finer_calls u cs)) (entry_finer b c)
        ∙ closing_finer (entry q0 travel b c).next cs

    fresh_book_lem : finer_book u fresh_book ≡ fresh_book
    fresh_book_lem = by (u * 0) (omega arith)
      where
        by : (r : ℕ) → r ≡ 0 → ◌≡◌ {A = Book}
            (record {
              bench = record { at = fresh_book.bench.at; mark = false; remainder = r; work = InWork.nothing };
              waiting = [];
            })
            fresh_book
        by r e = rw e

    -- "from a fresh machine": every answer and tick byte, and the book after them
    pub history_finer : (cs : List Call) → replies (u * q0) travel fresh_book (finer_calls u cs) ≡ replies q0 travel fresh_book cs
    history_finer cs = ap (λ (b : Book). replies (u * q0) travel b (finer_calls u cs)) (sym fresh_book_lem) ∙ replies_finer fresh_book cs

    pub closing_fresh : (cs : List Call)
        → closing (u * q0) travel fresh_book (finer_calls u cs) ≡ finer_book u (closing q0 travel fresh_book cs)
    closing_fresh cs = ap (λ (b : Book). closing (u * q0) travel b (finer_calls u cs)) (sym fresh_book_lem) ∙ closing_finer fresh_book cs

  -- ---- the ticks that the feed gives a block, and the remainder that it leaves

  pub ticks_finer : (r : ℕ) (start : Point) (b : Block) → block_ticks (u * q0) (u * r) start (finer u b) ≡ block_ticks q0 r start b
  ticks_finer r start b =
      rw (charges_at_feed (u * b.feed) start b, due_times (block_charges start b), added_times b.feed)
      (end_times u some (block_charges start b * q0) (added_at b.feed) r)

  pub leaves_finer : (r : ℕ) (start : Point) (b : Block) → block_leaves (u * q0) (u * r) start (finer u b) ≡ u * block_leaves q0 r start b
  leaves_finer r start b =
      let t = block_ticks q0 r start b in
      let C = block_charges start b in
      let sum : u * r + t * (u * added_at b.feed) ≡ u * (r + t * added_at b.feed) = omega arith in
      rw (ticks_finer r start b, charges_at_feed (u * b.feed) start b, due_times C, added_times b.feed, sum)
      (times_minus u (r + t * added_at b.feed) (C * q0))
