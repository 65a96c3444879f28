-- Each call on the record that a book tells gives the book's reply and leads to the record that the book then tells.
use Rattle.std.specs.Prelude.{◌≡◌, Bool, true, List, [], ◌∷◌, ◌++◌, ltb, length, Result, Ok, Err, ⊤}
use Rattle.std.proofs.Math.Path.{refl, ap}
use Rattle.std.proofs.Common.{sym, ap₂, ◌∙◌, ltb-true}
use Prim.Native.Nat.{ℕ, zero, suc}
use Rattle.std.proofs.Math.ListN.{take}
use Rattle.question.specs.laws.Number.{number_some}
use Rattle.question.specs.Question.{number_of, number_told}
use Rattle.question.specs.declared.Question.{Question}
use Rattle.plane.specs.declared.point.Point.{Point}
use Rattle.block.specs.declared.Block.{Block}
use Rattle.block.specs.Questions.{ask_load}
use Rattle.block.specs.Chain.{chain_end}
use Rattle.queue.specs.declared.Queue.{Queue}
use Rattle.queue.specs.Queue.{queue_of}
use Rattle.queue.specs.laws.Waiting.{queue_waiting, push_queue, empty_queue_lem}
use Rattle.work.specs.declared.Work.{Work}
use Rattle.work.specs.Work.{is_nothing, begun_of}
use Rattle.run.specs.computed.Run.{written}
use Rattle.settings.specs.declared.Settings.{Settings}
use Rattle.settings.specs.Settings.{capacity_of}
use Rattle.bench.specs.declared.Bench.{Bench}
use Rattle.bench.specs.Bench.{moved_of}
use Rattle.bench.specs.computed.Run.{run_of as bench_run}
use Rattle.bench.specs.laws.Run.{ticks_are}
use Rattle.machine.specs.declared.Answered.{Answered}
use Rattle.machine.specs.computed.Machine.{sound_of}
use Rattle.machine.specs.Machine.{machine_of, start_of}
use Rattle.machine.specs.Calls.{beginning, next_of}
use Rattle.machine.specs.computed.Calls.{takes, load_with, load_of, tick_of, hold_of, release_of, stop_of}
use Rattle.machine.specs.computed.Run.{run_of}
use Rattle.book.specs.Bench.{InWork, bench_tick, work_end, bench_run as book_run, is_nothing as idle, Bench as BookBench}
use Rattle.book.specs.Book.{Book, Call, fewer_wait, settled, entry, loaded, load_entry, start_of as book_start, Reply}
use Rattle.book.proofs.laws.Load.{room_asked}
use Rattle.book.proofs.laws.Sound.{Sound, bench_of}
use Rattle.book.proofs.laws.Ticking.{tick_does, run_does, end_stays}
use Rattle.history.specs.Agree.{work_of}
use Rattle.history.proofs.laws.Record.{record_of}
use Rattle.history.proofs.laws.Record.{bench_told}
use Rattle.history.specs.Reply.{answer_reply, tick_reply, run_reply}
use Rattle.machine.specs.laws.Right.{sound}
use Rattle.history.proofs.laws.Record.{Follows, always_working, same_end}
use Rattle.history.proofs.laws.Next.{begun_is, next_is}
use Rattle.history.proofs.laws.Tick.{tick_is}
use Rattle.history.proofs.laws.Run.{first_bytes, run_is}

-- ---- a block that no question refuses comes into work, or it waits

module _ (s : Settings) (k : Block) where
  abbrev Taken : BookBench → List Block → Type 0
  Taken b l =
      let w : Book = record { bench = b; waiting = l } in
      takes (record_of s w) k (is_nothing (work_of b.work)) (begun_of (book_start w) k) ≡ record_of s (settled b (l ++ (k ∷ [])))

  taken_parts : (at : Point) (mark : Bool) (r : ℕ) (w : InWork) (l : List Block) → ltb (length l) 16 ≡ true → (idle w ≡ true → l ≡ [])
      → start_of (bench_told s (bench_of at mark r w)) (queue_of (work_end (bench_of at mark r w)) l)
      ≡ book_start (record { bench = bench_of at mark r w; waiting = l })
      → Taken (bench_of at mark r w) l
  unfolding settled machine_of chain_end moved_of
  taken_parts at mark r InWork.nothing l room none start =
      rw (none refl)
      (ap₂ (λ (w : Work) (q : Queue). machine_of (beginning (bench_told s (bench_of at mark r InWork.nothing)) w) q)
      (begun_is at k) (sym (empty_queue_lem at) ∙ empty_queue_lem k.end))
  taken_parts at mark r (InWork.working j) l room none start =
      rw (always_working j j.block.path, start)
      (ap (machine_of (bench_told s (bench_of at mark r (InWork.working j)))) (push_queue j.block.end l k (ltb-true (length l) 16 room)))

module _ (s : Settings) (b : Book) (i : Sound (capacity_of s) s.travel b) (e : sound_of (record_of s b) ≡ true) where
  abbrev answers_as : Call → Answered → Type 0
  answers_as c r = Follows s (entry (capacity_of s) s.travel b c) (answer_reply r.answer) r.machine

  -- the block starts from the same place
  start_is : start_of (bench_told s b.bench) (queue_of (work_end b.bench) b.waiting) ≡ book_start b
  start_is = rw (queue_waiting (work_end b.bench) b.waiting, same_end b.bench.at b.bench.work)

  refused_follows : (k : Block) (n : ℕ) → (n ≡ 0 → ⊥) → Follows s (loaded b k n) (Reply.refused n) (record_of s b)
  refused_follows k zero some = absurd (some refl)
  refused_follows k (suc n) some = record { says = refl; leads = refl }

  load_by : (k : Block) (asked : Result ⊤ Question) → ask_load (capacity_of s) s.travel (fewer_wait b) (book_start b) k ≡ asked
      → (let r = load_with (record_of s b) k asked in Follows s (loaded b k (number_told asked)) (answer_reply r.answer) r.machine)
  unfolding begun_of machine_of
  load_by k (Ok passed) asked =
      let room = (room_asked (capacity_of s) s.travel (fewer_wait b) (book_start b) k (ap number_told asked)).0 in
      rw start_is
      (record {
        says = refl;
        leads = taken_parts s k b.bench.at b.bench.mark b.bench.remainder b.bench.work b.waiting room i.none start_is;
      })
  load_by k (Err q) asked = refused_follows k (number_of q) (number_some q)

  pub load_follows : (k : Block) → answers_as (Call.load k) (load_of (record_of s b) k)
  unfolding load_of load_entry queue_of machine_of
  load_follows k = rw (e, start_is) (load_by k (ask_load (capacity_of s) s.travel (fewer_wait b) (book_start b) k) refl)

  -- ---- tick and run: the bench's, and then the next block

  abbrev place : Point
  place = work_end b.bench

  -- the end of the block in work, behind which the others wait, stays where it is
  next_follows : {k : Bench} (after : BookBench) → k ≡ bench_told s after → work_end after ≡ place
      → next_of k (queue_of place b.waiting) ≡ record_of s (settled after b.waiting)
  next_follows after is same =
      ap₂ (λ (k : Bench) (p : Point). next_of k (queue_of p b.waiting)) is (sym same) ∙ next_is s after b.waiting i.few

  pub tick_follows :
      (let r = tick_of (record_of s b) in Follows s (entry (capacity_of s) s.travel b Call.tick) (tick_reply r.tick) r.machine)
  unfolding tick_of machine_of
  tick_follows =
      let does = tick_does (capacity_of s) s.travel b i.bench in
      rw (e, tick_is s b.bench i.bench (sound (record_of s b) e).bench)
      (record {
        says = refl;
        leads = next_follows (bench_tick (capacity_of s) b.bench).after refl (end_stays (capacity_of s) s.travel does refl);
      })

  pub run_follows : (budget : ℕ) (out : List ℕ)
      → (let r = run_of (record_of s b) budget (length out) in
      Follows s (entry (capacity_of s) s.travel b (Call.run budget (length out)))
      (run_reply r.ran.report r.ran.ticks (take r.ran.ticks (written r.bytes out))) r.ran.machine)
  unfolding run_of machine_of
  run_follows budget out =
      let k = bench_told s b.bench in
      let r = bench_run k budget (length out) in
      let bytes : take r.ran.ticks (written r.bytes out) ≡ r.bytes =
      rw (ticks_are k budget (length out)) (first_bytes r.bytes out) in
      let told = run_is s budget (length out) b.bench i.bench (sound (record_of s b) e).bench in
      let does = run_does (capacity_of s) s.travel b budget (length out) i.bench in
      rw (e, bytes)
      (record {
        says = told.says;
        leads = next_follows (book_run (capacity_of s) b.bench budget (length out)).after told.leaves
            (end_stays (capacity_of s) s.travel does refl);
      })

  -- ---- hold, release, stop

  pub hold_follows : answers_as Call.hold (hold_of (record_of s b))
  unfolding hold_of machine_of
  hold_follows = rw e (record { says = refl; leads = refl })

  pub release_follows : answers_as Call.release (release_of (record_of s b))
  unfolding release_of machine_of
  release_follows = rw e (record { says = refl; leads = refl })

  pub stop_follows : answers_as Call.stop (stop_of (record_of s b))
  unfolding stop_of machine_of moved_of
  stop_follows =
      let k = bench_of b.bench.at b.bench.mark 0 InWork.nothing in
      rw e (record { says = refl; leads = ap (machine_of (bench_told s k)) (empty_queue_lem b.bench.at) })
