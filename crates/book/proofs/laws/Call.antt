-- Every call keeps a book sound.
use Rattle.std.specs.Prelude.{◌≡◌, Bool, length}
use Rattle.std.proofs.Math.Path.{refl}
use Rattle.std.proofs.Math.Bool.{true, false}
use mathlib.Core.List.{List, [], ◌∷◌, ◌++◌}
use Prim.Native.Nat.{ℕ, zero, suc, ◌+◌, ◌≤◌}
use Rattle.std.proofs.Common.{arith, length-append, ltb-true}
use Rattle.plane.specs.declared.travel.Travel.{Travel}
use Rattle.block.specs.declared.Block.{Block}
use Rattle.block.specs.Questions.{load_no}
use Rattle.block.specs.computed.Chain.{chain_accepted}
use Rattle.block.proofs.laws.Chain.{accepted_more}
use Rattle.book.specs.Bench.{work_end, bench_tick, bench_run}
use Rattle.book.specs.Book.{Book, Call, fresh_book, start_of, fewer_wait, marked, loaded, load_entry, entry, closing}
use Rattle.book.proofs.laws.Load.{room_asked}
use Rattle.book.proofs.laws.Settings.{SettingsRight}
use Rattle.book.proofs.laws.Sound.{Sound, fresh_sound}
use Rattle.book.proofs.laws.Ticking.{ticking_kept, tick_does, run_does, end_stays}
use Rattle.book.proofs.laws.Settled.{settled_kept}

module _ (q0 : ℕ) (t : Travel) where
  -- a block that load accepts can wait behind the others
  pub record Joins (b : Book) (k : Block) : Type 0 where
    pub few : length (b.waiting ++ (k ∷ [])) ≤ 16
    pub accepted : chain_accepted q0 t (work_end b.bench) (b.waiting ++ (k ∷ [])) ≡ true

  pub load_joins : (b : Book) (k : Block) → Sound q0 t b → load_no q0 t (fewer_wait b) (start_of b) k ≡ 0 → Joins b k
  load_joins b k s e =
      let r = room_asked q0 t (fewer_wait b) (start_of b) k e in
      let few = ltb-true (length b.waiting) 16 r.0 in
      let long : length (b.waiting ++ (k ∷ [])) ≡ length b.waiting + 1 = length-append b.waiting (k ∷ []) in
      record { few = omega (arith, few, long); accepted = accepted_more q0 t (work_end b.bench) b.waiting k s.accepted r.1 }

  module _ (settings : SettingsRight q0 t) where
    load_kept : (b : Book) (k : Block) → Sound q0 t b → Sound q0 t (load_entry q0 t b k).next
    unfolding load_entry
    load_kept b k s = by (load_no q0 t (fewer_wait b) (start_of b) k) refl
      where
        by : (n : ℕ) → load_no q0 t (fewer_wait b) (start_of b) k ≡ n → Sound q0 t (loaded b k n).next
        by zero e =
            let joins = load_joins b k s e in
            settled_kept q0 t settings b.bench (b.waiting ++ (k ∷ [])) s.bench joins.few joins.accepted
        by (suc n) e = s

    marked_kept : (b : Book) (mark : Bool) → Sound q0 t b → Sound q0 t (marked mark b).next
    marked_kept b mark s =
        let k = s.bench in
        record {
          bench = record { below = k.below; inside = k.inside; work = k.work };
          few = s.few;
          accepted = s.accepted;
          none = s.none;
        }

    pub call_kept : (b : Book) (c : Call) → Sound q0 t b → Sound q0 t (entry q0 t b c).next
    unfolding chain_accepted
    call_kept b (Call.load k) s = load_kept b k s
    call_kept b Call.tick s =
        let d = tick_does q0 t b s.bench in
        settled_kept q0 t settings (bench_tick q0 b.bench).after b.waiting (ticking_kept q0 t d s.bench) s.few
        (rw (end_stays q0 t d refl) s.accepted)
    call_kept b (Call.run budget buffer) s =
        let d = run_does q0 t b budget buffer s.bench in
        settled_kept q0 t settings (bench_run q0 b.bench budget buffer).after b.waiting (ticking_kept q0 t d s.bench) s.few
        (rw (end_stays q0 t d refl) s.accepted)
    call_kept b Call.hold s = marked_kept b true s
    call_kept b Call.release s = marked_kept b false s
    call_kept b Call.stop s =
        record {
          bench = record { below = omega (arith, settings.some); inside = s.bench.inside; work = tt };
          few = omega arith;
          accepted = refl;
          none = λ i. refl;
        }

    pub closing_sound : (b : Book) (cs : List Call) → Sound q0 t b → Sound q0 t (closing q0 t b cs)
    unfolding closing
    closing_sound b [] s = s
    closing_sound b (c ∷ cs) s = closing_sound (entry q0 t b c).next cs (call_kept b c s)

    -- every book of a history
    pub history_sound : (cs : List Call) → Sound q0 t (closing q0 t fresh_book cs)
    history_sound cs = closing_sound fresh_book cs (fresh_sound settings)
