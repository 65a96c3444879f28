-- What holds of every block as it comes into work holds of its account ever after: ticks and a stop change neither block nor start nor
-- remainder. Of a block that waits it holds as if it began where it is to start, with remainder 0.
use Rattle.std.specs.Prelude.{◌≡◌, true}
use Rattle.std.proofs.Math.Path.{refl}
use mathlib.Core.List.{List, [], ◌∷◌, ◌++◌}
use Prim.Native.Nat.{ℕ, zero, suc, ◌*◌, ◌<◌}
use Rattle.std.proofs.Common.{arith}
use Rattle.plane.specs.declared.point.Point.{Point}
use Rattle.plane.specs.declared.travel.Travel.{Travel}
use Rattle.plane.specs.laws.Travel.{Bounded, inside}
use Rattle.circle.specs.Charge.{straight}
use Rattle.block.specs.declared.Block.{Block}
use Rattle.block.specs.Questions.{load_no}
use Rattle.block.specs.computed.Chain.{chain_accepted}
use Rattle.block.proofs.laws.Accepted.{yes}
use Rattle.block.proofs.laws.Chain.{accepted_first}
use Rattle.book.specs.Bench.{InWork, Bench, end_in, work_end}
use Rattle.book.specs.Book.{Book, Call, fresh_book, start_of, fewer_wait, loaded, load_entry, entry, closing}
use Rattle.book.specs.Ledger.{Fate, Account, comes_in, opened, while_in_work, newest, worked, unbegun, accounts_after, ledger, accounts}
use Rattle.book.specs.Ledger.{Every}
use Rattle.book.proofs.laws.Settings.{SettingsRight}
use Rattle.book.proofs.laws.Load.{LoadRight, load_right}
use Rattle.book.proofs.laws.Sound.{BenchSound, Sound, Below, end_inside, fresh_sound}
use Rattle.book.proofs.laws.Ticking.{Ticking, ticking_kept, tick_does, run_does, end_stays}
use Rattle.book.proofs.laws.Call.{load_joins, call_kept, history_sound}

module _ (P : Block → (start : Point) (remainder : ℕ) → Type 0) where
  abbrev pub Holds : Account → Type 0
  Holds a = P a.block a.start a.remainder

  worked_holds : (n : ℕ) (fate : Fate) (l : List Account) → Every Holds l → Every Holds (newest (worked n fate) l)
  worked_holds n fate [] h = tt
  worked_holds n fate (a ∷ l) h = (by a.fate, h.1)
    where
      by : (f : Fate) → Holds (while_in_work (worked n fate) a f)
      by Fate.is_waiting = h.0
      by Fate.in_work = h.0
      by (Fate.ended_at p) = h.0
      by Fate.was_stopped = h.0
      by Fate.stopped_waiting = h.0

  module _ (q0 : ℕ) (t : Travel) (settings : SettingsRight q0 t)
      (begins : (start : Point) (r : ℕ) (k : Block) → Bounded t start → r < straight * q0 → load_no q0 t true start k ≡ 0
      → LoadRight q0 t start k → P k start r) where
    -- the first of an accepted chain
    first_holds : (start : Point) (r : ℕ) (b : Block) (l : List Block) → Bounded t start → r < straight * q0
        → chain_accepted q0 t start (b ∷ l) ≡ true → P b start r
    first_holds start r b l here below e =
        let asked = (accepted_first q0 t start b l e).0 in
        begins start r b here below asked (load_right q0 t settings.wide start b here asked)

    comes_holds : (k : Bench) (l : List Block) (older : List Account) → BenchSound q0 t k → chain_accepted q0 t (work_end k) l ≡ true
        → Every Holds older → Every Holds (comes_in k k.work l older)
    comes_holds k l older s e h = by k.work l s.below e
      where
        by : (w : InWork) (l : List Block) → Below q0 w k.remainder → chain_accepted q0 t (end_in k.at w) l ≡ true
            → Every Holds (comes_in k w l older)
        by InWork.nothing [] below e = h
        by InWork.nothing (b ∷ l) below e = (first_holds k.at k.remainder b l s.inside below e, h)
        by (InWork.working j) l below e = h

    unbegun_holds : (f : Fate) (start : Point) (l : List Block) (older : List Account) → Bounded t start
        → chain_accepted q0 t start l ≡ true
        → Every Holds older → Every Holds (unbegun f start l older)
    unbegun_holds f start [] older here e h = h
    unbegun_holds f start (b ∷ l) older here e h =
        let r = accepted_first q0 t start b l e in
        unbegun_holds f b.end l _ (inside (yes q0 t true start b r.0).end_in_lem) r.1
        (first_holds start 0 b l here (omega (arith, settings.some)) e, h)

    load_holds : (b : Book) (k : Block) (older : List Account) → Sound q0 t b → Every Holds older
        → Every Holds (opened b k (load_entry q0 t b k).reply older)
    unfolding load_entry
    load_holds b k older s h = by (load_no q0 t (fewer_wait b) (start_of b) k) refl
      where
        by : (n : ℕ) → load_no q0 t (fewer_wait b) (start_of b) k ≡ n
            → Every Holds (opened b k (loaded b k n).reply older)
        by zero e = comes_holds b.bench (b.waiting ++ (k ∷ [])) older s.bench (load_joins q0 t b k s e).accepted h
        by (suc n) e = h

    ticked_holds : (b : Book) {bytes : List ℕ} {n : ℕ} {after : Bench} (older : List Account)
        → Ticking q0 t b.bench b.bench.work bytes n after → Sound q0 t b → Every Holds older
        → Every Holds (comes_in after after.work b.waiting older)
    ticked_holds b {after = after} older d s h =
        comes_holds after b.waiting older (ticking_kept q0 t d s.bench) (rw (end_stays q0 t d refl) s.accepted) h

    call_holds : (b : Book) (c : Call) (older : List Account) → Sound q0 t b → Every Holds older
        → Every Holds (accounts_after q0 t b c older)
    call_holds b (Call.load k) older s h = load_holds b k older s h
    call_holds b Call.tick older s h = ticked_holds b _ (tick_does q0 t b s.bench) s (worked_holds _ _ older h)
    call_holds b (Call.run budget buffer) older s h =
        ticked_holds b _ (run_does q0 t b budget buffer s.bench) s (worked_holds _ _ older h)
    call_holds b Call.hold older s h = h
    call_holds b Call.release older s h = h
    call_holds b Call.stop older s h =
        unbegun_holds Fate.stopped_waiting (work_end b.bench) b.waiting _ (end_inside s.bench) s.accepted
        (worked_holds 0 Fate.was_stopped older h)

    ledger_holds : (b : Book) (cs : List Call) (older : List Account) → Sound q0 t b → Every Holds older
        → Every Holds (ledger q0 t older b cs)
    unfolding ledger
    ledger_holds b [] older s h = h
    ledger_holds b (c ∷ cs) older s h =
        ledger_holds (entry q0 t b c).next cs (accounts_after q0 t b c older) (call_kept q0 t settings b c s) (call_holds b c older s h)

    pub accounts_hold : (cs : List Call) → Every Holds (accounts q0 t cs)
    accounts_hold cs =
        let b = closing q0 t fresh_book cs in
        let s = history_sound q0 t settings cs in
        unbegun_holds Fate.is_waiting (work_end b.bench) b.waiting _ (end_inside s.bench) s.accepted
        (ledger_holds fresh_book cs [] (fresh_sound settings) tt)
