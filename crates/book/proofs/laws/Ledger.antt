-- Every account is right: a block has ended exactly on its end tick, at its commanded end, and before that it has had fewer ticks; while it
-- waits it has none.
use Rattle.std.specs.Prelude.{◌≡◌, length}
use Rattle.std.proofs.Math.Path.{refl, subst}
use Rattle.std.proofs.Common.{sym, ap, ◌∙◌}
use mathlib.Core.List.{List, [], ◌∷◌, ◌++◌}
use Prim.Native.Nat.{ℕ, zero, suc, ◌+◌, ◌*◌, ◌<◌}
use native.Mathlib.Omega.{arith}
use Rattle.plane.specs.declared.point.Point.{Point}
use Rattle.plane.specs.declared.travel.Travel.{Travel}
use Rattle.divider.specs.laws.AddUp.{fewer, exactly}
use Rattle.block.specs.declared.Block.{Block}
use Rattle.block.specs.Charge.{charges_to}
use Rattle.block.specs.Questions.{load_no}
use Rattle.book.specs.Bench.{BlockInWork, InWork, Bench, added_by, cycle_due, work_end, bench_tick, bench_run}
use Rattle.book.specs.Book.{Book, Call, fresh_book, start_of, fewer_wait, settled_with, settled, loaded, load_entry, entry, closing}
use Rattle.book.specs.Ledger.{Fate, Account, account, comes_in, opened, while_in_work, newest, worked, fate_at, unbegun, accounts_after}
use Rattle.book.specs.Ledger.{ledger, accounts, ticks_given, RightFate, Right, Every}
use Rattle.book.proofs.laws.Settings.{SettingsRight}
use Rattle.book.proofs.laws.Sound.{JobSound, WorkSound, BenchSound, Sound, job_paid, job_charges, Below, due_within, fresh_sound}
use Rattle.book.proofs.laws.Stretch.{Left, Stretch, stretch_charges}
use Rattle.book.proofs.laws.Ticking.{Ticking, rests, works, tick_does, run_does}
use Rattle.book.proofs.laws.Call.{call_kept, history_sound}

-- ---- the accounts and the book

-- the account of the block in work
pub record Open (q0 : ℕ) (r : ℕ) (j : BlockInWork) (a : Account) : Type 0 where
  pub fate : a.fate ≡ Fate.in_work
  pub block : a.block ≡ j.block
  pub start : a.start ≡ j.start
  pub fed : job_paid j * q0 + r ≡ a.remainder + a.ticks * added_by j.block

-- the account of a block no longer in work, and right
abbrev pub ClosedFate : (q0 : ℕ) → Account → Fate → Type 0
ClosedFate q0 a Fate.is_waiting = ⊥
ClosedFate q0 a Fate.in_work = ⊥
ClosedFate q0 a (Fate.ended_at p) = RightFate q0 a (Fate.ended_at p)
ClosedFate q0 a Fate.was_stopped = RightFate q0 a Fate.was_stopped
ClosedFate q0 a Fate.stopped_waiting = RightFate q0 a Fate.stopped_waiting

abbrev pub Closed : (q0 : ℕ) → Account → Type 0
Closed q0 a = ClosedFate q0 a a.fate

-- the newest of the ledger is the book's block in work, where there is one; the others are closed
abbrev pub Agree : (q0 : ℕ) → (r : ℕ) → InWork → List Account → Type 0
Agree q0 r InWork.nothing l = Every (Closed q0) l
Agree q0 r (InWork.working j) [] = ⊥
Agree q0 r (InWork.working j) (a ∷ l) = Open q0 r j a × Every (Closed q0) l

-- ---- so every account is right

closed_right : (q0 : ℕ) (a : Account) (f : Fate) → ClosedFate q0 a f → RightFate q0 a f
closed_right q0 a Fate.is_waiting h = absurd h
closed_right q0 a Fate.in_work h = absurd h
closed_right q0 a (Fate.ended_at p) h = h
closed_right q0 a Fate.was_stopped h = h
closed_right q0 a Fate.stopped_waiting h = h

all_right : (q0 : ℕ) (l : List Account) → Every (Closed q0) l → Every (Right q0) l
all_right q0 [] h = tt
all_right q0 (a ∷ l) h = (closed_right q0 a a.fate h.0, all_right q0 l h.1)

-- the block in work has had fewer ticks than it will have had at its end
open_fewer : {q0 : ℕ} {t : Travel} {at : Point} {r : ℕ} {j : BlockInWork} {a : Account} → JobSound q0 t at j → r < cycle_due q0 j
    → Open q0 r j a
    → a.ticks < ticks_given q0 a
open_fewer {q0} {r = r} {j = j} {a = a} s below o =
    rw (o.block, o.start)
    (fewer (job_charges j * q0) (added_by j.block) a.remainder (omega (arith, s.some)) a.ticks (job_paid j * q0) r (cycle_due q0 j)
    o.fed below (due_within s))

work_right_lem : (q0 : ℕ) (t : Travel) (at : Point) (r : ℕ) (w : InWork) (l : List Account) → WorkSound q0 t at w → Below q0 w r
    → Agree q0 r w l → Every (Right q0) l
work_right_lem q0 t at r InWork.nothing l s below h = all_right q0 l h
work_right_lem q0 t at r (InWork.working j) [] s below h = absurd h
work_right_lem q0 t at r (InWork.working j) (a ∷ l) s below h =
    (subst (RightFate q0 a) (sym h.0.fate) (open_fewer s below h.0), all_right q0 l h.1)

-- ---- each call keeps the agreement

closed_same : (q0 : ℕ) (g : Account → Account) (a : Account) (f : Fate) → ClosedFate q0 a f → while_in_work g a f ≡ a
closed_same q0 g a Fate.is_waiting h = absurd h
closed_same q0 g a Fate.in_work h = absurd h
closed_same q0 g a (Fate.ended_at p) h = refl
closed_same q0 g a Fate.was_stopped h = refl
closed_same q0 g a Fate.stopped_waiting h = refl

-- where nothing is in work nothing is touched
pub untouched : (q0 : ℕ) (g : Account → Account) (l : List Account) → Every (Closed q0) l → newest g l ≡ l
untouched q0 g [] h = refl
untouched q0 g (a ∷ l) h = ap (λ (c : Account). c ∷ l) (closed_same q0 g a a.fate h.0)

-- the account in work is
pub touched : {q0 r : ℕ} {j : BlockInWork} {a : Account} (g : Account → Account) → Open q0 r j a → while_in_work g a a.fate ≡ g a
touched {a = a} g o = ap (while_in_work g a) o.fate

-- accounts of blocks that did not come into work
unbegun_every : (P : Account → Type 0) (f : Fate) → ((start : Point) (k : Block) → P (account f start 0 k))
    → (start : Point) (l : List Block) (older : List Account) → Every P older → Every P (unbegun f start l older)
unbegun_every P f each start [] older h = h
unbegun_every P f each start (k ∷ l) older h = unbegun_every P f each k.end l _ (each start k, h)

module _ (q0 : ℕ) (t : Travel) where
  -- a tick that does nothing
  resting : (at : Point) (r : ℕ) (w : InWork) (l : List Account) → Agree q0 r w l → Agree q0 r w (newest (worked 0 (fate_at at w)) l)
  resting at r InWork.nothing l h = subst (Every (Closed q0)) (sym (untouched q0 _ l h)) h
  resting at r (InWork.working j) [] h = absurd h
  resting at r (InWork.working j) (a ∷ l) h =
      let o = h.0 in (
        subst (Open q0 r j) (sym (touched (worked 0 Fate.in_work) o))
            (record { fate = refl; block = o.block; start = o.start; fed = omega (arith, o.fed) }),
        h.1,
      )

  -- a stretch
  stretched : {at : Point} {r : ℕ} {j : BlockInWork} {bytes : List ℕ} {after : Bench} (n : ℕ) → n ≡ length bytes → JobSound q0 t at j
      → Stretch q0 t at r j bytes after → (l : List Account) → Agree q0 r (InWork.working j) l
      → Agree q0 after.remainder after.work (newest (worked n (fate_at after.at after.work)) l)
  stretched n len s x [] h = absurd h
  stretched {r = r} {j = j} {bytes = bytes} {after = after} n len s x (a ∷ l) h =
      subst (λ (c : Account). Agree q0 after.remainder after.work (c ∷ l))
      (sym (touched (worked n (fate_at after.at after.work)) h.0))
      (by after.work x.left)
    where
      o : Open q0 r j a
      o = h.0

      sum : (c k : ℕ) → c * q0 + after.remainder ≡ r + n * added_by j.block → job_paid j + c ≡ k
          → k * q0 + after.remainder ≡ a.remainder + (a.ticks + n) * added_by j.block
      sum c k e all = omega (arith, o.fed, ap (λ (m : ℕ). m * q0) all)

      fed : (k : ℕ) → job_paid j + stretch_charges j bytes ≡ k
          → k * q0 + after.remainder ≡ a.remainder + (a.ticks + n) * added_by j.block
      fed k all = sum (stretch_charges j bytes) k (rw len x.feeds) all

      by : (w : InWork) → Left j (stretch_charges j bytes) after.at after.remainder w
          → Agree q0 after.remainder w (worked n (fate_at after.at w) a ∷ l)
      by InWork.nothing over = (
        (
          rw (o.block, o.start)
              (exactly (job_charges j * q0) (added_by j.block) a.remainder (omega (arith, s.some)) (a.ticks + n) after.remainder
              (fed (job_charges j) over.paid) over.early),
          over.reached ∙ ap (λ (b : Block). b.end) (sym o.block),
        ),
        h.1,
      )
      by (InWork.working next) going = (
        record {
          fate = refl;
          block = o.block ∙ sym going.block;
          start = o.start ∙ sym going.start;
          fed = fed (job_paid next) (sym going.paid) ∙ ap (λ (b : Block). a.remainder + (a.ticks + n) * added_by b) (sym going.block);
        },
        h.1,
      )

  ticking_agrees : {b : Bench} {w : InWork} {bytes : List ℕ} {n : ℕ} {after : Bench} (l : List Account) → Ticking q0 t b w bytes n after
      → b.work ≡ w → BenchSound q0 t b → Agree q0 b.remainder b.work l
      → Agree q0 after.remainder after.work (newest (worked n (fate_at after.at after.work)) l)
  ticking_agrees {b} l (rests silent) e s h = resting b.at b.remainder b.work l h
  ticking_agrees {b} l (works {n = n} len x) e s h =
      stretched n len (subst (WorkSound q0 t b.at) e s.work) x l (subst (λ (w : InWork). Agree q0 b.remainder w l) e h)

  stop_agrees : (at : Point) (r : ℕ) (w : InWork) (l : List Account) → WorkSound q0 t at w → Below q0 w r → Agree q0 r w l
      → Every (Closed q0) (newest (worked 0 Fate.was_stopped) l)
  stop_agrees at r InWork.nothing l s below h = subst (Every (Closed q0)) (sym (untouched q0 _ l h)) h
  stop_agrees at r (InWork.working j) [] s below h = absurd h
  stop_agrees at r (InWork.working j) (a ∷ l) s below h =
      (subst (Closed q0) (sym (touched (worked 0 Fate.was_stopped) h.0)) (omega (arith, open_fewer s below h.0)), h.1)

  -- the first that waits comes in: where nothing is in work, all accounts are closed
  comes_agrees : (k : Bench) (l : List Block) (older : List Account) → Agree q0 k.remainder k.work older
      → (let b = settled k l in Agree q0 b.bench.remainder b.bench.work (comes_in k k.work l older))
  unfolding settled charges_to
  comes_agrees k l older h = by k.work refl l h
    where
      by : (w : InWork) → k.work ≡ w → (l : List Block) → Agree q0 k.remainder w older
          → (let b = settled_with k w l in Agree q0 b.bench.remainder b.bench.work (comes_in k w l older))
      by InWork.nothing same [] h = subst (λ (w : InWork). Agree q0 k.remainder w older) (sym same) h
      by InWork.nothing same (b ∷ l) h =
          let unfed : 0 * q0 + k.remainder ≡ k.remainder + 0 * added_by b = omega arith in
          (record { fate = refl; block = refl; start = refl; fed = unfed }, h)
      by (InWork.working j) same l h = subst (λ (w : InWork). Agree q0 k.remainder w older) (sym same) h

  load_agrees : (b : Book) (k : Block) (older : List Account) → Agree q0 b.bench.remainder b.bench.work older
      → (let e = load_entry q0 t b k in Agree q0 e.next.bench.remainder e.next.bench.work (opened b k e.reply older))
  unfolding load_entry
  load_agrees b k older h = by (load_no q0 t (fewer_wait b) (start_of b) k)
    where
      by : (n : ℕ) → (let e = loaded b k n in Agree q0 e.next.bench.remainder e.next.bench.work (opened b k e.reply older))
      by zero = comes_agrees b.bench (b.waiting ++ (k ∷ [])) older h
      by (suc n) = h

  pub call_agrees : (b : Book) (c : Call) (older : List Account) → Sound q0 t b → Agree q0 b.bench.remainder b.bench.work older
      → (let e = entry q0 t b c in Agree q0 e.next.bench.remainder e.next.bench.work (accounts_after q0 t b c older))
  call_agrees b (Call.load k) older s h = load_agrees b k older h
  call_agrees b Call.tick older s h =
      comes_agrees (bench_tick q0 b.bench).after b.waiting _ (ticking_agrees older (tick_does q0 t b s.bench) refl s.bench h)
  call_agrees b (Call.run budget buffer) older s h =
      comes_agrees (bench_run q0 b.bench budget buffer).after b.waiting _
      (ticking_agrees older (run_does q0 t b budget buffer s.bench) refl s.bench h)
  call_agrees b Call.hold older s h = h
  call_agrees b Call.release older s h = h
  call_agrees b Call.stop older s h =
      let k = b.bench in
      unbegun_every (Closed q0) Fate.stopped_waiting (λ start k. refl) (work_end k) b.waiting _
      (stop_agrees k.at k.remainder k.work older s.bench.work s.bench.below h)

  -- ---- every list of calls

  module _ (settings : SettingsRight q0 t) where
    pub ledger_agrees : (b : Book) (cs : List Call) (older : List Account) → Sound q0 t b
        → Agree q0 b.bench.remainder b.bench.work older
        → (let after = closing q0 t b cs in Agree q0 after.bench.remainder after.bench.work (ledger q0 t older b cs))
    unfolding closing ledger
    ledger_agrees b [] older s h = h
    ledger_agrees b (c ∷ cs) older s h =
        ledger_agrees (entry q0 t b c).next cs (accounts_after q0 t b c older) (call_kept q0 t settings b c s) (call_agrees b c older s h)

    -- the account in work, if any, is the book's block in work
    pub history_agrees : (cs : List Call)
        → (let after = closing q0 t fresh_book cs in
        Agree q0 after.bench.remainder after.bench.work (ledger q0 t [] fresh_book cs))
    history_agrees cs = ledger_agrees fresh_book cs [] (fresh_sound settings) tt

    pub accounts_right : (cs : List Call) → Every (Right q0) (accounts q0 t cs)
    accounts_right cs =
        let after = closing q0 t fresh_book cs in
        let k = after.bench in
        let s = (history_sound q0 t settings cs).bench in
        unbegun_every (Right q0) Fate.is_waiting (λ start k. refl) (work_end k) after.waiting _
        (work_right_lem q0 t k.at k.remainder k.work (ledger q0 t [] fresh_book cs) s.work s.below (history_agrees cs))
