-- First come first cut: the blocks that came into work or were stopped, and then those that wait, are those that loads took, in their
-- order.
use Rattle.std.specs.Prelude.{◌≡◌, refl}
use Rattle.std.proofs.Math.Path.{sym, ap}
use Rattle.std.proofs.Common.{◌∙◌}
use mathlib.Core.List.{List, [], ◌∷◌, ◌++◌, append-nil, append_assoc}
use Prim.Native.Nat.{ℕ, zero, suc}
use Rattle.plane.specs.declared.point.Point.{Point}
use Rattle.plane.specs.declared.travel.Travel.{Travel}
use Rattle.block.specs.declared.Block.{Block}
use Rattle.block.specs.Questions.{load_no}
use Rattle.book.specs.Bench.{InWork, Bench, work_end, bench_tick, bench_run}
use Rattle.book.specs.Book.{Book, Call, fresh_book, start_of, fewer_wait, settled_with, settled, loaded, load_entry, entry, replies}
use Rattle.book.specs.Book.{closing}
use Rattle.book.specs.Ledger.{Fate, Account, comes_in, opened, while_in_work, newest, worked, unbegun, accounts_after, ledger, accounts}
use Rattle.book.specs.Ledger.{in_order, taken_by, taken}

-- an account keeps its block
newest_order : (n : ℕ) (f : Fate) (older : List Account) → in_order (newest (worked n f) older) ≡ in_order older
unfolding in_order
newest_order n f [] = refl
newest_order n f (a ∷ older) = ap (λ (k : Block). in_order older ++ (k ∷ [])) (by a.fate)
  where
    by : (g : Fate) → (while_in_work (worked n f) a g).block ≡ a.block
    by Fate.is_waiting = refl
    by Fate.in_work = refl
    by (Fate.ended_at p) = refl
    by Fate.was_stopped = refl
    by Fate.stopped_waiting = refl

unbegun_order : (f : Fate) (start : Point) (l : List Block) (older : List Account)
    → in_order (unbegun f start l older) ≡ in_order older ++ l
unfolding in_order
unbegun_order f start [] older = sym (append-nil (in_order older))
unbegun_order f start (k ∷ l) older = unbegun_order f k.end l _ ∙ append_assoc (in_order older) (k ∷ []) l

-- the first that waits becomes the newest of the ledger
comes_order : (k : Bench) (l : List Block) (older : List Account)
    → in_order (comes_in k k.work l older) ++ (settled k l).waiting ≡ in_order older ++ l
unfolding settled in_order
comes_order k l older = by k.work l
  where
    by : (w : InWork) (l : List Block) → in_order (comes_in k w l older) ++ (settled_with k w l).waiting ≡ in_order older ++ l
    by InWork.nothing [] = refl
    by InWork.nothing (b ∷ l) = append_assoc (in_order older) (b ∷ []) l
    by (InWork.working j) l = refl

module _ (q0 : ℕ) (t : Travel) where
  load_order : (b : Book) (k : Block) (older : List Account)
      → (let e = load_entry q0 t b k in
      in_order (opened b k e.reply older) ++ e.next.waiting ≡ (in_order older ++ b.waiting) ++ taken_by (Call.load k) e.reply)
  unfolding load_entry
  load_order b k older = by (load_no q0 t (fewer_wait b) (start_of b) k)
    where
      by : (n : ℕ)
          → (let e = loaded b k n in
          in_order (opened b k e.reply older) ++ e.next.waiting ≡ (in_order older ++ b.waiting) ++ taken_by (Call.load k) e.reply)
      by zero = comes_order b.bench (b.waiting ++ (k ∷ [])) older ∙ sym (append_assoc (in_order older) b.waiting (k ∷ []))
      by (suc n) = sym (append-nil (in_order older ++ b.waiting))

  ticked_order : (after : Bench) (l : List Block) (n : ℕ) (f : Fate) (older : List Account)
      → in_order (comes_in after after.work l (newest (worked n f) older)) ++ (settled after l).waiting ≡ (in_order older ++ l) ++ []
  ticked_order after l n f older =
      comes_order after l (newest (worked n f) older)
      ∙ ap (λ (o : List Block). o ++ l) (newest_order n f older)
      ∙ sym (append-nil (in_order older ++ l))

  call_order : (b : Book) (c : Call) (older : List Account)
      → (let e = entry q0 t b c in
      in_order (accounts_after q0 t b c older) ++ e.next.waiting ≡ (in_order older ++ b.waiting) ++ taken_by c e.reply)
  call_order b (Call.load k) older = load_order b k older
  call_order b Call.tick older = ticked_order (bench_tick q0 b.bench).after b.waiting _ _ older
  call_order b (Call.run budget buffer) older = ticked_order (bench_run q0 b.bench budget buffer).after b.waiting _ _ older
  call_order b Call.hold older = sym (append-nil _)
  call_order b Call.release older = sym (append-nil _)
  call_order b Call.stop older =
      ap (λ (o : List Block). o ++ [])
      (unbegun_order Fate.stopped_waiting (work_end b.bench) b.waiting _
      ∙ ap (λ (o : List Block). o ++ b.waiting) (newest_order 0 Fate.was_stopped older))

  ledger_order : (b : Book) (cs : List Call) (older : List Account)
      → in_order (ledger q0 t older b cs) ++ (closing q0 t b cs).waiting ≡ (in_order older ++ b.waiting) ++ taken cs (replies q0 t b cs)
  unfolding closing ledger replies taken
  ledger_order b [] older = sym (append-nil _)
  ledger_order b (c ∷ cs) older =
      let e = entry q0 t b c in
      let later = taken cs (replies q0 t e.next cs) in
      ledger_order e.next cs (accounts_after q0 t b c older)
      ∙ ap (λ (o : List Block). o ++ later) (call_order b c older)
      ∙ append_assoc (in_order older ++ b.waiting) (taken_by c e.reply) later

  pub first_come : (cs : List Call) → in_order (accounts q0 t cs) ≡ taken cs (replies q0 t fresh_book cs)
  unfolding in_order
  first_come cs =
      let b = closing q0 t fresh_book cs in
      unbegun_order Fate.is_waiting (work_end b.bench) b.waiting _ ∙ ledger_order fresh_book cs []
