-- A run counts as its ticks, in the feed numbers and in the ledger too: what `Sums` and `Ledger` add for a run at once is what its ticks
-- add one by one.
use Rattle.std.specs.Prelude.{◌≡◌, Bool, length, replicate}
use Rattle.std.proofs.Math.Path.{refl, sym, ap}
use Rattle.std.proofs.Common.{ap₂, ◌∙◌, true≢false}
use Rattle.std.proofs.Math.Bool.{true, false}
use mathlib.Core.List.{List, [], ◌∷◌, cons≢nil}
use Prim.Native.Nat.{ℕ, zero, suc, ◌+◌, ◌*◌, ◌<◌, min}
use native.Mathlib.Omega.{arith}
use Rattle.plane.specs.declared.point.Point.{Point}
use Rattle.plane.specs.declared.travel.Travel.{Travel}
use Rattle.block.specs.declared.Block.{Block}
use Rattle.book.specs.Bench.{BlockInWork, InWork, Bench, is_nothing, added_by, cycle_due, bench_tick, in_front, ticks_done, bench_run}
use Rattle.book.specs.Book.{Book, Call, settled, run_entry}
use Rattle.book.specs.Sums.{tick_bytes, feeds_since}
use Rattle.book.specs.Ledger.{Fate, Account, comes_in, while_in_work, worked, fate_at, ledger}
use Rattle.book.proofs.laws.Sound.{bench_of, JobSound, BenchSound, Sound}
use Rattle.book.proofs.laws.Stretch.{Stretch, one_tick}
use Rattle.book.proofs.laws.Ledger.{Agree, untouched, touched}

-- an account with another fate and other ticks, and those behind it
abbrev account : Account → List Account → Fate → ℕ → List Account
account a older f n = record { block = a.block; start = a.start; remainder = a.remainder; ticks = n; fate = f } ∷ older

module _ (q0 : ℕ) (t : Travel) where
  -- n ticks from b on, the block j in work and l waiting, that leave `after`
  pub record Adds (b : Bench) (l : List Block) (j : BlockInWork) (n : ℕ) (after : Bench) : Type 0 where
    pub feeds : (before : ℕ)
        → feeds_since q0 t before (record { bench = b; waiting = l }) (replicate n Call.tick) ≡ before + n * added_by j.block
    pub accounts : (a : Account) (older : List Account) → a.fate ≡ Fate.in_work
        → ledger q0 t (a ∷ older) (record { bench = b; waiting = l }) (replicate n Call.tick)
        ≡ comes_in after after.work l (worked n (fate_at after.at after.work) a ∷ older)

  pub strip_adds : (l : List Block) (most : ℕ) (at : Point) (r : ℕ) (j : BlockInWork) → JobSound q0 t at j → r < cycle_due q0 j
      → (let b = bench_of at false r (InWork.working j) in Adds b l j (length (ticks_done q0 most b).bytes) (ticks_done q0 most b).last)
  unfolding ticks_done feeds_since ledger settled
  strip_adds l zero at r j s low =
      record {
        feeds = λ before. omega arith;
        accounts = λ a older e. λ i. account a older (e i) (let p : a.ticks ≡ a.ticks + 0 = omega arith in p i);
      }
  strip_adds l (suc n) at r j s low =
      let k = bench_tick q0 (bench_of at false r (InWork.working j)) in
      by k.byte k.after.at k.after.mark k.after.remainder k.after.work refl (one_tick q0 t at r j s low) (strip_adds l n)
    where
      b : Bench
      b = bench_of at false r (InWork.working j)

      -- the accounts after the first tick, and what follows
      then : (a : Account) (older : List Account) (m : ℕ) → Fate → Bench → List Account
      then a older m f after =
          let first = while_in_work (worked 1 (fate_at after.at after.work)) a f in
          ledger q0 t (comes_in after after.work l (first ∷ older)) (settled after l) (replicate m Call.tick)

      by : (byte : ℕ) (mid : Point) (mark : Bool) (r' : ℕ) (w : InWork) → (bench_tick q0 b).after ≡ bench_of mid mark r' w
          → Stretch q0 t at r j (byte ∷ []) (bench_of mid mark r' w)
          → ((at : Point) (r : ℕ) (j : BlockInWork) → JobSound q0 t at j → r < cycle_due q0 j
          → (let b = bench_of at false r (InWork.working j) in Adds b l j (length (ticks_done q0 n b).bytes) (ticks_done q0 n b).last))
          → (let s = in_front (is_nothing w) (record { byte = byte; after = bench_of mid mark r' w })
          (ticks_done q0 n (bench_of mid mark r' w)) in
          Adds b l j (length s.bytes) s.last)
      by byte mid true r' w is x later = absurd (true≢false x.free)
      by byte mid false r' InWork.nothing is x later =
          record { feeds = λ before. omega arith; accounts = λ a older e. ap₂ (then a older 0) e is }
      by byte mid false r' (InWork.working next) is x later =
          let m = length (ticks_done q0 n (bench_of mid false r' (InWork.working next))).bytes in
          let last = (ticks_done q0 n (bench_of mid false r' (InWork.working next))).last in
          let rest = later mid r' next x.sound.work x.sound.below in
          let feed = ap (λ (k : Block). m * added_by k) x.left.block in
          record {
            feeds = λ before.
                ap (λ (after : Bench). feeds_since q0 t (before + 1 * added_by j.block) (settled after l) (replicate m Call.tick)) is
                ∙ omega (arith, rest.feeds (before + 1 * added_by j.block), feed);
            accounts = λ a older e.
                ap₂ (then a older m) e is
                ∙ rest.accounts (worked 1 Fate.in_work a) older refl
                ∙ (let p : a.ticks + 1 + m ≡ a.ticks + suc m = omega arith in
                λ i. comes_in last last.work l (account a older (fate_at last.at last.work) (p i)));
          }

  -- ---- at every sound book, with the ledger that agrees with it

  pub record Same (b : Book) (older : List Account) (c : Call) (n : ℕ) : Type 0 where
    pub feeds : (before : ℕ) → feeds_since q0 t before b (c ∷ []) ≡ feeds_since q0 t before b (replicate n Call.tick)
    pub accounts : ledger q0 t older b (c ∷ []) ≡ ledger q0 t older b (replicate n Call.tick)

  pub run_is_ticks : (b : Book) (older : List Account) (budget buffer : ℕ) → Sound q0 t b
      → Agree q0 b.bench.remainder b.bench.work older
      → Same b older (Call.run budget buffer) (length (tick_bytes (run_entry q0 b budget buffer).reply))
  unfolding bench_run feeds_since ledger
  run_is_ticks b older budget buffer s h =
      let k = b.bench in by k.at k.mark k.remainder k.work b.waiting older s.bench s.none h
    where
      by : (at : Point) (mark : Bool) (r : ℕ) (w : InWork) (l : List Block) (older : List Account) → BenchSound q0 t (bench_of at mark r w)
          → (is_nothing w ≡ true → l ≡ []) → Agree q0 r w older
          → (let b : Book = record { bench = bench_of at mark r w; waiting = l } in
          Same b older (Call.run budget buffer) (length (tick_bytes (run_entry q0 b budget buffer).reply)))
      by at mark r InWork.nothing [] older s alone h = record { feeds = λ before. omega arith; accounts = untouched q0 _ older h }
      by at mark r InWork.nothing (x ∷ l) older s alone h = absurd (cons≢nil (alone refl))
      by at mark r (InWork.working j) l [] s alone h = absurd h
      by at true r (InWork.working j) l (a ∷ older) s alone h =
          let p : a.ticks + 0 ≡ a.ticks = omega arith in
          record {
            feeds = λ before. omega arith;
            accounts = ap (λ (c : Account). c ∷ older) (touched (worked 0 Fate.in_work) h.0)
                ∙ (λ i. account a older (sym h.0.fate i) (p i));
          }
      by at false r (InWork.working j) l (a ∷ older) s alone h =
          let x = strip_adds l (min budget buffer) at r j s.work s.below in
          let last = (ticks_done q0 (min budget buffer) (bench_of at false r (InWork.working j))).last in
          record {
            feeds = λ before. sym (x.feeds before);
            accounts = ap (λ (c : Account). comes_in last last.work l (c ∷ older)) (touched (worked _ _) h.0)
                ∙ sym (x.accounts a older h.0.fate);
          }
