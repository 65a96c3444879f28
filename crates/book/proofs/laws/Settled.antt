-- Where nothing is in work the first block that waits comes in: the book stays sound, at the same point and remainder.
use Rattle.std.specs.Prelude.{◌≡◌, false, ℕ, ◌≤◌}
use Rattle.std.proofs.Math.Path.{refl}
use Rattle.std.proofs.Common.{sym, ap, ◌∙◌, true≢false, arith}
use Rattle.std.proofs.Math.Bool.{true}
use Rattle.std.proofs.lemmas.Bool.{false≢true}
use mathlib.Core.List.{List, [], ◌∷◌}
use Rattle.std.proofs.Math.ListN.{length}
use Rattle.plane.specs.declared.travel.Travel.{Travel}
use Rattle.block.specs.declared.Block.{Block}
use Rattle.block.specs.Questions.{load_no}
use Rattle.block.specs.computed.Chain.{chain_accepted}
use Rattle.block.proofs.laws.Chain.{accepted_first}
use Rattle.book.specs.Bench.{InWork, Bench, is_nothing, end_in, work_end, begun}
use Rattle.book.specs.Book.{Book, settled_with, settled}
use Rattle.book.proofs.laws.Way.{block_way}
use Rattle.book.proofs.laws.Load.{load_right}
use Rattle.book.proofs.laws.Settings.{SettingsRight}
use Rattle.book.proofs.laws.Sound.{BenchSound, Sound, below_due, idle_below}

-- what stays as it was
pub record Same (k : Bench) (b : Book) : Type 0 where
  pub at : b.bench.at ≡ k.at
  pub remainder : b.bench.remainder ≡ k.remainder

pub settled_same : (k : Bench) (l : List Block) → Same k (settled k l)
unfolding settled
settled_same k l = by k.work l
  where
    by : (w : InWork) (l : List Block) → Same k (settled_with k w l)
    by InWork.nothing [] = record { at = refl; remainder = refl }
    by InWork.nothing (b ∷ l) = record { at = refl; remainder = refl }
    by (InWork.working j) l = record { at = refl; remainder = refl }

-- with a block in work, all
pub settled_busy : (k : Bench) (l : List Block) → is_nothing k.work ≡ false → settled k l ≡ record { bench = k; waiting = l }
unfolding settled
settled_busy k l e = by k.work e
  where
    by : (w : InWork) → is_nothing w ≡ false → settled_with k w l ≡ record { bench = k; waiting = l }
    by InWork.nothing e = absurd (true≢false e)
    by (InWork.working j) e = refl

module _ (q0 : ℕ) (t : Travel) (settings : SettingsRight q0 t) where
  -- a block that would be accepted at the point comes into work
  begun_kept : (k : Bench) (b : Block) → is_nothing k.work ≡ true → BenchSound q0 t k → load_no q0 t true k.at b ≡ 0
      → BenchSound q0 t (begun k b)
  begun_kept k b idle s e =
      let right = load_right q0 t settings.wide k.at b s.inside e in
      let way = block_way b s.inside right.path in
      record {
        below = below_due q0 (record { block = b; start = k.at; done = 0 }) (idle_below q0 k.remainder k.work idle s.below);
        inside = s.inside;
        work = record {
          some = right.some;
          short = right.short;
          more = way.some;
          point = sym way.begins;
          start = s.inside;
          path = right.path;
        };
      }

  pub settled_kept : (k : Bench) (l : List Block) → BenchSound q0 t k → length l ≤ 16 → chain_accepted q0 t (work_end k) l ≡ true
      → Sound q0 t (settled k l)
  unfolding settled
  settled_kept k l s few e = by k.work refl l few e
    where
      by : (w : InWork) → k.work ≡ w → (l : List Block) → length l ≤ 16 → chain_accepted q0 t (end_in k.at w) l ≡ true
          → Sound q0 t (settled_with k w l)
      by InWork.nothing same [] few e = record { bench = s; few = few; accepted = rw same e; none = λ i. refl }
      by InWork.nothing same (b ∷ l) few e =
          let r = accepted_first q0 t k.at b l e in
          record {
            bench = begun_kept k b (ap is_nothing same) s r.0;
            few = omega arith;
            accepted = r.1;
            none = λ i. absurd (false≢true i);
          }
      by (InWork.working j) same l few e =
          record { bench = s; few = few; accepted = rw same e; none = λ i. absurd (false≢true (sym (ap is_nothing same) ∙ i)) }
