-- The test as the code makes it is the definition's.
use Rattle.std.specs.Prelude.{◌≡◌, Bool, Option, Some, None, SomeIff, cond, ◌&&◌, ℕ, ◌+◌, ◌-◌, ◌≤◌, ◌<◌, length, drop, get_or}
use Rattle.std.proofs.Math.Path.{refl, sym, ap}
use Rattle.std.proofs.Common.{◌∙◌, arith, leb, drop-cons, add-one}
use Rattle.std.proofs.Math.Nat.{lt_of_not-le}
use Rattle.std.proofs.Math.ListN.{drop_of_length-le}
use Rattle.std.proofs.Math.Bool.{true, false}
use mathlib.Core.List.{List, [], ◌∷◌}
use Rattle.std.proofs.Math.Dec.{eqb}
use borrow.Author.Tests.{leb-true, le-leb, lt-leb, eqb-true, eq-eqb, ne_eqb}
use Rattle.whole.specs.laws.Test.{both, joined, same_test}
use Rattle.plane.specs.declared.point.Point.{Point}
use Rattle.plane.specs.declared.travel.Travel.{Travel}
use Rattle.block.specs.Block.{block_cycles}
use Rattle.block.specs.Questions.{load_no}
use Rattle.block.specs.Chain.{end_after, chain_cycles, root_of}
use Rattle.block.specs.computed.Chain.{chain_accepted}
use Rattle.queue.specs.declared.Waiting.{Waiting}
use Rattle.queue.specs.declared.Queue.{Queue}
use Rattle.queue.specs.Queue.{blank, places, blocks_of, waiting}
use Rattle.queue.specs.computed.Queue.{roots_right, queue_sound}
use Rattle.queue.specs.computed.Test.{fits, taken_off, chain_holds}

module _ (q0 : ℕ) (t : Travel) where
  -- what a block that fits has
  pub record Fits (start : Point) (w : Waiting) (count : ℕ) : Type 0 where
    pub asked : load_no q0 t true start w.block ≡ 0
    pub root : w.root ≡ root_of start w.block
    pub enough : block_cycles start w.block ≤ count

  pub fits_has : (start : Point) (w : Waiting) (count : ℕ) → fits q0 t start w count ≡ true → Fits start w count
  fits_has start w count e =
      let asked = both {a = eqb (load_no q0 t true start w.block) 0} e in
      let root = both {a = eqb w.root (root_of start w.block)} asked.1 in
      record { asked = eqb-true _ 0 asked.0; root = eqb-true _ _ root.0; enough = leb-true _ count root.1 }

  -- one that would be refused, one with another root, and one that is counted
  module _ (start : Point) (w : Waiting) (count : ℕ) where
    pub off_refused : {no : ℕ} → no ≡ load_no q0 t true start w.block → (no ≡ 0 → ⊥) → None ≡ taken_off q0 t start w count
    unfolding taken_off
    off_refused e some = rw (ne_eqb (load_no q0 t true start w.block) 0 (λ z. some (e ∙ z))) refl

    module _ {no : ℕ} (e : no ≡ load_no q0 t true start w.block) (none : no ≡ 0) where
      pub off_unrooted : {r : Bool} → r ≡ eqb w.root (root_of start w.block) → r ≡ false → None ≡ taken_off q0 t start w count
      unfolding taken_off
      off_unrooted is other = rw (eq-eqb (load_no q0 t true start w.block) 0 (sym e ∙ none), sym is ∙ other) refl

      pub off_counts : {r : Bool} → r ≡ eqb w.root (root_of start w.block) → r ≡ true → {k : ℕ} → k ≡ block_cycles start w.block
          → {rest : Option ℕ} → SomeIff rest (k ≤ count) (count - k) → rest ≡ taken_off q0 t start w count
      unfolding taken_off
      off_counts is own {k} c {rest} iff =
          rw (eq-eqb (load_no q0 t true start w.block) 0 (sym e ∙ none), sym is ∙ own, sym c) (by rest iff)
        where
          by : (rest : Option ℕ) → SomeIff rest (k ≤ count) (count - k) → rest ≡ cond (leb k count) (Some (count - k)) None
          by None many = rw (lt-leb k count (lt_of_not-le many)) refl
          by (Some n) i = rw (le-leb k count i.0, i.1) refl

  -- a queue's list: accepted in turn, each with its root, and so many cycles
  abbrev pub right : (start : Point) (count : ℕ) → List Waiting → Bool
  right start count l = (chain_accepted q0 t start (blocks_of l) && roots_right start l) && eqb count (chain_cycles start (blocks_of l))

  record Right (start : Point) (count : ℕ) (l : List Waiting) : Type 0 where
    accepted : chain_accepted q0 t start (blocks_of l) ≡ true
    roots : roots_right start l ≡ true
    cycles : count ≡ chain_cycles start (blocks_of l)

  to : (start : Point) (count : ℕ) (l : List Waiting) → chain_holds q0 t start count l ≡ true → Right start count l
  unfolding chain_holds chain_accepted roots_right chain_cycles
  to start count [] e = record { accepted = refl; roots = refl; cycles = eqb-true count 0 e }
  to start count (w ∷ l) e =
      let r = both {a = fits q0 t start w count} e in
      let f = fits_has start w count r.0 in
      let rest = to (end_after start w.block) (count - block_cycles start w.block) l r.1 in
      record {
        accepted = joined (eq-eqb _ 0 f.asked) rest.accepted;
        roots = joined (eq-eqb _ _ f.root) rest.roots;
        cycles = omega (arith, f.enough, rest.cycles);
      }

  back : (start : Point) (count : ℕ) (l : List Waiting) → Right start count l → chain_holds q0 t start count l ≡ true
  unfolding chain_holds chain_accepted roots_right chain_cycles
  back start count [] r = eq-eqb count 0 r.cycles
  back start count (w ∷ l) r =
      let asked = both {a = eqb (load_no q0 t true start w.block) 0} r.accepted in
      let root = both {a = eqb w.root (root_of start w.block)} r.roots in
      let enough : block_cycles start w.block ≤ count = omega (arith, r.cycles) in
      joined (joined asked.0 (joined root.0 (le-leb (block_cycles start w.block) count enough)))
      (back (end_after start w.block) (count - block_cycles start w.block) l
      (record { accepted = asked.1; roots = root.1; cycles = omega (arith, r.cycles) }))

  pub holds_is : (start : Point) (count : ℕ) (l : List Waiting) → chain_holds q0 t start count l ≡ right start count l
  holds_is start count l =
      same_test
      (λ e. let r = to start count l e in joined (joined r.accepted r.roots) (eq-eqb count _ r.cycles))
      (λ e.
      let r = both {a = chain_accepted q0 t start (blocks_of l) && roots_right start l} e in
      let s = both {a = chain_accepted q0 t start (blocks_of l)} r.0 in
      back start count l (record { accepted = s.0; roots = s.1; cycles = eqb-true count _ r.1 }))

  -- ---- what the code has found out

  -- sound, and so many cycles
  abbrev pub sound_with : (from : Point) (cycles : ℕ) → Queue → Bool
  sound_with from cycles q = queue_sound q0 t from q && eqb cycles (chain_cycles from (waiting q))

  pub too_long_lem : (from : Point) (cycles : ℕ) (q : Queue) → 16 < q.len → sound_with from cycles q ≡ false
  unfolding queue_sound
  too_long_lem from cycles q h = rw (lt-leb q.len 16 h) (none (eqb (length q.blocks) 16) (eqb cycles (chain_cycles from (waiting q))))
    where
      none : (a b : Bool) → ((a && false) && b) ≡ false
      none true b = refl
      none false b = refl

  pub tested : (from : Point) (cycles : ℕ) (q : Queue) {r : Bool} → length q.blocks ≡ 16 → q.len ≤ 16
      → chain_holds q0 t from cycles (places q) ≡ r → r ≡ sound_with from cycles q
  unfolding queue_sound
  tested from cycles q sixteen most e =
      sym e ∙ holds_is from cycles (places q) ∙ sym (rw (eq-eqb _ 16 sixteen, le-leb _ 16 most) refl)

  -- an answer that is none, and one that is some
  module _ (start : Point) (w : Waiting) (count : ℕ) where
    pub off_none : None ≡ taken_off q0 t start w count → fits q0 t start w count ≡ false
    unfolding taken_off
    off_none e = by (fits q0 t start w count) e
      where
        by : (b : Bool) → None ≡ cond b (Some (count - block_cycles start w.block)) None → b ≡ false
        by true e = cc
        by false e = refl

    pub off_some : {rest : ℕ} → Some rest ≡ taken_off q0 t start w count
        → (fits q0 t start w count ≡ true) × (rest ≡ count - block_cycles start w.block)
    unfolding taken_off
    off_some {rest} e = by (fits q0 t start w count) e
      where
        by : (b : Bool) → Some rest ≡ cond b (Some (count - block_cycles start w.block)) None
            → (b ≡ true) × (rest ≡ count - block_cycles start w.block)
        by true e = (refl, cc)
        by false e = absurd cc

  -- one that is wrong, one that is counted, and none left
  module _ (start : Point) (count : ℕ) (l : List Waiting) (i : ℕ) (h : i < length l) where
    abbrev one : Waiting
    one = get_or l i blank

    step : chain_holds q0 t start count (drop i l)
        ≡ (fits q0 t start one count && chain_holds q0 t (end_after start one.block) (count - block_cycles start one.block) (drop
        (i + 1) l))
    unfolding chain_holds
    step = rw add-one (ap (chain_holds q0 t start count) (drop-cons l i blank h))

    pub wrong_one : None ≡ taken_off q0 t start one count → chain_holds q0 t start count (drop i l) ≡ false
    wrong_one e = step ∙ rw (off_none start one count e) refl

    pub counted : {rest : ℕ} → Some rest ≡ taken_off q0 t start one count
        → chain_holds q0 t start count (drop i l) ≡ chain_holds q0 t (end_after start one.block) rest (drop (i + 1) l)
    counted e = let f = off_some start one count e in step ∙ rw (f.0, f.1) refl

  pub none_left : (start : Point) (count : ℕ) (l : List Waiting) (i : ℕ) → length l ≤ i
      → chain_holds q0 t start count (drop i l) ≡ eqb count 0
  unfolding chain_holds
  none_left start count l i h = ap (chain_holds q0 t start count) (drop_of_length-le l h)
