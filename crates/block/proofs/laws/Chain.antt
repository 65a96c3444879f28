-- A chain of blocks: one more at its end, the first one and the others; an accepted one stays in travel and has not too many cycles.
use Rattle.std.specs.Prelude.{◌≡◌, ℕ, ◌+◌, ◌*◌, ◌≤◌, length}
use Rattle.std.proofs.Math.Path.{refl}
use Rattle.std.proofs.Math.Bool.{true}
use mathlib.Core.List.{List, [], ◌∷◌, ◌++◌}
use native.Mathlib.Omega.{arith}
use Rattle.std.proofs.Math.Dec.{eqb}
use Rattle.std.proofs.Common.{eqb-true, eq-eqb}
use Rattle.whole.specs.laws.Test.{both, joined}
use Rattle.plane.specs.declared.point.Point.{Point}
use Rattle.plane.specs.declared.travel.Travel.{Travel}
use Rattle.plane.specs.Travel.{inside_of}
use Rattle.plane.specs.computed.Travel.{Wide}
use Rattle.block.specs.declared.Block.{Block}
use Rattle.block.specs.Block.{block_cycles}
use Rattle.block.specs.Questions.{load_no}
use Rattle.block.specs.Chain.{chain_end, chain_cycles}
use Rattle.block.specs.computed.Chain.{chain_accepted, Accepted}
use Rattle.block.proofs.laws.Accepted.{yes, cycles_range}

-- ---- one more at the end

pub cycles_more : (start : Point) (l : List Block) (b : Block)
    → chain_cycles start (l ++ (b ∷ [])) ≡ chain_cycles start l + block_cycles (chain_end start l) b
unfolding chain_end chain_cycles
cycles_more start [] b = omega arith
cycles_more start (x ∷ l) b = omega (arith, cycles_more x.end l b)

module _ (q0 : ℕ) (t : Travel) where
  -- the first one, and those after it
  pub accepted_first : (start : Point) (b : Block) (l : List Block) → chain_accepted q0 t start (b ∷ l) ≡ true
      → (load_no q0 t true start b ≡ 0) × (chain_accepted q0 t b.end l ≡ true)
  unfolding chain_accepted
  accepted_first start b l e = let r = both {a = eqb (load_no q0 t true start b) 0} e in (eqb-true _ 0 r.0, r.1)

  -- one more that is accepted from where the chain ends
  pub accepted_more : (start : Point) (l : List Block) (b : Block)
      → chain_accepted q0 t start l ≡ true → load_no q0 t true (chain_end start l) b ≡ 0
      → chain_accepted q0 t start (l ++ (b ∷ [])) ≡ true
  unfolding chain_accepted chain_end
  accepted_more start [] b e asked = joined (eq-eqb _ 0 asked) refl
  accepted_more start (x ∷ l) b e asked =
      let r = both {a = eqb (load_no q0 t true start x) 0} e in
      joined r.0 (accepted_more x.end l b r.1 asked)

  -- where the chain ends, and so where the next block starts, is in travel
  pub chain_end_inside : (start : Point) (l : List Block) → inside_of t start ≡ true → chain_accepted q0 t start l ≡ true
      → inside_of t (chain_end start l) ≡ true
  unfolding chain_end
  chain_end_inside start [] i e = i
  chain_end_inside start (b ∷ l) i e =
      let r = accepted_first start b l e in
      chain_end_inside b.end l (yes q0 t true start b r.0).end_in_lem r.1

  -- the first of an accepted chain is one that the code can count
  pub first_accepted : (start : Point) (b : Block) (l : List Block)
      → Wide t → inside_of t start ≡ true → chain_accepted q0 t start (b ∷ l) ≡ true → Accepted start b
  first_accepted start b l w i e = record { capacity = q0; travel = t; wide = w; start_in = i; none = (accepted_first start b l e).0 }

  -- few enough for 64 bits
  pub chain_cycles_most : (start : Point) (l : List Block) → Wide t → inside_of t start ≡ true → chain_accepted q0 t start l ≡ true
      → chain_cycles start l ≤ 8000000 * length l
  unfolding chain_cycles
  chain_cycles_most start [] w i e = omega arith
  chain_cycles_most start (b ∷ l) w i e =
      let r = accepted_first start b l e in
      let more = chain_cycles_most b.end l w (yes q0 t true start b r.0).end_in_lem r.1 in
      omega (arith, (cycles_range (first_accepted start b l w i e)).1, more)
