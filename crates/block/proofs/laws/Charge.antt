-- The charges of a block: each is at least 1,000 and at most 1,414, they grow, and they are a line's or the circle's.
use Rattle.std.specs.Prelude.{◌≡◌, Bool, true, false, cond, eqb}
use Rattle.std.proofs.Math.Path.{refl, sym, ap, ap₂}
use Rattle.std.proofs.Common.{◌∙◌}
use Prim.Native.Nat.{ℕ, zero, suc, ◌+◌, ◌-◌, ◌*◌, ◌≤◌, ◌<◌}
use native.Mathlib.Omega.{arith}
use Rattle.plane.specs.declared.point.Point.{Point}
use Rattle.plane.specs.declared.pulse.Pulses.{Pulses}
use Rattle.plane.specs.Pulse.{pulses_between}
use Rattle.circle.specs.declared.plane.Offset.{Offset}
use Rattle.circle.specs.declared.plane.Turn.{Turn}
use Rattle.circle.specs.computed.Step.{step_of, after_of}
use Rattle.circle.specs.computed.Charge.{step_charge}
use Rattle.charges.specs.computed.Sum.{charges_in}
use Rattle.arc.specs.declared.arc.Arc.{Arc}
use Rattle.arc.specs.Centre.{seen_from, back_from}
use Rattle.arc.specs.computed.Arc.{arc_after}
use Rattle.arc.specs.computed.Charge.{arc_charge}
use Rattle.arc.specs.laws.Step.{seen_after}
use Rattle.arc.specs.laws.Charge.{charge_codes}
use Rattle.block.specs.declared.Block.{Block}
use Rattle.block.specs.declared.Path.{Path}
use Rattle.block.specs.Block.{arc_of, block_point}
use Rattle.block.specs.Charge.{charge_by, block_charge, charges_to}

by_range : (p : Path) (u : Pulses) → (1000 ≤ charge_by p u) × (charge_by p u ≤ 1414)
by_range Path.Line u = omega arith
by_range (Path.Arc turn centre) u = by (eqb u.x 0) (eqb u.y 0)
  where
    by : (a b : Bool) → (1000 ≤ cond a 1000 (cond b 1000 1414)) × (cond a 1000 (cond b 1000 1414) ≤ 1414)
    by true b = omega arith
    by false true = omega arith
    by false false = omega arith

module _ (start : Point) (b : Block) where
  pub block_charge_range : (c : ℕ) → (1000 ≤ block_charge start b c) × (block_charge start b c ≤ 1414)
  unfolding block_charge
  block_charge_range c = by_range b.path _

  pub charge_is : (c : ℕ) {at : Point} → at ≡ block_point start b c
      → charge_by b.path (pulses_between at (block_point start b (c + 1))) ≡ block_charge start b c
  unfolding block_charge
  charge_is c e = ap (λ (p : Point). charge_by b.path (pulses_between p (block_point start b (c + 1)))) e

  pub charges_suc : (c : ℕ) → charges_to start b c + block_charge start b c ≡ charges_to start b (c + 1)
  unfolding charges_to
  charges_suc c = let z : c + 1 ≡ suc c = omega arith in rw z refl

  -- with the next one, no more than with later ones
  pub charges_next : (c k : ℕ) → c < k → charges_to start b c + block_charge start b c ≤ charges_to start b k
  unfolding charges_to
  charges_next c k h = let z : suc c + (k - suc c) ≡ k = omega arith in rw z at (by (k - suc c))
    where
      by : (n : ℕ) → charges_to start b c + block_charge start b c ≤ charges_to start b (suc c + n)
      by zero = let z : suc c + 0 ≡ suc c = omega arith in rw z (omega arith)
      by (suc n) = let z : suc c + suc n ≡ suc (suc c + n) = omega arith in rw z (omega (arith, by n))

  -- ---- by the path: a line's are its cycles, an arc's those of the circle

  charge_line : (c : ℕ) → b.path ≡ Path.Line → block_charge start b c ≡ 1000
  unfolding block_charge
  charge_line c e = rw e refl

  pub charges_line : (c : ℕ) → b.path ≡ Path.Line → charges_to start b c ≡ 1000 * c
  unfolding charges_to
  charges_line zero e = refl
  charges_line (suc c) e = omega (arith, charges_line c e, charge_line c e)

  module _ (turn : Turn) (centre : Offset) where
    abbrev arc : Arc
    arc = arc_of start b turn centre

    after_one : (c : ℕ) → arc_after arc (arc_after arc start c) 1 ≡ arc_after arc start (c + 1)
    unfolding arc_after after_of
    after_one c =
        let one : c + 1 ≡ suc c = omega arith in
        rw one (ap (λ (o : Offset). back_from arc.centre (step_of arc.square arc.turn o)) (seen_after arc start c))

    charge_arc : (c : ℕ) → b.path ≡ Path.Arc turn centre
        → block_charge start b c ≡ step_charge arc.square arc.turn (after_of arc.square arc.turn (seen_from arc.centre start) c)
    unfolding block_charge block_point arc_charge arc_of
    charge_arc c e =
        rw e
        (ap (λ (q : Point). charge_by (Path.Arc turn centre) (pulses_between (arc_after arc start c) q)) (sym (after_one c))
        ∙ sym (charge_codes arc (arc_after arc start c))
        ∙ ap (step_charge arc.square arc.turn) (seen_after arc start c))

    pub charges_arc : (c : ℕ) → b.path ≡ Path.Arc turn centre
        → charges_to start b c ≡ charges_in arc.square arc.turn (seen_from arc.centre start) c
    unfolding charges_to charges_in
    charges_arc zero e = refl
    charges_arc (suc c) e = ap₂ (λ (x y : ℕ). x + y) (charges_arc c e) (charge_arc c e)
