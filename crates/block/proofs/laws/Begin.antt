-- An arc begins on its circle: seen from the centre, the start is (-I, -J), whose squares are N.
use Rattle.std.specs.Prelude.{◌≡◌, true, not, ◌&&◌, ℕ, zero, suc, ◌+◌, ◌*◌, ◌≤◌, max, eqb, ℤ, nat_abs, ◌+ℤ◌, ◌-ℤ◌}
use Rattle.std.proofs.Common.{ap, ◌∙◌, arith, leb-true, le-leb, lt-ltb}
use Rattle.std.proofs.lemmas.Bool.{false≢true}
use Rattle.std.proofs.Math.Nat.{le-max_left, le-max_right}
use Rattle.whole.specs.laws.Difference.{ring, var, neg, ◌⊕◌, ◌⊖◌}
use Rattle.whole.specs.laws.Order.{abs_neg, abs_add}
use Rattle.whole.specs.laws.Squares.{square_le}
use Rattle.whole.specs.laws.Test.{both, joined}
use Rattle.plane.specs.declared.point.Point.{Point}
use Rattle.plane.specs.declared.travel.Travel.{Travel}
use Rattle.plane.specs.Travel.{inside_of}
use Rattle.plane.specs.computed.Travel.{Wide}
use Rattle.plane.specs.laws.Travel.{inside, travel_near}
use Rattle.circle.specs.declared.plane.Offset.{Offset}
use Rattle.circle.specs.declared.plane.Turn.{Turn}
use Rattle.circle.specs.Circle.{on_circle}
use Rattle.arc.specs.Centre.{seen_from, back_from}
use Rattle.block.specs.declared.Block.{Block}
use Rattle.block.specs.Block.{square_of, arc_of}
use Rattle.block.specs.computed.Questions.{Begins}
use Rattle.block.specs.Questions.{offset_right}

-- question 14 as facts
pub record OffsetRight (o : Offset) : Type 0 where
  pub x : nat_abs o.x ≤ 1000000
  pub y : nat_abs o.y ≤ 1000000
  pub some : 1 ≤ nat_abs o.x + nat_abs o.y

not_both : (a b : ℕ) → not (eqb a 0 && eqb b 0) ≡ true → 1 ≤ a + b
not_both zero zero e = absurd (false≢true e)
not_both zero (suc b) e = omega arith
not_both (suc a) b e = omega arith

pub offset_right_lem : (o : Offset) → offset_right o ≡ true → OffsetRight o
offset_right_lem o e =
    let b = both e in
    let m = both b.0 in
    record { x = leb-true _ _ m.0; y = leb-true _ _ m.1; some = not_both (nat_abs o.x) (nat_abs o.y) b.1 }

module _ (o : Offset) (r : OffsetRight o) where
  pub square_some : 1 ≤ square_of o
  square_some = by (nat_abs o.x) (nat_abs o.y) r.some
    where
      by : (a b : ℕ) → 1 ≤ a + b → 1 ≤ a * a + b * b
      by zero zero h = absurd (omega arith)
      by zero (suc b) h = omega arith
      by (suc a) b h = omega arith

  pub square_most : square_of o ≤ 2000000000000
  square_most = omega (arith, square_le r.x, square_le r.y)

-- the start seen from the centre
seen_start : (s o : ℤ) → nat_abs (s -ℤ (s +ℤ o)) ≡ nat_abs o
seen_start s o = ap nat_abs (ring (var s ⊖ (var s ⊕ var o)) (neg (var o)) (omega arith)) ∙ abs_neg o

pub start_on : (start : Point) (o : Offset) → OffsetRight o → on_circle (square_of o) (seen_from (back_from start o) start) ≡ true
unfolding on_circle
start_on start o r =
    let a = nat_abs o.x in
    let b = nat_abs o.y in
    rw (seen_start start.x o.x, seen_start start.y o.y)
    (joined (le-leb _ _ (square_some o r)) (joined (le-leb _ _ (square_most o r))
    (joined
    (lt-ltb (a * a + b * b) (a * a + b * b + max a b) (omega (arith, r.some, le-max_left a b, le-max_right a b)))
    (le-leb (a * a + b * b) (a * a + b * b + max a b) (omega arith)))))

-- so the arc of an accepted block is one that the code can test
pub begins : {t : Travel} (start : Point) (b : Block) (turn : Turn) (o : Offset) → Wide t → inside_of t start ≡ true
    → inside_of t b.end ≡ true → offset_right o ≡ true
    → Begins t start (arc_of start b turn o)
unfolding arc_of
begins start b turn o w s e right =
    let r = offset_right_lem o right in
    let n = travel_near w (inside s) in
    record {
      wide = w;
      start_in = s;
      end_in_lem = e;
      centre = record {
        x = omega (arith, abs_add start.x o.x, n.x, r.x);
        y =
            omega (arith, abs_add start.y o.y, n.y, r.y);
      };
      on = start_on start o r;
    }
