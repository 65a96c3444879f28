-- What the code of the count relies on: the numbers are small.
use Rattle.std.specs.Prelude.{◌≡◌, true, ℕ, ◌*◌, ◌≤◌, ◌<◌}
use Rattle.std.proofs.Common.{le_of_lt, arith}
use Rattle.circle.specs.declared.plane.Offset.{Offset}
use Rattle.circle.specs.declared.plane.Turn.{Turn}
use Rattle.circle.specs.Circle.{on_circle}
use Rattle.circle.specs.computed.Step.{seen, seen_place}
use Rattle.circle.specs.computed.Count.{rank_of}
use Rattle.circle.specs.Circle.{quarter_of}
use Rattle.circle.specs.computed.Asked.{Ranked}
use Rattle.circle.proofs.laws.Octant.{under_axis, nearest_axis, within_axis, above, minor}
use Rattle.circle.proofs.laws.Circle.{on_circle_to, on_circle_of, radius_bound, seen_circle}
use Rattle.circle.proofs.laws.Next.{seen_form}
use Rattle.circle.proofs.laws.Rank.{place_lt}
use Rattle.circle.proofs.laws.Walk.{quarter_axis}

-- a quarter turn of the largest circle has 2,000,000 points
pub quarter_bound : (n : ℕ) (p : Offset) → on_circle n p ≡ true → quarter_of n ≤ 2000000
quarter_bound n p e = let o = on_circle_to n p e in within_axis (quarter_axis o.circle) 2000000 (omega arith)

pub ranked : (n : ℕ) (t : Turn) (p : Offset) → on_circle n p ≡ true → Ranked (quarter_of n) (seen_place t p)
ranked n t p e =
    let o = on_circle_to n p e in
    let f = (seen_form t p o.circle).on in
    let u = under_axis f.on (nearest_axis n o.some) in
    let r = radius_bound n o.some o.bound in
    record {
      four = f.four;
      quarter = quarter_bound n p e;
      along = omega arith;
      across = omega arith;
      least = λ l. omega (arith, minor (above f.on (le_of_lt l)) (quarter_axis o.circle));
    }

pub rank_bound : (n : ℕ) (t : Turn) (p : Offset) → on_circle n p ≡ true → rank_of (quarter_of n) (seen_place t p) < 4 * quarter_of n
rank_bound n t p e = let o = on_circle_to n p e in place_lt (quarter_axis o.circle) (seen_form t p o.circle).on

-- the mirror image is on the circle too
pub seen_on : (n : ℕ) (t : Turn) (p : Offset) → on_circle n p ≡ true → on_circle n (seen t p) ≡ true
seen_on n t p e =
    let o = on_circle_to n p e in
    on_circle_of n (seen t p) (record { some = o.some; bound = o.bound; circle = seen_circle t p o.circle })
