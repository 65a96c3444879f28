-- Points are equal where their coordinates are.
use Rattle.std.specs.Prelude.{◌≡◌, true, ◌&&◌, nat_abs, ◌-ℤ◌}
use Rattle.std.specs.Ordering.{int_eq}
use Rattle.std.proofs.Common.{ap, ◌∙◌}
use Rattle.whole.specs.computed.Sign.{join_of}
use Rattle.whole.specs.laws.Sign.{join_part}
use Rattle.whole.specs.laws.Test.{both, joined, equal_true, equal_same, equal_library as equal_library_z}
use Rattle.plane.specs.declared.point.Point.{Point}
use Rattle.plane.specs.declared.point.Increments.{Increments}
use Rattle.plane.specs.computed.Point.{increments_of}
use Rattle.plane.specs.Point.{equal_point}

pub same_point : {p q : Point} → p.x ≡ q.x → p.y ≡ q.y → p ≡ q
same_point ex ey = λ i. record { x = ex i; y = ey i }

pub equal_point_lem : (p q : Point) → equal_point p q ≡ true → p ≡ q
equal_point_lem p q e = let b = both e in same_point (equal_true p.x q.x b.0) (equal_true p.y q.y b.1)

pub equal_itself : (p : Point) → equal_point p p ≡ true
equal_itself p = joined (equal_same p.x) (equal_same p.y)

-- `==` on points is that test
pub equal_library : (p q : Point) → (int_eq p.x q.x && int_eq p.y q.y) ≡ equal_point p q
equal_library p q = rw (equal_library_z p.x q.x, equal_library_z p.y q.y)

-- what an increment's two parts are
pub length_x : (from to : Point) {w : Increments} → w ≡ increments_of from to → w.x.magnitude ≡ nat_abs (to.x -ℤ from.x)
length_x from to e = ap (λ (w : Increments). w.x.magnitude) e

pub length_y : (from to : Point) {w : Increments} → w ≡ increments_of from to → w.y.magnitude ≡ nat_abs (to.y -ℤ from.y)
length_y from to e = ap (λ (w : Increments). w.y.magnitude) e

pub joined_x : (from to : Point) {w : Increments} → w ≡ increments_of from to → join_of w.x ≡ to.x -ℤ from.x
joined_x from to e = ap (λ (w : Increments). join_of w.x) e ∙ join_part (to.x -ℤ from.x)

pub joined_y : (from to : Point) {w : Increments} → w ≡ increments_of from to → join_of w.y ≡ to.y -ℤ from.y
joined_y from to e = ap (λ (w : Increments). join_of w.y) e ∙ join_part (to.y -ℤ from.y)
