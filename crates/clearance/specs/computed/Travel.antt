-- The test that an arc stays inside travel, which walks no arc: between p and e the circle reaches furthest on the axes that it passes.
use Rattle.std.specs.Prelude.{Bool, true, false, cond, ◌&&◌, ℕ, ◌+◌, ◌*◌, leb, ltb, eqb, ℤ, pos, negsuc}
use Rattle.std.specs.Int.Signed.{le_z}
use Rattle.circle.specs.declared.plane.Offset.{Offset}
use Rattle.circle.specs.declared.plane.Turn.{Turn}
use Rattle.circle.specs.declared.plane.Turn.TheVariants.{Clockwise, Counterclockwise}
use Rattle.circle.specs.declared.quadrant.Place.{Place}
use Rattle.circle.specs.Circle.{offset}
use Rattle.circle.specs.computed.Step.{seen, turned, place_of}
use Rattle.circle.specs.computed.Count.{onward}
use Rattle.clearance.specs.declared.Room.{Room}

-- p is at most the corner in both coordinates
unfoldable pub below_test : Offset → Offset → Bool
below_test p corner = le_z p.x corner.x && le_z p.y corner.y

-- p is below the upper corner, and its opposite below that of the lower one
unfoldable pub inside_test : Room → Offset → Bool
inside_test room p = below_test p (offset room.right room.up) && below_test (turned 2 p) (offset room.left room.down)

-- the circle point on an axis, nearestRoot N, is at most E
unfoldable pub reaches : ℕ → ℤ → Bool
reaches N (pos E) = leb N (E * E + E)
reaches N (negsuc E) = false

-- how many axes the way from p to e passes or ends on: in one quadrant none if e comes later, else all four
unfoldable pub axes_passed : Place → Place → ℕ
axes_passed p e =
    cond (eqb e.quadrant p.quadrant)
    (cond (ltb (p.across + e.along) (e.across + p.along)) 0 4)
    (onward 4 p.quadrant e.quadrant)

-- axis i is not passed, or travel reaches far enough there
unfoldable pub axis_test : (N passed from i : ℕ) → ℤ → Bool
axis_test N passed from i side = cond (leb (onward 4 from i) passed) (reaches N side) true

unfoldable pub axes_test : Room → ℕ → (passed from : ℕ) → Bool
axes_test room N passed from =
    axis_test N passed from 0 room.right
    && (axis_test N passed from 1 room.up && (axis_test N passed from 2 room.left && axis_test N passed from 3 room.down))

unfoldable pub way_inside : Room → ℕ → Offset → Offset → Bool
way_inside room N p e =
    let from = place_of p.x p.y in
    inside_test room p && (inside_test room e && axes_test room N (axes_passed from (place_of e.x e.y)) from.quadrant)

abbrev pub seen_room : Turn → Room → Room
seen_room Clockwise room = record { right = room.right; up = room.down; left = room.left; down = room.up }
seen_room Counterclockwise room = room

unfoldable pub stays_inside : Room → ℕ → Turn → Offset → Offset → Bool
stays_inside room N turn p e = way_inside (seen_room turn room) N (seen turn p) (seen turn e)

-- the smaller side
abbrev pub smaller_of : ℤ → ℤ → ℤ
smaller_of a b = cond (le_z a b) a b
