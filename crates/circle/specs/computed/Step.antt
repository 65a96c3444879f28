-- The next point as it is computed: one rule for the first quadrant, turned four ways, and mirrored for clockwise.
use Rattle.std.specs.Prelude.{cond, ℕ, zero, suc, ◌+◌, ◌-◌, ◌*◌, leb, ltb, eqb, ℤ, pos, negsuc, neg_ℤ}
use Rattle.circle.specs.declared.plane.Offset.{Offset}
use Rattle.circle.specs.declared.plane.Turn.{Turn}
use Rattle.circle.specs.declared.plane.Turn.TheVariants.{Clockwise, Counterclockwise}
use Rattle.circle.specs.declared.quadrant.Place.{Place}
use Rattle.circle.specs.Circle.{offset}

abbrev pub place : (quadrant along across : ℕ) → Place
place k a b = record { quadrant = k; along = a; across = b }

-- ---- symmetry

-- clockwise is counterclockwise in a mirror
abbrev pub mirror : Offset → Offset
mirror p = offset p.x (neg_ℤ p.y)

abbrev pub seen : Turn → Offset → Offset
seen Clockwise p = mirror p
seen Counterclockwise p = p

abbrev pub quarter_turn : Offset → Offset
quarter_turn p = offset (neg_ℤ p.y) p.x

abbrev pub turned : ℕ → Offset → Offset
turned zero p = p
turned (suc k) p = quarter_turn (turned k p)

-- ---- quadrant form: (along, across), with along not 0, after so many quarter turns

abbrev pub point_at : Place → Offset
point_at q = turned q.quadrant (offset (pos q.along) (pos q.across))

-- quadrant 0 is x > 0, y ≥ 0; an axis belongs to the quadrant that it begins
abbrev pub place_of : ℤ → ℤ → Place
place_of (pos zero) (pos b) = place 1 b 0
place_of (pos (suc a)) (pos b) = place 0 (suc a) b
place_of (negsuc a) (pos zero) = place 2 (suc a) 0
place_of (negsuc b) (pos (suc a)) = place 1 (suc a) (suc b)
place_of (negsuc a) (negsuc b) = place 2 (suc a) (suc b)
place_of (pos b) (negsuc a) = place 3 (suc a) b

-- ---- the step

-- The rule from (a, b), a not 0. Below the diagonal b grows, and a falls if the point above is too far out;
-- from the diagonal on a falls, and b grows if the point beside is too far in. S = a² + b².
unfoldable pub first_step : (N a b : ℕ) → ℕ × ℕ
first_step N a b =
    cond (ltb b a)
    (cond (ltb (a * a + b * b + 2 * b + 1) (N + a)) (a, b + 1) (a - 1, b + 1))
    (cond (leb (N + 2 * a) (a * a + b * b + b + 1)) (a - 1, b) (a - 1, b + 1))

-- (0, b) is the axis that begins the next quadrant
abbrev pub next_quadrant : ℕ → ℕ
next_quadrant k = cond (eqb k 3) 0 (k + 1)

abbrev pub in_quadrant : ℕ → ℕ × ℕ → Place
in_quadrant k s = cond (eqb s.0 0) (place (next_quadrant k) s.1 0) (place k s.0 s.1)

unfoldable pub next_place : ℕ → Place → Place
next_place N q = in_quadrant q.quadrant (first_step N q.along q.across)

abbrev pub seen_place : Turn → Offset → Place
seen_place turn p = place_of (seen turn p).x (seen turn p).y

unfoldable pub step_of : ℕ → Turn → Offset → Offset
step_of N turn p = seen turn (point_at (next_place N (seen_place turn p)))

-- the point after c cycles
unfoldable pub after_of : ℕ → Turn → Offset → ℕ → Offset
after_of N turn p zero = p
after_of N turn p (suc c) = step_of N turn (after_of N turn p c)
