-- The number of cycles from one circle point to another, in closed form: the difference of their ranks on the way round.
use Rattle.std.specs.Prelude.{cond, ℕ, ◌+◌, ◌-◌, ◌*◌, leb, ltb}
use Rattle.circle.specs.declared.plane.Offset.{Offset}
use Rattle.circle.specs.declared.plane.Turn.{Turn}
use Rattle.circle.specs.declared.quadrant.Place.{Place}
use Rattle.circle.specs.computed.Step.{seen_place}
use Rattle.circle.specs.Circle.{quarter_of}

-- the rank in a quadrant of Q points: to the diagonal each cycle adds 1 to b, from there on each takes 1 off a
unfoldable pub rank_in : (Q a b : ℕ) → ℕ
rank_in Q a b = cond (leb b a) b (Q - a)

unfoldable pub rank_of : ℕ → Place → ℕ
rank_of Q q = q.quadrant * Q + rank_in Q q.along q.across

-- from r on to s in a round of T: 1 to T, so from r to r is a full round
unfoldable pub onward : (T r s : ℕ) → ℕ
onward T r s = cond (ltb r s) (s - r) (s + T - r)

unfoldable pub places_to : ℕ → Place → Place → ℕ
places_to Q p e = onward (4 * Q) (rank_of Q p) (rank_of Q e)

unfoldable pub circle_cycles : ℕ → Turn → Offset → Offset → ℕ
circle_cycles N turn p e = places_to (quarter_of N) (seen_place turn p) (seen_place turn e)
