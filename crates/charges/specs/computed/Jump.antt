-- So many cycles on, in closed form: the place of a rank, by one root. `laws/Jump.antt` proves that the walk leads there.
use Rattle.std.specs.Prelude.{cond, ℕ, ◌-◌, ◌*◌, ◌/◌, ◌%◌, leb}
use Rattle.whole.specs.Root.{nearest_root}
use Rattle.circle.specs.declared.plane.Offset.{Offset}
use Rattle.circle.specs.declared.plane.Turn.{Turn}
use Rattle.circle.specs.declared.quadrant.Place.{Place}
use Rattle.circle.specs.computed.Step.{place, seen_place, after_of}
use Rattle.circle.specs.Circle.{quarter_of}
use Rattle.charges.specs.declared.jump.Arrived.{Arrived}
use Rattle.charges.specs.declared.jump.Start.{Start}
use Rattle.charges.specs.computed.Sum.{charges_in, span_to}

-- the coordinate beside d, where d is the shorter
abbrev pub beside : (N d : ℕ) → ℕ
beside N d = nearest_root (N - d * d)

-- rank i in the quadrant k of Q points: to the diagonal i is the coordinate across, from there on Q - i that along
unfoldable pub place_in : (N Q k i : ℕ) → Place
place_in N Q k i = cond (leb (2 * i) Q) (place k (beside N i) i) (place k (Q - i) (beside N (Q - i)))

-- rank r, round and round
unfoldable pub place_at : (N Q r : ℕ) → Place
place_at N Q r = place_in N Q (r / Q % 4) (r % Q)

-- where cycles are counted from
unfoldable pub jump_start : ℕ → Turn → Offset → Start
jump_start N turn p =
    let Q = quarter_of N in
    let R = nearest_root N in
    record { n = N; turn = turn; at = p; quarter = Q; radius = R; place = seen_place turn p; from = span_to Q R (seen_place turn p) }

-- c cycles on from there
abbrev pub point_on : Start → (c : ℕ) → Offset
point_on s c = after_of s.n s.turn s.at c

abbrev pub charges_on : Start → (c : ℕ) → ℕ
charges_on s c = charges_in s.n s.turn s.at c

unfoldable pub arrived_of : Start → (c : ℕ) → Arrived
arrived_of s c = record { cycles = c; charges = charges_on s c; place = seen_place s.turn (point_on s c) }
