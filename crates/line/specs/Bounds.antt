-- Demand 3's bounds of a line, put over whole numbers as 01, "The book of a history", says: "both bounds are put over whole numbers,
-- multiplied out by q and by the sum of the squared increments". x and y are what the axes have moved.
use Rattle.std.specs.Prelude.{ℕ, ◌+◌, ◌*◌, ◌≤◌, ℤ, pos, nat_abs, ◌-ℤ◌, ◌*ℤ◌}

-- "On a line the point is at most half a pulse per axis from the exact point for the cycles done". "The exact point is the start plus c/q
-- of the increments", so |x - a c / q| ≤ 1/2; times 2 q.
abbrev pub HalfPulse : (q : ℕ) (a : ℤ) (c : ℕ) (x : ℤ) → Type 0
HalfPulse q a c x = 2 * nat_abs (pos q *ℤ x -ℤ a *ℤ pos c) ≤ q

-- ".. and its squared distance from the line is at most one half." "The line is the straight one through start and end": the squared
-- distance is (x b - y a)² / (a² + b²); times 2 (a² + b²).
abbrev pub NearLine : (a b x y : ℤ) → Type 0
NearLine a b x y =
    let cross = nat_abs (x *ℤ b -ℤ y *ℤ a) in
    2 * (cross * cross) ≤ nat_abs a * nat_abs a + nat_abs b * nat_abs b
