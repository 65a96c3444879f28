-- The register width.
use Rattle.std.specs.Prelude.{ℕ, ◌^◌, ltb}
use Rattle.whole.specs.First.{first_from}

-- 01, Arcs: "the fewest bits that hold" n. w bits hold the numbers below 2 ^ w.
unfoldable pub width_of : ℕ → ℕ
width_of n = first_from (λ w. ltb n (2 ^ w)) n 0
