-- What an inner function asks of its callers: places whose numbers are small.
use Rattle.std.specs.Prelude.{◌≤◌, ◌<◌}
use Rattle.circle.specs.declared.quadrant.Place.{Place}

-- the axes between two places
pub record Crossing (p e : Place) : Type 0 where
  pub from : p.quadrant < 4
  pub to : e.quadrant < 4
  pub along_p : p.along ≤ 2000000
  pub across_p : p.across ≤ 2000000
  pub along_e : e.along ≤ 2000000
  pub across_e : e.across ≤ 2000000
