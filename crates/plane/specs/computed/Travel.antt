-- What the code asks of a travel, so that no sum or difference overflows: bounds within those of 01's question 3.
use Rattle.std.specs.Prelude.{◌≤◌, nat_abs}
use Rattle.plane.specs.declared.travel.Travel.{Travel}

pub record Wide (t : Travel) : Type 0 where
  pub x_lower : nat_abs t.x.lower ≤ 1000000
  pub x_upper : nat_abs t.x.upper ≤ 1000000
  pub y_lower : nat_abs t.y.lower ≤ 1000000
  pub y_upper : nat_abs t.y.upper ≤ 1000000
