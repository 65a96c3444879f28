-- What the laws need of settings that pass the questions 1 to 3.
use Rattle.std.specs.Prelude.{ℕ, ◌≤◌, pos}
use Rattle.plane.specs.declared.travel.Travel.{Travel}
use Rattle.plane.specs.computed.Travel.{Wide}
use Rattle.plane.specs.laws.Travel.{Bounded}

pub record SettingsRight (q0 : ℕ) (t : Travel) : Type 0 where
  pub some : 1 ≤ q0
  pub origin : Bounded t (record { x = pos 0; y = pos 0 })
  pub wide : Wide t
