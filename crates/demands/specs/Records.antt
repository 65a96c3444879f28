-- "A record is sound if ..": the code's own test, by its contract, says so exactly where the paper's list holds.
use Rattle.std.specs.Prelude.{◌≡◌, Bool, true, ◌↔◌}
use Rattle.machine.specs.declared.Machine.{Machine}
use Rattle.history.specs.CallContracts.{Tests, PassesTest}
use Rattle.demands.specs.Sound.{Sound}

pub record EveryRecord : Type 0 where
  pub answers : (m : Machine) (r : Bool) → Tests m r → (r ≡ true) ↔ Sound m
  -- so the records of which other claims say that they pass the test are the sound ones
  pub passes : (m : Machine) → PassesTest m ↔ Sound m
