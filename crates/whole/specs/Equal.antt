-- A test of equality on whole numbers that computes.
use Rattle.std.specs.Prelude.{Bool, false, eqb, ℤ, pos, negsuc}

abbrev pub equal_z : ℤ → ℤ → Bool
equal_z (pos a) (pos b) = eqb a b
equal_z (pos a) (negsuc b) = false
equal_z (negsuc a) (pos b) = false
equal_z (negsuc a) (negsuc b) = eqb a b
