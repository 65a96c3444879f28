-- 02 §2, "Arcs cut too fast at 45 degrees": what a step of an arc is charged.
use Rattle.std.specs.Prelude.{ℕ}

-- "From now on a straight arc step is charged 1,000 and a diagonal one 1,414."
abbrev pub straight : ℕ
straight = 1000

abbrev pub diagonal : ℕ
diagonal = 1414
