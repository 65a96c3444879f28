-- The sums of a look-ahead as words.
use Rattle.std.specs.Prelude.{List, [], ◌∷◌, ℤ, pos}
use Rattle.look.specs.declared.Sums.{Sums}

-- X first
abbrev pub sum_words : Sums → List ℤ
sum_words s = s.x ∷ s.y ∷ []

abbrev pub no_sums : List ℤ
no_sums = pos 0 ∷ pos 0 ∷ []
