-- The letters of words. 01, Job text.
use Rattle.std.specs.Prelude.{ℕ, List, [], ◌∷◌, Bool, true, false, cond, eqb}
use Rattle.letters.specs.declared.letter.Letter.{Letter}
use Rattle.letters.specs.declared.letter.Letter.TheVariants.{N, G, F, X, Y, I, J}

-- 01: "A word is N, G or F with 1 to 7 digits, or X, Y, I, J with an optional sign, 1 to 7 digits and optionally a point with 1 to 3
-- digits, in millimetres." 02 §4: "F may take a point with 1 to 3 digits." The letters, and their bytes:
abbrev pub letters : List Letter
letters = N ∷ G ∷ F ∷ X ∷ Y ∷ I ∷ J ∷ []

abbrev pub letter_byte : Letter → ℕ
letter_byte N = 78
letter_byte G = 71
letter_byte F = 70
letter_byte X = 88
letter_byte Y = 89
letter_byte I = 73
letter_byte J = 74

-- "with an optional sign"
abbrev pub takes_sign : Letter → Bool
takes_sign N = false
takes_sign G = false
takes_sign F = false
takes_sign X = true
takes_sign Y = true
takes_sign I = true
takes_sign J = true

-- "and optionally a point"; 02 §4: F too
abbrev pub takes_point : Letter → Bool
takes_point N = false
takes_point G = false
takes_point F = true
takes_point X = true
takes_point Y = true
takes_point I = true
takes_point J = true

-- what a one before the point counts: a thousand thousandths for a letter that takes a point, else just one
abbrev pub unit_of : Letter → ℕ
unit_of l = cond (takes_point l) 1000 1

-- no two letters have the same byte
abbrev pub same : Letter → Letter → Bool
same k l = eqb (letter_byte k) (letter_byte l)
