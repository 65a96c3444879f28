-- Which letters have been found in a line, as the scan keeps them, and the words that they come to.
use Rattle.std.specs.Prelude.{ℕ, ◌-◌, ◌/◌, ◌%◌, ◌^◌, List, Bool, cond, eqb, get_or}
use Rattle.std.specs.Int.Bits.{bit_and, bit_or}
use Rattle.letters.specs.declared.letter.Letter.{Letter}
use Rattle.letters.specs.declared.letter.Letter.TheVariants.{N, G, F, X, Y, I, J}
use Rattle.letters.specs.declared.word.Word.{Word}
use Rattle.letters.specs.declared.word.Words.{Words}
use Rattle.letters.specs.declared.found.Found.{Found}
use Rattle.letters.specs.Word.{words_by}

abbrev pub index_of : Letter → ℕ
index_of N = 0
index_of G = 1
index_of F = 2
index_of X = 3
index_of Y = 4
index_of I = 5
index_of J = 6

abbrev pub has_of : (set : ℕ) → Letter → Bool
has_of set l = eqb (set / 2 ^ index_of l % 2) 1

abbrev pub found : (stands twice negative : ℕ) → Found
found s t n = record { stands = s; twice = t; negative = n }

abbrev pub nothing_found : Found
nothing_found = found 0 0 0

-- the set of all seven
abbrev pub all_letters : ℕ
all_letters = 127

abbrev pub add_of : Found → Letter → (negative : Bool) → Found
add_of f l n =
    let one = 2 ^ index_of l in
    cond (has_of f.stands l)
    (found f.stands (bit_or f.twice one) (bit_and f.negative (all_letters - one)))
    (found (bit_or f.stands one) f.twice (bit_or f.negative (cond n one 0)))

abbrev pub magnitude_after : Found → Letter → (magnitude : ℕ) → ℕ
magnitude_after f l m = cond (has_of f.stands l) 0 m

abbrev pub word_in : Found → (magnitudes : List ℕ) → Letter → Word
word_in f ms l =
    record { stands = has_of f.stands l; twice = has_of f.twice l; negative = has_of f.negative l; magnitude = get_or ms (index_of l) 0 }

abbrev pub words_in : Found → (magnitudes : List ℕ) → Words
words_in f ms = words_by (word_in f ms)
