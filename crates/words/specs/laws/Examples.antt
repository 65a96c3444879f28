-- Lines that are words and lines that are not, computed; and the first line of document 01's job.
use Rattle.std.specs.Prelude.{ℕ, ◌≡◌, refl, List, [], ◌∷◌, Bool, true, false, ◌&&◌}
use Rattle.std.specs.Bool.{beq}
use Rattle.letters.specs.declared.letter.Letter.{Letter}
use Rattle.letters.specs.declared.letter.Letter.TheVariants.{N, G, F, X, Y, I, J}
use Rattle.letters.specs.declared.word.Word.{Word}
use Rattle.letters.specs.Word.{missing_word, one_word, words_by}
use Rattle.words.specs.Meaning.{answer_of}
use Rattle.words.specs.computed.Scan.{scan_line}

pub record Example : Type 0 where
  pub text : List ℕ
  pub formed : Bool

abbrev yes : List ℕ → Example
yes s = record { text = s; formed = true }

abbrev nope : List ℕ → Example
nope s = record { text = s; formed = false }

abbrev pub examples : List Example
examples =
    yes []
    ∷ yes (32 ∷ 32 ∷ [])  -- blanks alone
    ∷ yes (71 ∷ 49 ∷ 88 ∷ 43 ∷ 53 ∷ [])  -- G1X+5
    ∷ yes (88 ∷ 45 ∷ 48 ∷ 46 ∷ 48 ∷ 48 ∷ 48 ∷ 32 ∷ [])  -- X-0.000 and a blank
    ∷ nope (88 ∷ 46 ∷ 53 ∷ [])  -- X.5
    ∷ nope (88 ∷ 53 ∷ 46 ∷ [])  -- X5.
    ∷ nope (88 ∷ 53 ∷ 46 ∷ 49 ∷ 50 ∷ 51 ∷ 52 ∷ [])  -- X5.1234
    ∷ nope (88 ∷ 32 ∷ 53 ∷ [])  -- X 5
    ∷ nope (88 ∷ 45 ∷ 45 ∷ 53 ∷ [])  -- X--5
    ∷ yes (70 ∷ 49 ∷ 46 ∷ 53 ∷ [])  -- F1.5
    ∷ nope (70 ∷ 49 ∷ 46 ∷ [])  -- F1.
    ∷ nope (70 ∷ 46 ∷ 53 ∷ [])  -- F.5
    ∷ nope (70 ∷ 45 ∷ 49 ∷ [])  -- F-1
    ∷ nope (78 ∷ 49 ∷ 46 ∷ 53 ∷ [])  -- N1.5
    ∷ nope (71 ∷ 49 ∷ 46 ∷ 48 ∷ [])  -- G1.0
    ∷ nope (71 ∷ 43 ∷ 49 ∷ [])  -- G+1
    ∷ nope (78 ∷ 49 ∷ 50 ∷ 51 ∷ 52 ∷ 53 ∷ 54 ∷ 55 ∷ 56 ∷ [])  -- N12345678
    ∷ nope (71 ∷ 49 ∷ 9 ∷ [])  -- G1 and a tab
    ∷ nope (120 ∷ 53 ∷ [])  -- x5
    ∷ []

abbrev agree : List Example → Bool
agree [] = true
agree (e ∷ es) = beq (scan_line e.text).formed e.formed && agree es

pub examples_agree : agree examples ≡ true
unfolding scan_line
examples_agree = refl

-- N20 G01 X20 Y40 F100
abbrev pub first_line : List ℕ
first_line = 78 ∷ 50 ∷ 48 ∷ 32 ∷ 71 ∷ 48 ∷ 49 ∷ 32 ∷ 88 ∷ 50 ∷ 48 ∷ 32 ∷ 89 ∷ 52 ∷ 48 ∷ 32 ∷ 70 ∷ 49 ∷ 48 ∷ 48 ∷ []

abbrev first_words : Letter → Word
first_words N = one_word false 20
first_words G = one_word false 1
first_words F = one_word false 100_000
first_words X = one_word false 20_000
first_words Y = one_word false 40_000
first_words I = missing_word
first_words J = missing_word

pub first_line_lem : scan_line first_line ≡ answer_of true (words_by first_words)
unfolding scan_line
first_line_lem = refl
