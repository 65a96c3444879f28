-- 02 §4: "Jobs whose F words have no point": said of a line's items, and so of its bytes.
use Rattle.std.specs.Prelude.{◌≡◌, List, [], ◌∷◌, ℕ}
use Rattle.letters.specs.declared.letter.Letter.TheVariants.{F}
use Rattle.words.specs.Grammar.{Item, blank, word, LineOfWords}

-- a word without decimals has no point. 01's grammar is this one with such F words alone: "N, G or F with 1 to 7 digits"
abbrev pub WholeFeed : Item → Type 0
WholeFeed blank = Unit
WholeFeed (word letter sign whole decimals) = letter ≡ F → decimals ≡ []

abbrev pub WholeFeeds : List Item → Type 0
WholeFeeds [] = Unit
WholeFeeds (i ∷ is) = WholeFeed i × WholeFeeds is

-- however the bytes are read as a line of words; bytes that are none have no F word
abbrev pub NoPoint : (bytes : List ℕ) → Type 0
NoPoint bytes = (line : LineOfWords bytes) → WholeFeeds line.items
