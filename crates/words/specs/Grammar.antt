-- How a line of words is written. 01, Questions: "Is it made of zero or more words, with any number of blanks (byte 32) or none before,
-- between and after?" The letters, their bytes, and which of them take a sign and a point: `Letter` in crate `letters`.
use Rattle.std.specs.Prelude.{ℕ, ◌+◌, ◌≤◌, ◌<◌, ◌≡◌, List, [], ◌∷◌, ◌++◌, Bool, true, false, length}
use Rattle.letters.specs.declared.letter.Letter.{Letter}
use Rattle.letters.specs.Letter.{letter_byte, takes_sign, takes_point}

-- ---- a line is a list of items

pub data Sign : Type 0 where
  unsigned plus minus : Sign

-- a word has its letter, its sign, its digits before the point and its digits after it; with none after it there is no point
pub data Item : Type 0 where
  blank : Item
  word : (letter : Letter) (sign : Sign) (whole decimals : List ℕ) → Item

-- ---- how it is written

abbrev pub sign_text : Sign → List ℕ
sign_text unsigned = []
sign_text plus = 43 ∷ []
sign_text minus = 45 ∷ []

abbrev pub digits_text : List ℕ → List ℕ
digits_text [] = []
digits_text (d ∷ ds) = (48 + d) ∷ digits_text ds

abbrev pub decimals_text : List ℕ → List ℕ
decimals_text [] = []
decimals_text (d ∷ ds) = 46 ∷ digits_text (d ∷ ds)

abbrev pub item_text : Item → List ℕ
item_text blank = 32 ∷ []
item_text (word l s w f) = letter_byte l ∷ (sign_text s ++ (digits_text w ++ decimals_text f))

abbrev pub line_text : List Item → List ℕ
line_text [] = []
line_text (i ∷ is) = item_text i ++ line_text is

-- ---- which items are right

abbrev pub AllDigits : List ℕ → Type 0
AllDigits [] = Unit
AllDigits (d ∷ ds) = (d < 10) × AllDigits ds

-- a letter that takes no sign has none
abbrev pub SignRight : (takes : Bool) → Sign → Type 0
SignRight true s = Unit
SignRight false s = s ≡ unsigned

-- a letter that takes no point has no digits after it
abbrev pub PointRight : (takes : Bool) → List ℕ → Type 0
PointRight true f = Unit
PointRight false f = f ≡ []

pub record RightWord (l : Letter) (s : Sign) (w f : List ℕ) : Type 0 where
  pub some : 1 ≤ length w
  pub most : length w ≤ 7
  pub places : length f ≤ 3
  pub digits : AllDigits w
  pub decimals : AllDigits f
  pub sign : SignRight (takes_sign l) s
  pub point : PointRight (takes_point l) f

abbrev pub RightItem : Item → Type 0
RightItem blank = Unit
RightItem (word l s w f) = RightWord l s w f

abbrev pub RightLine : List Item → Type 0
RightLine [] = Unit
RightLine (i ∷ is) = RightItem i × RightLine is

-- the bytes are those of a line of words
pub record LineOfWords (bytes : List ℕ) : Type 0 where
  pub items : List Item
  pub right : RightLine items
  pub text : line_text items ≡ bytes
