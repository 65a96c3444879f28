-- The scan that the code is. Nothing here is to be believed: `Reading` proves that its answer is what `Meaning` asks.
use Rattle.std.specs.Prelude.{ℕ, zero, suc, ◌+◌, ◌-◌, ◌*◌, ◌^◌, ◌≤◌, ◌<◌, List, [], ◌∷◌, Bool, true, false, cond, ◌&&◌, ltb, leb, eqb}
use Rattle.std.specs.Prelude.{length, drop, Option, Some, None}
use Rattle.letters.specs.declared.letter.Letter.{Letter}
use Rattle.letters.specs.declared.word.Words.{Words}
use Rattle.letters.specs.Letter.{takes_sign, takes_point}
use Rattle.letters.specs.Word.{one_word}
use Rattle.letters.specs.computed.Scan.{letter_of, no_words}
use Rattle.letters.specs.laws.Scan.{put_of}
use Rattle.words.specs.declared.digits.Digits.{Digits}
use Rattle.words.specs.declared.number.Sign.{Sign}
use Rattle.words.specs.declared.number.Amount.{Amount}
use Rattle.words.specs.declared.number.Number.{Number}
use Rattle.words.specs.declared.line.Line.{Line}
use Rattle.words.specs.Meaning.{answer_of, not_words}

-- ---- digits

-- after its last byte a line has a blank more
abbrev pub first_byte : List ℕ → ℕ
first_byte [] = 32
first_byte (b ∷ s) = b

abbrev pub is_digit : ℕ → Bool
is_digit b = cond (ltb b 48) false (leb b 57)

abbrev pub digits : (value count : ℕ) → Digits
digits v k = record { value = v; count = k }

abbrev pub push_of : Digits → ℕ → Digits
push_of d b = digits (d.value * 10 + (b - 48)) (d.count + 1)

-- the digits that the bytes begin with, after those of d, until there are so many
abbrev pub more_digits : (most : ℕ) → Digits → List ℕ → Digits
more_digits most d [] = d
more_digits most d (b ∷ s) = let more = more_digits most (push_of d b) s in cond (is_digit b && ltb d.count most) more d

abbrev pub digits_of : (most value : ℕ) → List ℕ → Digits
digits_of most v s = more_digits most (digits v 0) s

-- ---- the number of a word

abbrev pub sign : (negative : Bool) (bytes : ℕ) → Sign
sign n k = record { negative = n; bytes = k }

abbrev pub sign_of : (takes : Bool) → ℕ → Sign
sign_of takes b = cond takes (cond (eqb b 45) (sign true 1) (cond (eqb b 43) (sign false 1) (sign false 0))) (sign false 0)

abbrev pub amount : (value bytes : ℕ) → Option Amount
amount v k = Some (record { value = v; bytes = k })

-- the digits w, a point, and the digits d
abbrev pub pointed_of : (w d : Digits) → Option Amount
pointed_of w d = cond (ltb d.count 1) None (amount (d.value * 10 ^ (3 - d.count)) (w.count + 1 + d.count))

-- fine: in thousandths, with a point or without
abbrev pub amount_after : (fine : Bool) → Digits → (rest : List ℕ) → Option Amount
amount_after false w s = amount w.value w.count
amount_after true w s =
    cond (eqb (first_byte s) 46) (pointed_of w (digits_of 3 w.value (drop 1 s))) (amount (w.value * 1000) w.count)

abbrev pub amount_with : (fine : Bool) → Digits → List ℕ → Option Amount
amount_with fine w s = cond (ltb w.count 1) None (amount_after fine w (drop w.count s))

abbrev pub amount_of : (fine : Bool) → List ℕ → Option Amount
amount_of fine s = amount_with fine (digits_of 7 0 s) s

abbrev pub with_sign : Sign → Option Amount → Option Number
with_sign g None = None
with_sign g (Some m) = Some (record { negative = g.negative; magnitude = m.value; bytes = g.bytes + m.bytes })

abbrev pub number_after : (fine : Bool) → Sign → List ℕ → Option Number
number_after fine g s = with_sign g (amount_of fine (drop g.bytes s))

-- none where the bytes begin with no number
abbrev pub number_of : Letter → List ℕ → Option Number
number_of l s = number_after (takes_point l) (sign_of (takes_sign l) (first_byte s)) s

-- ---- a line

-- what a byte leads to where an item may begin: the next item after so many bytes more, with these words found; or this is no line of words
pub data NextItem : Type 0 where
  on : (skip : ℕ) → Words → NextItem
  stop : NextItem

abbrev pub number_next : Words → Letter → Option Number → NextItem
number_next ws l None = stop
number_next ws l (Some n) = on n.bytes (put_of ws l (one_word n.negative n.magnitude))

abbrev pub letter_next : Words → Option Letter → List ℕ → NextItem
letter_next ws None s = stop
letter_next ws (Some l) s = number_next ws l (number_of l s)

abbrev pub next_item : Words → ℕ → List ℕ → NextItem
next_item ws b s = cond (eqb b 32) (on 0 ws) (letter_next ws (letter_of b) s)

abbrev pub follow : NextItem → (ℕ → Words → Line) → Line
follow (on k ws) scan = scan k ws
follow stop scan = not_words

-- the answer from an item's begin on, after bytes that are skipped since a word has them
abbrev pub scan_of : (skip : ℕ) → Words → List ℕ → Line
scan_of k ws [] = answer_of true ws
scan_of zero ws (b ∷ s) = follow (next_item ws b s) (λ k w. scan_of k w s)
scan_of (suc k) ws (b ∷ s) = scan_of k ws s

unfoldable pub scan_line : List ℕ → Line
scan_line bytes = scan_of 0 no_words bytes

-- ---- the first line of a text, at its LF or at the text's end: crate `job` proves that it is the first of the lines

abbrev pub until_lf : (lf : Bool) (b : ℕ) → List ℕ → List ℕ
until_lf true b l = []
until_lf false b l = b ∷ l

unfoldable pub first_line : List ℕ → List ℕ
first_line [] = []
first_line (b ∷ s) = until_lf (eqb b 10) b (first_line s)

-- ---- what keeps the numbers in range

-- digits read after those that wrote the value: each makes the number at most ten times as large
pub record Sized (s : List ℕ) (most value : ℕ) (d : Digits) : Type 0 where
  pub within : d.count ≤ length s
  pub few : d.count ≤ most
  pub low : d.value < (value + 1) * 10 ^ d.count
