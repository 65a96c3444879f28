-- What the first line asks for: a number of ticks in decimal digits, from 0 to 2^63 - 1, and an LF. The job begins after it. So every
-- number of the answer is a signed one of 64 bits.
use Rattle.std.specs.Prelude.{cond, ◌&&◌, List, [], ◌∷◌, ℕ, ◌+◌, ◌-◌, ◌*◌, ◌^◌, leb, ltb, eqb, None, Some}
use Rattle.std.specs.declared.option.Option.{Option}

-- a digit, from '0', byte 48, to '9', after the digits that write n
unfoldable pub digit_pushed : (n b : ℕ) → Option ℕ
digit_pushed n b =
    let more = n * 10 + (b - 48) in
    cond (leb 48 b && (leb b 57 && ltb more (2 ^ 63))) (Some more) None

abbrev pub if_pushed : Option ℕ → (rest : ℕ → Option (ℕ × ℕ)) → Option (ℕ × ℕ)
if_pushed (Some n) rest = rest n
if_pushed None rest = None

-- after so many digits, which write n: at least one and at most 19, so that no zeros in front push the job out of the buffer
unfoldable pub asked_from : (n digits : ℕ) → List ℕ → Option (ℕ × ℕ)
asked_from n digits [] = None
asked_from n digits (b ∷ s) =
    cond (eqb b 10)
    (cond (eqb digits 0) None (Some (n, digits + 1)))
    (cond (eqb digits 19) None (if_pushed (digit_pushed n b) (λ more. asked_from more (digits + 1) s)))

abbrev pub ticks_asked : (text : List ℕ) → Option (ℕ × ℕ)
ticks_asked text = asked_from 0 0 text
