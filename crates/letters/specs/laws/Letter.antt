-- A letter has its byte, and a byte its letter.
use Rattle.std.specs.Prelude.{ℕ, ◌≡◌, refl, List, [], ◌∷◌, Option, Some, None, Bool, true, false, cond, eqb}
use Rattle.std.proofs.Common.{eqb-true, ne_eqb}
use Rattle.letters.specs.declared.letter.Letter.{Letter}
use Rattle.letters.specs.declared.letter.Letter.TheVariants.{N, G, F, X, Y, I, J}
use Rattle.letters.specs.Letter.{letters, letter_byte}
use Rattle.letters.specs.computed.Scan.{among_of, letter_of}

pub letter_of_lem : (l : Letter) → letter_of (letter_byte l) ≡ Some l
letter_of_lem N = refl
letter_of_lem G = refl
letter_of_lem F = refl
letter_of_lem X = refl
letter_of_lem Y = refl
letter_of_lem I = refl
letter_of_lem J = refl

-- the byte is none of the letters', said as a `match` says it, and before that r
abbrev pub NoneOf : List Letter → ℕ → Type 0 → Type 0
NoneOf [] b r = r
NoneOf (l ∷ ls) b r = NoneOf ls b (r × (b ≡ letter_byte l → ⊥))

before : (ls : List Letter) (b : ℕ) (r : Type 0) → NoneOf ls b r → r
before [] b r h = h
before (l ∷ ls) b r h = (before ls b (r × (b ≡ letter_byte l → ⊥)) h).0

among_none : (ls : List Letter) (b : ℕ) (r : Type 0) → NoneOf ls b r → among_of ls b ≡ None
among_none [] b r h = refl
among_none (l ∷ ls) b r h =
    let differs = (before ls b (r × (b ≡ letter_byte l → ⊥)) h).1 in
    rw (ne_eqb b (letter_byte l) differs) (among_none ls b (r × (b ≡ letter_byte l → ⊥)) h)

pub letter_none : (b : ℕ) → NoneOf letters b Unit → letter_of b ≡ None
letter_none b h = among_none letters b Unit h

-- ---- and back

abbrev HasByte : Option Letter → ℕ → Type 0
HasByte (Some l) b = b ≡ letter_byte l
HasByte None b = Unit

if_has : (t : Bool) (l : Letter) (b : ℕ) (n : Option Letter) → eqb b (letter_byte l) ≡ t → HasByte n b → HasByte (cond t (Some l) n) b
if_has true l b n e h = eqb-true b (letter_byte l) e
if_has false l b n e h = h

among_has : (ls : List Letter) (b : ℕ) → HasByte (among_of ls b) b
among_has [] b = tt
among_has (l ∷ ls) b = if_has (eqb b (letter_byte l)) l b (among_of ls b) refl (among_has ls b)

pub letter_byte_lem : (b : ℕ) (l : Letter) → letter_of b ≡ Some l → b ≡ letter_byte l
letter_byte_lem b l e = rw e at (among_has letters b)
