-- A line that a question refuses; and bytes with an LF among them, which are no line.
use Rattle.std.specs.Prelude.{◌≡◌, refl, Bool, true, false, cond, List, ℕ, zero, suc, ◌<◌, leb, length}
use Rattle.plane.specs.declared.point.Point.{Point}
use Rattle.letters.specs.declared.word.Words.{Words}
use Rattle.words.specs.Meaning.{not_words}
use Rattle.words.specs.computed.Meaning.{meaning_of}
use Rattle.words.specs.computed.Scan.{first_line}
use Rattle.words.specs.laws.Meaning.{meaning_broken}
use Rattle.reader.specs.declared.Reader.{Reader}
use Rattle.reader.specs.declared.asked.ToLoad.{ToLoad}
use Rattle.reader.specs.computed.Reader.{longest_line, line_no}
use Rattle.reader.specs.Reader.{reader_after}
use Rattle.reader.specs.computed.Asked.{asked, asked_with, asked_of}
use Rattle.reader.specs.computed.Asked.{broken_no}

pub asked_refused : (p : ℕ) (k k' : Reader) (place : Point) (ws : Words) (n : ℕ) → (n ≡ 0 → ⊥)
    → asked (ToLoad.Refused n) k ≡ asked_with p k k' place ws n
asked_refused p k k' place ws zero some = absurd (some refl)
asked_refused p k k' place ws (suc n) some = refl

pub asked_broken : (p : ℕ) (k : Reader) (place : Point) (bytes : List ℕ) → length (first_line bytes) < length bytes
    → asked (ToLoad.Refused (broken_no (length bytes))) k ≡ asked_of p k place (length bytes) (meaning_of bytes)
unfolding asked_of line_no
asked_broken p k place bytes lf = rw (← meaning_broken bytes lf) (by (leb (length bytes) longest_line))
  where
    by : (short : Bool)
        → asked (ToLoad.Refused (cond short 32 31)) k
        ≡ asked_with p k (reader_after k not_words.words) place not_words.words (cond short 32 31)
    by true = refl
    by false = refl
