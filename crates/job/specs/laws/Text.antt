-- The first line of a text is what the code finds, and then the others follow.
use Rattle.std.specs.Prelude.{◌≡◌, refl, Bool, true, false, List, [], ◌∷◌, ℕ, suc, ◌-◌, ◌≤◌, eqb, length, take, drop}
use Rattle.std.proofs.Common.{ap, arith, length-drop}
use Rattle.std.proofs.Math.Seq.{take-length}
use Rattle.words.specs.computed.Scan.{until_lf, first_line}
use Rattle.job.specs.Text.{in_front, line_or, lines_of}

-- the slice from a place on
pub slice_rest : (s : List ℕ) (at : ℕ) → take (length s - at) (drop at s) ≡ drop at s
slice_rest s at = rw (← length-drop at s) (take-length (drop at s))

-- the first line, and those after its LF
pub lines_cut : (b : ℕ) (s : List ℕ) → lines_of (b ∷ s) ≡ first_line (b ∷ s) ∷ lines_of (drop (suc (length (first_line (b ∷ s)))) (b ∷ s))
unfolding lines_of first_line
lines_cut b [] = by (eqb b 10)
  where
    by : (lf : Bool) → line_or lf b [] ≡ until_lf lf b [] ∷ lines_of (drop (suc (length (until_lf lf b []))) (b ∷ []))
    by true = refl
    by false = refl
lines_cut b (a ∷ s) = by (eqb b 10) (lines_cut a s)
  where
    by : (lf : Bool) → lines_of (a ∷ s) ≡ first_line (a ∷ s) ∷ lines_of (drop (suc (length (first_line (a ∷ s)))) (a ∷ s))
        → line_or lf b (lines_of (a ∷ s)) ≡ until_lf lf b (first_line (a ∷ s)) ∷ lines_of (drop
        (suc (length (until_lf lf b (first_line (a ∷ s))))) (b ∷ a ∷ s))
    by true e = refl
    by false e = ap (in_front b) e

-- where text is left
pub lines_next : (s : List ℕ) → 1 ≤ length s → lines_of s ≡ first_line s ∷ lines_of (drop (suc (length (first_line s))) s)
lines_next [] h = absurd (omega arith)
lines_next (b ∷ s) h = lines_cut b s
