-- What the whole lines before byte 65,537 are: each with its LF, they are the text before that byte up to its last LF.
use Rattle.std.specs.Prelude.{◌≡◌, refl, Bool, true, false, List, [], ◌∷◌, ◌++◌, ℕ, zero, suc, ◌≤◌, eqb, length, take}
use Rattle.std.proofs.Common.{ap, arith, length-take, eqb-true}
use Rattle.std.proofs.Math.Seq.{take-nil}
use Rattle.reader.specs.computed.Reader.{longest_text}
use Rattle.job.specs.Text.{in_front, line_or, lines_of}
use Rattle.panel.specs.Whole.{count_one, lfs_in, whole_lines}

unfoldable pub ended : List (List ℕ) → List ℕ
ended [] = []
ended (l ∷ ls) = l ++ (10 ∷ ended ls)

-- these lines, each with its LF, and bytes that no LF ends
pub record Parts (whole : List (List ℕ)) (bytes : List ℕ) : Type 0 where
  pub tail : List ℕ
  pub cut : bytes ≡ ended whole ++ tail
  pub none : lfs_in tail ≡ 0

in_front_lem : (b : ℕ) → eqb b 10 ≡ false → (s : List ℕ) (k : ℕ) → lfs_in s ≡ k → (ls : List (List ℕ)) → Parts (take k ls) s
    → Parts (take k (in_front b ls)) (b ∷ s)
unfolding ended lfs_in
in_front_lem b e s zero q ls r = record { tail = b ∷ r.tail; cut = ap (λ (x : List ℕ). b ∷ x) r.cut; none = rw e r.none }
in_front_lem b e s (suc k) q [] r = absurd (omega (arith, q, ap lfs_in r.cut, r.none))
in_front_lem b e s (suc k) q (l ∷ ls) r = record { tail = r.tail; cut = ap (λ (x : List ℕ). b ∷ x) r.cut; none = r.none }

parts : (text : List ℕ) (n : ℕ) → Parts (take (lfs_in (take n text)) (lines_of text)) (take n text)
unfolding ended lfs_in lines_of
parts [] n = rw take-nil (record { tail = []; cut = take-nil n; none = refl })
parts (b ∷ s) zero = record { tail = []; cut = refl; none = refl }
parts (b ∷ s) (suc n) = by (eqb b 10) refl (parts s n)
  where
    by : (lf : Bool) → eqb b 10 ≡ lf → Parts (take (lfs_in (take n s)) (lines_of s)) (take n s)
        → Parts (take (count_one lf (lfs_in (take n s))) (line_or lf b (lines_of s))) (b ∷ take n s)
    by true e r = rw (eqb-true b 10 e) (record { tail = r.tail; cut = ap (λ (x : List ℕ). 10 ∷ x) r.cut; none = r.none })
    by false e r = in_front_lem b e (take n s) (lfs_in (take n s)) refl (lines_of s) r

pub whole_lines_lem : (text : List ℕ) → Parts (whole_lines text) (take 65536 text)
unfolding whole_lines
whole_lines_lem text = parts text 65536

-- ---- no more of them than bytes

lfs_few : (s : List ℕ) → lfs_in s ≤ length s
unfolding lfs_in
lfs_few [] = omega arith
lfs_few (b ∷ s) = by (eqb b 10) (lfs_few s)
  where
    by : (lf : Bool) → lfs_in s ≤ length s → count_one lf (lfs_in s) ≤ suc (length s)
    by true h = omega arith
    by false h = omega arith

pub whole_few : (text : List ℕ) → length (whole_lines text) ≤ longest_text
unfolding whole_lines
whole_few text =
    omega (arith, length-take (lfs_in (take 65536 text)) (lines_of text), lfs_few (take 65536 text), length-take 65536 text)
