-- The rows byte by byte: what a byte does, that the first 81 bytes of a line are enough, and that they are the rows of the text's lines.
use Rattle.std.specs.Prelude.{◌≡◌, refl, Bool, true, false, List, [], ◌∷◌, ◌++◌, ℕ, zero, suc, ◌≤◌, ◌<◌, eqb, length, take}
use Rattle.std.proofs.Common.{sym, ap, ◌∙◌, arith, eq-eqb}
use Rattle.words.specs.computed.Scan.{first_line}
use Rattle.tally.specs.declared.Tally.{Tally}
use Rattle.tally.specs.computed.Tally.{RowGiven, listed_of}
use Rattle.job.specs.Text.{in_front, line_or, lines_of}
use Rattle.job.specs.computed.Check.{rows_then, rows_from}
use Rattle.panel.specs.Whole.{count_one, lfs_in}
use Rattle.panel.specs.computed.Piece.{scratch_bytes, too_long}
use Rattle.panel.specs.computed.Rest.{unended, row_then, at_lf, rows_on}
use Rattle.panel.specs.laws.First.{first_append, take_again, listed_cut}

-- ---- a byte

module _ (t : Tally) (left : ℕ) (line : List ℕ) (b : ℕ) (rest : List ℕ) where
  pub on_lf : b ≡ 10 → rows_on t (suc left) line (b ∷ rest) ≡ row_then (listed_of t (first_line line)) (λ t'. rows_on t' left [] rest)
  unfolding rows_on
  on_lf e = rw (eq-eqb b 10 e)

  pub on_byte : eqb b 10 ≡ false → rows_on t (suc left) line (b ∷ rest) ≡ rows_on t left (line ++ (b ∷ [])) rest
  unfolding rows_on
  on_byte e = rw e

-- ---- the first 81 bytes of a line are enough

unended_cut : (t : Tally) (l : List ℕ) → rows_from t (unended l) ≡ rows_from t (unended (take scratch_bytes l))
unfolding rows_then
unended_cut t [] = refl
unended_cut t (b ∷ l) = ap (λ (g : RowGiven). row_then g (λ t'. rows_from t' [])) (sym (listed_cut t (b ∷ l)))

pub on_cut : (rest : List ℕ) (t : Tally) (left : ℕ) (l : List ℕ) → rows_on t left l rest ≡ rows_on t left (take scratch_bytes l) rest
unfolding rows_on
on_cut [] t left l = unended_cut t l
on_cut (b ∷ rest) t zero l = refl
on_cut (b ∷ rest) t (suc left) l =
    by (eqb b 10) (on_cut rest t left (l ++ (b ∷ []))) (on_cut rest t left (take scratch_bytes l ++ (b ∷ [])))
  where
    row : List ℕ → List ℕ
    row line = row_then (listed_of t (first_line line)) (λ t'. rows_on t' left [] rest)

    by : (lf : Bool) → rows_on t left (l ++ (b ∷ [])) rest ≡ rows_on t left (take scratch_bytes (l ++ (b ∷ []))) rest
        → rows_on t left (take scratch_bytes l ++ (b ∷ [])) rest
        ≡ rows_on t left (take scratch_bytes (take scratch_bytes l ++ (b ∷ []))) rest
        → at_lf lf (row l) (rows_on t left (l ++ (b ∷ [])) rest)
        ≡ at_lf lf (row (take scratch_bytes l)) (rows_on t left (take scratch_bytes l ++ (b ∷ [])) rest)
    by true _ _ = ap (λ (g : RowGiven). row_then g (λ t'. rows_on t' left [] rest)) (sym (listed_cut t l))
    by false whole cut =
        whole ∙ ap (λ (s : List ℕ). rows_on t left s rest) (sym (take_again scratch_bytes l (b ∷ []))) ∙ sym cut

-- ---- as rows of lines

-- these bytes in front of the first line
unfoldable pub front : (line : List ℕ) → List (List ℕ) → List (List ℕ)
front [] ls = ls
front (b ∷ l) ls = in_front b (front l ls)

front_lf : (line : List ℕ) (ls : List (List ℕ)) → front line ([] ∷ ls) ≡ line ∷ ls
unfolding front
front_lf [] ls = refl
front_lf (b ∷ l) ls = rw (front_lf l ls)

front_snoc : (line : List ℕ) (b : ℕ) (ls : List (List ℕ)) → front (line ++ (b ∷ [])) ls ≡ front line (in_front b ls)
unfolding front
front_snoc [] b ls = refl
front_snoc (c ∷ l) b ls = ap (in_front c) (front_snoc l b ls)

front_end : (line : List ℕ) → first_line line ≡ line → front line [] ≡ unended line
unfolding front
front_end [] none = refl
front_end (b ∷ l) none = last b l ∙ ap (λ (s : List ℕ). s ∷ []) (sym none)
  where
    last : (b : ℕ) (l : List ℕ) → front (b ∷ l) [] ≡ (b ∷ l) ∷ []
    last b [] = refl
    last b (c ∷ l) = ap (in_front b) (last c l)

snoc_none : (line : List ℕ) (b : ℕ) → first_line line ≡ line → eqb b 10 ≡ false → first_line (line ++ (b ∷ [])) ≡ line ++ (b ∷ [])
unfolding first_line
snoc_none line b none e = first_append line (b ∷ []) none ∙ ap (λ (s : List ℕ). line ++ s) (rw e)

-- a text that is not too long
pub on_short : (rest : List ℕ) (t : Tally) (left : ℕ) (line : List ℕ) → first_line line ≡ line → length rest ≤ left
    → rows_on t left line rest ≡ rows_from t (front line (lines_of rest))
unfolding rows_on lines_of rows_then front first_line
on_short [] t left line none h = rw (front_end line none)
on_short (b ∷ rest) t zero line none h = absurd (omega arith)
on_short (b ∷ rest) t (suc left) line none h =
    by (eqb b 10) refl (λ t' line' none'. on_short rest t' left line' none' (omega arith))
  where
    by : (lf : Bool) → eqb b 10 ≡ lf
        → ((t' : Tally) (line' : List ℕ) → first_line line' ≡ line'
        → rows_on t' left line' rest ≡ rows_from t' (front line' (lines_of rest)))
        → at_lf lf (row_then (listed_of t (first_line line)) (λ t'. rows_on t' left [] rest)) (rows_on t left (line ++ (b ∷ [])) rest)
        ≡ rows_from t (front line (line_or lf b (lines_of rest)))
    by true e on = rw (front_lf line (lines_of rest), none, on (listed_of t line).tally [] refl)
    by false e on = rw (on t (line ++ (b ∷ [])) (snoc_none line b none e), front_snoc line b (lines_of rest))

-- a text that is
pub on_longer : (rest : List ℕ) (t : Tally) (left : ℕ) (line : List ℕ) → first_line line ≡ line → left < length rest
    → rows_on t left line rest ≡ rows_then too_long t (take (lfs_in (take left rest)) (front line (lines_of rest)))
unfolding rows_on lines_of lfs_in rows_then front first_line
on_longer [] t left line none h = absurd (omega arith)
on_longer (b ∷ rest) t zero line none h = refl
on_longer (b ∷ rest) t (suc left) line none h =
    by (eqb b 10) refl (λ t' line' none'. on_longer rest t' left line' none' (omega arith))
  where
    by : (lf : Bool) → eqb b 10 ≡ lf
        → ((t' : Tally) (line' : List ℕ) → first_line line' ≡ line'
        → rows_on t' left line' rest ≡ rows_then too_long t' (take (lfs_in (take left rest)) (front line' (lines_of rest))))
        → at_lf lf (row_then (listed_of t (first_line line)) (λ t'. rows_on t' left [] rest)) (rows_on t left (line ++ (b ∷ [])) rest)
        ≡ rows_then too_long t (take (count_one lf (lfs_in (take left rest))) (front line (line_or lf b (lines_of rest))))
    by true e on = rw (front_lf line (lines_of rest), none, on (listed_of t line).tally [] refl)
    by false e on = rw (on t (line ++ (b ∷ [])) (snoc_none line b none e), front_snoc line b (lines_of rest))
