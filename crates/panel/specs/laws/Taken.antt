-- The bytes of a piece that are of the line being read: what is to come is the same after them, and what stands behind them.
use Rattle.std.specs.Prelude.{◌≡◌, refl, Bool, true, false, List, [], ◌∷◌, ◌++◌, ℕ, zero, suc, ◌-◌, ◌≤◌, ◌<◌, min, eqb, length, take, drop}
use Rattle.std.specs.Prelude.{get_or}
use Rattle.std.proofs.Common.{sym, ap, ◌∙◌, append_assoc, append-nil, arith, length-take, eqb-true}
use Rattle.std.proofs.Math.Nat.{sub-zero, suc-sub-suc}
use Rattle.words.specs.computed.Scan.{until_lf, first_line}
use Rattle.words.specs.laws.FirstLine.{first_short}
use Rattle.tally.specs.declared.Tally.{Tally}
use Rattle.panel.specs.computed.Piece.{taken_of}
use Rattle.panel.specs.computed.Rest.{rows_on}
use Rattle.panel.specs.laws.Rows.{on_byte}

module _ (left : ℕ) (piece : List ℕ) where
  pub taken_few : length (taken_of left piece) ≤ min left (length piece)
  taken_few = omega (arith, first_short (take left piece), length-take left piece)

-- nothing taken
none_taken : (t : Tally) (left : ℕ) (line s : List ℕ) → rows_on t left line s ≡ rows_on t (left - 0) (line ++ []) s
none_taken t left line s = rw (sub-zero left) (ap (λ (l : List ℕ). rows_on t left l s) (sym (append-nil line)))

pub on_taken : (t : Tally) (left : ℕ) (line piece rest : List ℕ)
    → rows_on t left line (piece ++ rest)
    ≡ (let more = taken_of left piece in rows_on t (left - length more) (line ++ more) (drop (length more) piece ++ rest))
unfolding first_line
on_taken t zero line piece rest = none_taken t zero line (piece ++ rest)
on_taken t (suc left) line [] rest = none_taken t (suc left) line rest
on_taken t (suc left) line (b ∷ piece) rest = by (eqb b 10) refl (on_taken t left (line ++ (b ∷ [])) piece rest)
  where
    more : List ℕ
    more = taken_of left piece

    by : (lf : Bool) → eqb b 10 ≡ lf
        → rows_on t left (line ++ (b ∷ [])) (piece ++ rest)
        ≡ rows_on t (left - length more) ((line ++ (b ∷ [])) ++ more) (drop (length more) piece ++ rest)
        → rows_on t (suc left) line (b ∷ (piece ++ rest))
        ≡ (let all = until_lf lf b more in rows_on t (suc left - length all) (line ++ all) (drop (length all) (b ∷ piece) ++ rest))
    by true e on = none_taken t (suc left) line (b ∷ (piece ++ rest))
    by false e on =
        rw (suc-sub-suc left (length more))
        (on_byte t left line b (piece ++ rest) e
        ∙ on
        ∙ ap (λ (l : List ℕ). rows_on t (left - length more) l (drop (length more) piece ++ rest)) (append_assoc line (b ∷ []) more))

-- the byte behind them, where the text may have it, is the line's LF
pub taken_lf : (left : ℕ) (piece : List ℕ)
    → (let n = length (taken_of left piece) in n < length piece → 1 ≤ left - n → get_or piece n 0 ≡ 10)
unfolding first_line
taken_lf zero piece more some = absurd (omega arith)
taken_lf (suc left) [] more some = absurd (omega arith)
taken_lf (suc left) (b ∷ piece) more some = by (eqb b 10) refl (taken_lf left piece) more some
  where
    taken : List ℕ
    taken = taken_of left piece

    by : (lf : Bool) → eqb b 10 ≡ lf → (length taken < length piece → 1 ≤ left - length taken → get_or piece (length taken) 0 ≡ 10)
        → (let n = length (until_lf lf b taken) in n < length (b ∷ piece) → 1 ≤ suc left - n → get_or (b ∷ piece) n 0 ≡ 10)
    by true e later more some = eqb-true b 10 e
    by false e later more some = later (omega arith) (omega arith)
