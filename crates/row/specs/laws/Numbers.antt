-- A line of numbers is written number by number.
use Rattle.std.specs.Prelude.{ℕ, suc, ◌+◌, ◌*◌, ◌≤◌, ◌<◌, ◌≡◌, refl, List, [], ◌∷◌, ◌++◌, ℤ, pos, length, drop, get_or}
use Rattle.std.proofs.Common.{sym, ap, ◌∙◌, append_assoc, arith, drop_of_length-le, drop-cons, le-leb}
use Rattle.std.proofs.lemmas.Bool.{lt-leb}
use Rattle.std.specs.Prelude.{⊤, None, Some}
use Rattle.row.specs.Decimal.{signed_decimal}
use Rattle.row.specs.computed.Numbers.{numbers_line, buffer_with, place_with}
use Rattle.row.specs.computed.Puts.{Puts}
use Rattle.row.specs.laws.Puts.{◌then◌, at_most, puts_none}
use Rattle.row.specs.computed.Numbers.{PutsNumbers}

-- the first i numbers are written, each with its blank, and those from i on make the rest of the line
pub record Written (vs : List ℤ) (old : List ℕ) (at i : ℕ) (new : List ℕ) (next : ℕ) : Type 0 where
  pub front : List ℕ
  pub puts : Puts front (22 * i) old at new next
  pub rest : front ++ numbers_line (drop i vs) ≡ numbers_line vs
  pub some : i < length vs

pub written_none : (vs : List ℤ) (old : List ℕ) (at : ℕ) → 0 < length vs → at ≤ length old → Written vs old at 0 old at
written_none vs old at some h = record { front = []; puts = puts_none old at h; rest = refl; some = some }

abbrev number_at : List ℤ → (i : ℕ) → ℤ
number_at vs i = get_or vs i (pos 0)

module _ {vs : List ℤ} {old new : List ℕ} {at i next : ℕ} (w : Written vs old at i new next) {out : List ℕ} {after : ℕ} where
  -- one more, which is not the last
  pub written_more : i + 1 < length vs → Puts (signed_decimal (number_at vs i) ++ (32 ∷ [])) 22 new next out after
      → Written vs old at (i + 1) out after
  written_more more p =
      let piece = signed_decimal (number_at vs i) ++ (32 ∷ []) in
      let one : i + 1 ≡ suc i = omega arith in
      let two = drop-cons vs (suc i) (pos 0) (omega arith) in
      let cut : numbers_line (drop i vs) ≡ piece ++ numbers_line (drop (i + 1) vs) =
      ap numbers_line (drop-cons vs i (pos 0) w.some) ∙ rw (one, two) in
      record {
        front = w.front ++ piece;
        puts = at_most (w.puts then p) (omega arith);
        rest = append_assoc w.front piece _ ∙ sym (ap (λ (s : List ℕ). w.front ++ s) cut) ∙ w.rest;
        some = more;
      }

  pub written_last : i + 1 ≡ length vs → Puts (signed_decimal (number_at vs i) ++ (10 ∷ [])) 22 new next out after
      → PutsNumbers vs old at out after
  written_last last p =
      let none : drop (suc i) vs ≡ [] = drop_of_length-le vs {i = suc i} (omega arith) in
      let cut : numbers_line (drop i vs) ≡ signed_decimal (number_at vs i) ++ (10 ∷ []) =
      ap numbers_line (drop-cons vs i (pos 0) w.some) ∙ rw none in
      rw (← (sym (ap (λ (s : List ℕ). w.front ++ s) cut) ∙ w.rest)) (at_most (w.puts then p) (omega arith))

-- ---- a whole line

module _ (vs : List ℤ) (old : List ℕ) (at : ℕ) where
  pub with_room_for : {new : List ℕ} {next k : ℕ} → at + 22 * (length vs + 1) ≤ length old → Puts (numbers_line vs) k old at new next
      → (new ≡ buffer_with vs old at) × ((Some next ≡ place_with vs old at) × (next ≤ length old))
  with_room_for h p = rw (le-leb (at + 22 * (length vs + 1)) (length old) h) (p.buffer, (ap Some p.place, p.within))

  pub without_room_for : length old < at + 22 * (length vs + 1)
      → (old ≡ buffer_with vs old at) × ((None ≡ place_with vs old at) × ⊤)
  without_room_for h = rw (lt-leb (at + 22 * (length vs + 1)) (length old) h) (refl, (refl, tt))

  -- the LF of no numbers
  pub no_numbers : {new : List ℕ} {next : ℕ} → length vs ≡ 0 → Puts (10 ∷ []) 1 old at new next → Puts (numbers_line vs) 1 old at new next
  no_numbers none p = rw (none_left vs none) p
    where
      none_left : (us : List ℤ) → length us ≡ 0 → us ≡ []
      none_left [] e = refl
      none_left (u ∷ us) e = absurd (omega arith)
