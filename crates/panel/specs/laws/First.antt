-- The first line of bytes that are cut or put together; and that of a line its first 81 bytes are enough.
use Rattle.std.specs.Prelude.{◌≡◌, refl, Bool, true, false, cond, List, [], ◌∷◌, ◌++◌, ℕ, zero, suc, ◌<◌, min, eqb, leb, length, take, drop}
use Rattle.std.proofs.Common.{sym, ap, ◌∙◌, arith, length-take, take_all, leb-true, leb-false}
use Rattle.std.proofs.Math.Seq.{take-length}
use Rattle.std.proofs.lemmas.Bool.{lt-leb}
use Rattle.words.specs.computed.Scan.{until_lf, first_line}
use Rattle.bench.specs.declared.Bench.{Bench}
use Rattle.bench.specs.computed.Bench.{sound_of}
use Rattle.reader.specs.declared.Reader.{Reader}
use Rattle.reader.specs.declared.text_line.Read.{Read}
use Rattle.reader.specs.declared.text_line.ReadLine.{ReadLine}
use Rattle.reader.specs.computed.Reader.{longest_line, line_no}
use Rattle.reader.specs.computed.Asked.{asked_of}
use Rattle.reader.specs.computed.TextLine.{reads, read_line_of}
use Rattle.tally.specs.declared.Tally.{Tally}
use Rattle.tally.specs.computed.Tally.{counts_right, listed_with, listed_of}
use Rattle.panel.specs.computed.Piece.{scratch_bytes}

-- ---- cut and put together

pub first_take : (n : ℕ) (l : List ℕ) → first_line (take n l) ≡ take n (first_line l)
unfolding first_line
first_take zero l = refl
first_take (suc n) [] = refl
first_take (suc n) (b ∷ l) = by (eqb b 10) (first_take n l)
  where
    by : (lf : Bool) → first_line (take n l) ≡ take n (first_line l)
        → until_lf lf b (first_line (take n l)) ≡ take (suc n) (until_lf lf b (first_line l))
    by true e = refl
    by false e = ap (λ (s : List ℕ). b ∷ s) e

-- a line without an LF, and what comes after it
pub first_append : (l r : List ℕ) → first_line l ≡ l → first_line (l ++ r) ≡ l ++ first_line r
unfolding first_line
first_append [] r none = refl
first_append (b ∷ l) r none = by (eqb b 10) none (first_append l r)
  where
    by : (lf : Bool) → until_lf lf b (first_line l) ≡ b ∷ l → (first_line l ≡ l → first_line (l ++ r) ≡ l ++ first_line r)
        → until_lf lf b (first_line (l ++ r)) ≡ b ∷ (l ++ first_line r)
    by true none later = absurd (omega (arith, ap length none))
    by false none later = ap (λ (s : List ℕ). b ∷ s) (later (ap (drop 1) none))

-- what is put behind a line that is cut does not show where it is cut again
pub take_again : (n : ℕ) (l r : List ℕ) → take n (take n l ++ r) ≡ take n (l ++ r)
take_again zero l r = refl
take_again (suc n) [] r = refl
take_again (suc n) (b ∷ l) r = ap (λ (s : List ℕ). b ∷ s) (take_again n l r)

-- ---- "at most 80 bytes? 31": whatever else stands in a longer line

read_long : (k : Reader) (m : Bench) (line : List ℕ) → longest_line < length line
    → read_line_of k m line ≡ cond (sound_of m) (reads (Read.Refused 31) k m) (reads (Read.Refused 9) k m)
unfolding read_line_of asked_of line_no
read_long k m line long = rw (lt-leb (length line) longest_line long)

listed_long : (t : Tally) (l l' : List ℕ) → longest_line < length l → longest_line < length l' → listed_of t l ≡ listed_of t l'
unfolding listed_of
listed_long t l l' long long' =
    ap (λ (r : ReadLine). cond (counts_right t) (listed_with t r.reader r.bench r.answer)
    (record { bytes = []; over = true; tally = t }))
    (read_long t.reader t.bench l long ∙ sym (read_long t.reader t.bench l' long'))

listed_take : (t : Tally) (l : List ℕ) → listed_of t (take scratch_bytes l) ≡ listed_of t l
listed_take t l = by (leb (length l) scratch_bytes) refl
  where
    by : (short : Bool) → leb (length l) scratch_bytes ≡ short → listed_of t (take scratch_bytes l) ≡ listed_of t l
    by true e = ap (listed_of t) (take_all scratch_bytes l (leb-true (length l) scratch_bytes e))
    by false e =
        let long = leb-false (length l) scratch_bytes e in
        listed_long t (take scratch_bytes l) l (omega (arith, length-take scratch_bytes l, long)) (omega (arith, long))

-- the first 81 bytes of a line are enough
pub listed_cut : (t : Tally) (l : List ℕ) → listed_of t (first_line (take scratch_bytes l)) ≡ listed_of t (first_line l)
listed_cut t l = ap (listed_of t) (first_take scratch_bytes l) ∙ listed_take t (first_line l)

-- ---- parts of lists

pub take_min : (n : ℕ) (l : List ℕ) → take (min n (length l)) l ≡ take n l
take_min n l = by (leb n (length l)) refl
  where
    by : (short : Bool) → leb n (length l) ≡ short → take (min n (length l)) l ≡ take n l
    by true e =
        let same : min n (length l) ≡ n = omega (arith, leb-true n (length l) e) in
        ap (λ (k : ℕ). take k l) same
    by false e =
        let long = leb-false n (length l) e in
        let same : min n (length l) ≡ length l = omega (arith, long) in
        ap (λ (k : ℕ). take k l) same ∙ take-length l ∙ sym (take_all n l (omega (arith, long)))

-- it is the front of its text
pub first_front : (l : List ℕ) → take (length (first_line l)) l ≡ first_line l
unfolding first_line
first_front [] = refl
first_front (b ∷ l) = by (eqb b 10) (first_front l)
  where
    by : (lf : Bool) → take (length (first_line l)) l ≡ first_line l
        → take (length (until_lf lf b (first_line l))) (b ∷ l) ≡ until_lf lf b (first_line l)
    by true e = refl
    by false e = ap (λ (s : List ℕ). b ∷ s) e
