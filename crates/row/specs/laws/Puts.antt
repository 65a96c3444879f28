-- What it means to put bytes into a buffer from a place on, and that such steps follow one another.
use Rattle.std.specs.Prelude.{ℕ, suc, ◌+◌, ◌≤◌, ◌<◌, ◌≡◌, refl, List, [], ◌∷◌, ◌++◌, length, set, take}
use Rattle.std.proofs.Common.{sym, ap, ◌∙◌, append_assoc, le_refl, arith, add-one, length-append, length-set, length-take-le, take-suc-set}
use Rattle.std.proofs.Common.{drop-set-lt, le-leb}
use Rattle.std.proofs.Math.Seq.{paste, paste-zero, take-length, append_snoc, take-set-lt}
use Rattle.std.proofs.lemmas.List.{set_split, set-append_left, take-set-le}
use Rattle.std.proofs.lemmas.Bool.{lt-leb}
use Rattle.std.specs.Prelude.{None, Some}
use Rattle.row.specs.computed.Buffer.{line_room, placed, buffer_after, place_after}
use Rattle.row.specs.laws.Buffer.{placed_length, placed_join}
use Rattle.row.specs.computed.Puts.{Puts}

-- a line is written piece by piece
infixr 5 ◌then◌
pub ◌then◌ : {xs ys a b c : List ℕ} {i j m k l : ℕ} → Puts xs k a i b j → Puts ys l b j c m → Puts (xs ++ ys) (k + l) a i c m
◌then◌ {xs} {ys} {a} {b} {c} {i} {j} {m} p q =
    let h : i + length xs ≤ length a = omega (arith, p.place, p.within) in
    record {
      buffer = q.buffer ∙ rw (p.buffer, p.place) (placed_join xs a i h ys);
      place = simp length-append (omega (arith, p.place, q.place));
      most = omega (arith, p.most, q.most);
      within = omega (arith, q.within, p.len);
      len = q.len ∙ p.len;
    }

pub at_most : {xs a b : List ℕ} {i j k l : ℕ} → Puts xs k a i b j → k ≤ l → Puts xs l a i b j
at_most p h = record { buffer = p.buffer; place = p.place; most = omega (arith, p.most); within = p.within; len = p.len }

pub puts_byte : (old : List ℕ) (at b : ℕ) → at < length old → Puts (b ∷ []) 1 old at (set old at b) (at + 1)
unfolding placed
puts_byte old at b h = record {
  buffer = rw (add-one, set_split old at b h, append_snoc);
  place = refl;
  most = omega arith;
  within = omega arith;
  len = length-set old at b;
}

-- no byte at all
pub puts_none : (old : List ℕ) (at : ℕ) → at ≤ length old → Puts [] 0 old at old at
unfolding placed
puts_none old at h = record { buffer = paste-zero old at []; place = omega arith; most = omega arith; within = h; len = refl }

-- a byte before a text that stands there already
pub puts_before : {text old new : List ℕ} {k i next : ℕ} (at b : ℕ) → i ≡ at + 1 → Puts text k old i new next
    → Puts (b ∷ text) (suc k) old at (set new at b) next
unfolding placed
puts_before {text} {old} {new} {k} {i} at b e p =
    let h : at < length old = omega (arith, p.place, p.within) in
    let inside : at < length (take i old) = rw (length-take-le i old (omega (arith, p.place, p.within))) (omega arith) in
    let front : set (take i old) at b ≡ take at old ++ (b ∷ []) =
    sym (take-set-lt i old at b (omega arith)) ∙ rw (e, add-one) (take-suc-set old at b h) in
    let rest : i + length text ≡ at + suc (length text) = omega arith in
    record {
      buffer = rw (p.buffer, append_assoc (take i old), set-append_left, front, rest) (simp append_assoc);
      place = omega (arith, p.place);
      most = omega (arith, p.most);
      within = p.within;
      len = length-set new at b ∙ p.len;
    }

-- a line over a byte that was stored in its first place
pub puts_over : {line old new : List ℕ} {k next : ℕ} (at b : ℕ) → 0 < length line → Puts line k (set old at b) at new next
    → Puts line k old at new next
unfolding placed
puts_over {line} {old} at b some p = record {
  buffer = p.buffer ∙ rw (take-set-le at old at b (le_refl at), drop-set-lt (at + length line) old at b (omega arith));
  place = p.place;
  most = p.most;
  within = omega (arith, p.within, length-set old at b);
  len = p.len ∙ length-set old at b;
}

-- a text, once all of it is copied
pub puts_text : (s old new : List ℕ) (at i : ℕ) → at + length s ≤ length old → i ≡ length s → new ≡ paste old at s i
    → Puts s (length s) old at new (at + length s)
unfolding placed
puts_text s old new at i h e copied =
    let same : new ≡ placed s old at = copied ∙ rw (e, take-length) in
    record { buffer = same; place = refl; most = omega arith; within = h; len = rw same (placed_length s old at h) }

-- ---- a whole line

module _ (old : List ℕ) (at : ℕ) where
  pub with_room : {line new : List ℕ} {next k : ℕ} → at + line_room ≤ length old → Puts line k old at new next
      → (new ≡ buffer_after line old at) × (Some next ≡ place_after line old at)
  with_room h p = rw (le-leb (at + line_room) (length old) h) (p.buffer, ap Some p.place)

  pub without_room : (line : List ℕ) → length old < at + line_room → (old ≡ buffer_after line old at) × (None ≡ place_after line old at)
  without_room line h = rw (lt-leb (at + line_room) (length old) h) (refl, refl)
