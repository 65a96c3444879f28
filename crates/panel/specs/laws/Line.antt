-- A line as the code reads it: the bytes that it takes and keeps, and which of the definition's cases its tests pick.
use Rattle.std.specs.Prelude.{◌≡◌, refl, Bool, true, false, cond, List, ◌++◌, ℕ, ◌+◌, ◌-◌, ◌≤◌, ◌<◌, min, eqb, ltb, length, take}
use Rattle.std.proofs.Common.{sym, ap, subst, ◌∙◌, arith, length-take, length-take-le, take-take, ltb-true}
use Rattle.std.proofs.Math.Seq.{take-append-add}
use Rattle.std.proofs.lemmas.Bool.{eqb-false}
use Rattle.row.specs.computed.Puts.{Puts}
use Rattle.row.specs.laws.Buffer.{placed_front}
use Rattle.job.specs.declared.Stage.{Stage}
use Rattle.panel.specs.declared.PanelCheck.{PanelCheck}
use Rattle.panel.specs.declared.Told.{Told}
use Rattle.panel.specs.declared.Come.{Come}
use Rattle.panel.specs.declared.PieceRead.{PieceRead}
use Rattle.panel.specs.computed.Piece.{scratch_bytes, check_at, held_in, taken_of, kept_of, Handed, come_of, handed_for}
use Rattle.panel.specs.computed.Piece.{handed_after, lines_handed, Hands, Keeps}
use Rattle.panel.specs.laws.First.{take_min, first_front}
use Rattle.panel.specs.laws.Taken.{taken_few}
use Rattle.panel.specs.laws.Hand.{hands_none}

-- ---- bytes put behind those held

module _ (held : ℕ) (scratch bytes : List ℕ) (wide : scratch_bytes ≤ length scratch) where
  abbrev from : ℕ
  from = min held scratch_bytes

  -- as many more as there is room for
  room_is : {k : ℕ} → k ≡ min (length bytes) (scratch_bytes - from) → take k bytes ≡ take (scratch_bytes - from) bytes
  room_is e =
      let same : min (length bytes) (scratch_bytes - from) ≡ min (scratch_bytes - from) (length bytes) = omega arith in
      ap (λ (k : ℕ). take k bytes) (e ∙ same) ∙ take_min (scratch_bytes - from) bytes

  kept_is : held_in held scratch ++ take (scratch_bytes - from) bytes ≡ kept_of held scratch bytes
  kept_is =
      let size = length-take-le from scratch (omega arith) in
      let all : length (held_in held scratch) + (scratch_bytes - from) ≡ scratch_bytes = omega (arith, size) in
      sym (take-append-add (held_in held scratch) bytes (scratch_bytes - from))
      ∙ ap (λ (k : ℕ). take k (held_in held scratch ++ bytes)) all

  pub kept : {i k : ℕ} → i ≡ from → k ≡ min (length bytes) (scratch_bytes - i) → {r most : ℕ} {new : List ℕ}
      → Puts (take k bytes) most scratch i new r → Keeps (kept_of held scratch bytes) r new
  kept {i} {k} here many {r} {new = new} p =
      let more = room_is {k = k} (many ∙ ap (λ (n : ℕ). min (length bytes) (scratch_bytes - n)) here) in
      let within : i + length (take k bytes) ≤ length scratch = omega (arith, p.place, p.within) in
      let front : take r new ≡ kept_of held scratch bytes =
      ap (λ (n : ℕ). take n new) p.place ∙ ap (take (i + length (take k bytes))) p.buffer
      ∙ placed_front (take k bytes) scratch i within
      ∙ ap (λ (n : ℕ). take n scratch ++ take k bytes) here
      ∙ ap (λ (l : List ℕ). held_in held scratch ++ l) more
      ∙ kept_is in
      let size : r ≡ length (take r new) = sym (length-take-le r new (omega (arith, p.within, p.len))) in
      record { size = size ∙ ap length front; front = front }

  pub kept_fits : {i k : ℕ} → i ≡ from → k ≡ min (length bytes) (scratch_bytes - i) → i + length (take k bytes) ≤ length scratch
  kept_fits {k = k} here many = omega (arith, length-take k bytes)

-- ---- the bytes of a piece that are of the line

module _ (left : ℕ) (piece : List ℕ) where
  pub taken_front : take (length (taken_of left piece)) piece ≡ taken_of left piece
  taken_front =
      let n = length (taken_of left piece) in
      sym (take-take n left piece (omega (arith, taken_few left piece))) ∙ first_front (take left piece)

-- ---- which case the tests pick

-- so many bytes were taken, and the scratch buffer holds so many
pub record Gathered (c : PanelCheck) (scratch piece : List ℕ) (took held : ℕ) (free : List ℕ) : Type 0 where
  pub count : took ≡ length (taken_of c.left piece)
  pub keeps : Keeps (kept_of c.held scratch (taken_of c.left piece)) held free

pub gathered : (c : PanelCheck) (scratch piece : List ℕ) {took held : ℕ} {free : List ℕ} → took ≡ length (taken_of c.left piece)
    → Keeps (kept_of c.held scratch (take took piece)) held free → Gathered c scratch piece took held free
gathered c scratch piece {took} {held} {free} e k =
    record {
      count = e;
      keeps =
          subst (λ (bytes : List ℕ). Keeps (kept_of c.held scratch bytes) held free)
          (ap (λ (n : ℕ). take n piece) e ∙ taken_front c.left piece) k;
    }

module _ (c : PanelCheck) (scratch piece : List ℕ) (last : Bool) {took held : ℕ} {free : List ℕ}
    (g : Gathered c scratch piece took held free) where
  abbrev line : List ℕ
  line = take held free

  size : length line ≡ held
  size = ap length g.keeps.front ∙ sym g.keeps.size

  -- what they come to, by what the code has gathered
  module _ {k : Come} (is : k ≡ come_of (ltb took (length piece)) (c.left - took) last held) where
    case_is : lines_handed c scratch piece last ≡ handed_for k c.tally (c.left - took) took line
    case_is =
        let all = kept_of c.held scratch (taken_of c.left piece) in
        let more = ltb took (length piece) in
        ap (λ (n : ℕ). handed_after c piece last n all) (sym g.count)
        ∙ ap (handed_after c piece last took) (sym g.keeps.front)
        ∙ ap (λ (n : ℕ). handed_for (come_of more (c.left - took) last n) c.tally (c.left - took) took line) size
        ∙ ap (λ (k : Come). handed_for k c.tally (c.left - took) took line) (sym is)

    pub line_handed_lem : {old : List ℕ} {f : PieceRead} {new : List ℕ} → Hands (handed_for k c.tally
        (c.left - took) took line) old f free new
        → Hands (lines_handed c scratch piece last) old f free new
    line_handed_lem {old} {f} {new} hands = subst (λ (h : Handed). Hands h old f free new) (sym case_is) hands

  -- the line goes on
  pub line_waits : (old : List ℕ) → Hands (handed_for Come.Wait c.tally (c.left - took) took line) old
      (record { told = Told.More; took = took; wrote = 0; check = check_at Stage.Lines (c.left - took) held c.tally }) free old
  line_waits old =
      subst (λ (n : ℕ). Hands (handed_for Come.Wait c.tally (c.left - took) took line) old
      (record { told = Told.More; took = took; wrote = 0; check = check_at Stage.Lines (c.left - took) n c.tally }) free old) size
      (hands_none took line (check_at Stage.Lines (c.left - took) (length line) c.tally) old free (ap (λ (n : ℕ). take n free) size))

-- an LF is a byte of the piece, and of those that the text may have
pub lf_within : (took size left : ℕ) (last : Bool) (held lf : ℕ) → took ≤ size → Come.Line lf ≡ come_of (ltb took size) left last held
    → (lf ≤ left) × (took + lf ≤ size)
lf_within took size left last held lf most e = behind (ltb took size) refl e
  where
    at_limit : took < size → (full : Bool) → eqb left 0 ≡ full → Come.Line lf ≡ cond full Come.TooMany (Come.Line 1)
        → (lf ≤ left) × (took + lf ≤ size)
    at_limit more true _ e = let none : lf ≡ 0 = cc in (omega (arith, none), omega (arith, none))
    at_limit more false n e = let one : lf ≡ 1 = cc in (omega (arith, one, eqb-false left 0 n), omega (arith, one, more))

    used_up_lem : (end empty : Bool) → Come.Line lf ≡ cond end (cond empty Come.End (Come.Line 0)) Come.Wait
        → (lf ≤ left) × (took + lf ≤ size)
    used_up_lem true true e = let none : lf ≡ 0 = cc in (omega (arith, none), omega (arith, none))
    used_up_lem true false e = let none : lf ≡ 0 = cc in (omega (arith, none), omega (arith, none))
    used_up_lem false empty e = let none : lf ≡ 0 = cc in (omega (arith, none), omega (arith, none))

    behind : (more : Bool) → ltb took size ≡ more → Come.Line lf ≡ come_of more left last held → (lf ≤ left) × (took + lf ≤ size)
    behind true m e = at_limit (ltb-true took size m) (eqb left 0) refl e
    behind false m e = used_up_lem last (eqb held 0) e
