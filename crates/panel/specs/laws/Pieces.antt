-- For every text and every cutting into pieces: what the calls write, put together, is the panel's listing; and they come to an end.
use Rattle.std.specs.Prelude.{◌≡◌, refl, Bool, true, false, List, [], ◌∷◌, ◌++◌, ℕ, ◌+◌, ◌-◌, ◌≤◌, ◌<◌, eqb, leb, length, take, drop}
use Rattle.std.proofs.Common.{sym, ap, ◌∙◌, true≢false, zero-add, arith, take-take, leb-true}
use Rattle.whole.specs.laws.Test.{both}
use Rattle.words.specs.computed.Scan.{until_lf, first_line}
use Rattle.row.specs.computed.Buffer.{line_room, has_room}
use Rattle.row.specs.laws.Buffer.{placed_front, placed_rest}
use Rattle.job.specs.declared.Stage.{Stage}
use Rattle.job.specs.Check.{stage_over}
use Rattle.panel.specs.declared.PanelCheck.{PanelCheck}
use Rattle.panel.specs.declared.PieceRead.{PieceRead}
use Rattle.panel.specs.Whole.{lfs_in}
use Rattle.panel.specs.computed.Over.{is_over}
use Rattle.panel.specs.computed.Piece.{scratch_bytes, taken_of, piece_of, Hands, fits, ReadsPiece}
use Rattle.panel.specs.computed.Rest.{rest_at, rest_of, calls_left, ReachedPanel}
use Rattle.panel.specs.laws.First.{first_take}
use Rattle.panel.specs.laws.Line.{taken_front}
use Rattle.panel.specs.laws.Piece.{Onward, read_onward}
use Rattle.panel.specs.laws.Hand.{fitting}

-- once the check is over nothing is to come, whatever the scratch buffer holds
pub over_none : (c : PanelCheck) → is_over c ≡ true → (scratch text : List ℕ) → rest_of c scratch text ≡ []
unfolding rest_of
over_none c e scratch text = by c.stage e
  where
    by : (stage : Stage) → stage_over stage ≡ true → rest_at stage c scratch text ≡ []
    by Stage.Header e = absurd (true≢false (sym e))
    by Stage.Lines e = absurd (true≢false (sym e))
    by Stage.Over e = refl

-- of the bytes taken only the last may be an LF
first_none : (l : List ℕ) → lfs_in (first_line l) ≡ 0
unfolding lfs_in first_line
first_none [] = refl
first_none (b ∷ l) = by (eqb b 10) refl (first_none l)
  where
    by : (lf : Bool) → eqb b 10 ≡ lf → lfs_in (first_line l) ≡ 0 → lfs_in (until_lf lf b (first_line l)) ≡ 0
    by true e later = refl
    by false e later = rw e later

one_line : (left : ℕ) (piece : List ℕ) {took : ℕ} → took ≤ length (taken_of left piece) + 1 → lfs_in (take (took - 1) piece) ≡ 0
one_line left piece {took} few =
    let n = length (taken_of left piece) in
    let k = took - 1 in
    let same : take k piece ≡ first_line (take k (take left piece)) =
    sym (take-take k n piece (omega arith)) ∙ ap (take k) (taken_front left piece) ∙ sym (first_take k (take left piece)) in
    ap lfs_in same ∙ first_none (take k (take left piece))

none_taken : (piece : List ℕ) → lfs_in (take (0 - 1) piece) ≡ 0
unfolding lfs_in
none_taken piece = refl

-- what a call tells of itself
pub record Reads-on (c : PanelCheck) (scratch piece : List ℕ) (last : Bool) (old : List ℕ) (f : PieceRead)
    (free new : List ℕ) : Type 0 where
  pub took : f.took ≤ length piece
  pub line : lfs_in (take (f.took - 1) piece) ≡ 0
  pub wrote : f.wrote ≤ length old
  pub later : drop f.wrote new ≡ drop f.wrote old
  pub bytes : (rest : List ℕ) → (last ≡ true → rest ≡ [])
      → take f.wrote new ++ rest_of f.check free (drop f.took piece ++ rest) ≡ rest_of c scratch (piece ++ rest)
  pub keeps : ReachedPanel c → ReachedPanel f.check

module _ (c : PanelCheck) (scratch piece : List ℕ) (last : Bool) (old : List ℕ) {f : PieceRead} {free new : List ℕ} where
  -- both buffers are long enough
  module _ (ok : fits scratch old ≡ true) (h : Hands (piece_of c scratch piece last) old f free new) where
    wide : scratch_bytes ≤ length scratch
    wide = leb-true scratch_bytes (length scratch) (both ok).0

    room : line_room ≤ length old
    room = omega (arith, leb-true line_room (length old) (both {a = leb scratch_bytes (length scratch)} ok).1)

    on : Onward c scratch piece last (piece_of c scratch piece last)
    on = read_onward c scratch piece last wide

    pub handed_on : Reads-on c scratch piece last old f free new
    handed_on =
        let g = piece_of c scratch piece last in
        let long : 0 + length g.row ≤ length old = omega (arith, h.short, room) in
        rw (h.read, h.rows)
        (record {
          took = on.took;
          line = one_line c.left piece on.line;
          wrote = omega (arith, h.short, room);
          later = rw zero-add at (placed_rest g.row old 0 long);
          bytes = λ rest end.
              ap (λ (s : List ℕ). s ++ rest_of g.check free (drop g.took piece ++ rest))
              (rw zero-add at (placed_front g.row old 0 long))
              ∙ on.bytes free h.line rest end;
          keeps = on.keeps;
        })

    pub handed_less : is_over c ≡ false → (length piece ≡ 0 → last ≡ true) → calls_left f.check < calls_left c
    handed_less going some = rw h.read (on.fewer going some)

  pub reads_on : ReadsPiece c scratch piece last old f free new → Reads-on c scratch piece last old f free new
  reads_on (ReadsPiece.short small e kept same) =
      rw (e, kept, same)
      (record { took = omega arith; line = none_taken piece; wrote = omega arith; later = refl; bytes = λ rest end. refl; keeps = λ r. r })
  reads_on (ReadsPiece.read ok h) = handed_on ok h

  -- for programs that call it until all is handed out
  pub reads_less : ReadsPiece c scratch piece last old f free new → scratch_bytes ≤ length scratch → has_room old 0 ≡ true
      → is_over c ≡ false
      → (length piece ≡ 0 → last ≡ true)
      → calls_left f.check < calls_left c
  reads_less (ReadsPiece.short small e kept same) wide room going some = absurd (true≢false (sym (fitting scratch old wide room) ∙ small))
  reads_less (ReadsPiece.read ok h) _ _ going some = handed_less ok h going some
