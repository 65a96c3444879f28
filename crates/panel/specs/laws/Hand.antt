-- A row at the front of the buffer, as the functions of the tally and of the rows write it.
use Rattle.std.specs.Prelude.{◌≡◌, Bool, true, false, ◌&&◌, List, [], ℕ, ◌+◌, ◌≤◌, ◌<◌, min, leb}
use Rattle.std.proofs.Math.Path.{refl, sym}
use Rattle.std.proofs.Common.{ap, ◌∙◌, zero-add, arith, le-leb}
use Rattle.std.proofs.Math.ListN.{length, take}
use Rattle.std.proofs.Math.Seq.{length-take-le}
use Rattle.std.proofs.lemmas.Bool.{lt-leb}
use Rattle.whole.specs.laws.Test.{joined}
use Rattle.words.specs.computed.Scan.{first_line}
use Rattle.std.specs.declared.option.Option.{Option}
use Rattle.row.specs.computed.Buffer.{line_room, has_room}
use Rattle.row.specs.Lines.{header_line, refused_line}
use Rattle.row.specs.laws.Buffer.{header_short, refused_short}
use Rattle.reader.specs.computed.Reader.{longest_text}
use Rattle.tally.specs.declared.Tally.{Tally}
use Rattle.tally.specs.declared.Listed.{Listed}
use Rattle.tally.specs.computed.Tally.{Gives, place_after_row, listed_of, read_of}
use Rattle.tally.specs.laws.Read.{placed_none, written, goes_on}
use Rattle.job.specs.declared.Stage.{Stage}
use Rattle.job.specs.laws.Step.{Wrote}
use Rattle.panel.specs.declared.PanelCheck.{PanelCheck}
use Rattle.panel.specs.declared.Told.{Told}
use Rattle.panel.specs.declared.PieceRead.{PieceRead}
use Rattle.panel.specs.computed.Piece.{scratch_bytes, check_at, held_in, stage_after, line_handed, last_handed, too_long}
use Rattle.panel.specs.computed.Piece.{lines_handed, piece_of, tell_of, Hands, fits}

-- no row
pub hands_none : (took : ℕ) (line : List ℕ) (c : PanelCheck) (old free : List ℕ) → take (length line) free ≡ line
    → Hands (record { row = []; took = took; line = line; check = c }) old
    (record { told = tell_of c.stage; took = took; wrote = 0; check = c }) free old
hands_none took line c old free kept = record { read = refl; short = omega arith; rows = placed_none old 0; line = kept }

-- a row that one of row's functions wrote
pub hands_wrote : {row old : List ℕ} {place : Option ℕ} {new : List ℕ} (took : ℕ) (line : List ℕ) (c : PanelCheck) (free : List ℕ)
    → take (length line) free ≡ line → Wrote row old 0 place new → length row ≤ line_room
    → Hands (record { row = row; took = took; line = line; check = c }) old
    (record { told = tell_of c.stage; took = took; wrote = place_after_row place 0; check = c }) free new
hands_wrote {row} {old} took line c free kept w short =
    record {
      read = rw (goes_on row old 0 w.room w.place, zero-add (length row));
      short = short;
      rows = w.buffer ∙ written row old 0 w.room;
      line = kept;
    }

-- a line's row
pub hands_line : (t : Tally) (left : ℕ) (line old : List ℕ) (took : ℕ) {l : Listed} {new : List ℕ} (over : Bool) → has_room old 0 ≡ true
    → Gives (read_of t (first_line line) old 0) old 0 l new → l.over ≡ over → (free : List ℕ)
    → Hands (line_handed t left took line) old
    (record { told = tell_of (stage_after over); took = took; wrote = l.next; check = check_at (stage_after over) left 0 l.tally }) free new
hands_line t left line old took {l} {new} over room given e free =
    let g : Gives (listed_of t (first_line line)) old 0 l new = rw room at given in
    record {
      read = rw (← e, g.next, g.over, g.tally, zero-add (length (listed_of t (first_line line)).bytes));
      short = g.short;
      rows = g.buffer;
      line = refl;
    }

module _ (t : Tally) (left : ℕ) (old : List ℕ) (took : ℕ) (free : List ℕ) where
  -- counts that no text has
  pub hands_beyond : longest_text < t.lines
      → Hands (last_handed too_long t left took) old (record
      { told = Told.Over; took = took; wrote = 0; check = check_at Stage.Over left 0 t }) free old
  hands_beyond many = rw (lt-leb t.lines longest_text many) (hands_none took [] (check_at Stage.Over left 0 t) old free refl)

  pub hands_thirty : {place : Option ℕ} {new : List ℕ} → t.lines ≤ longest_text → Wrote (refused_line (t.lines + 1) 30) old 0 place new
      → Hands (last_handed too_long t left took) old
      (record { told = Told.Over; took = took; wrote = place_after_row place 0; check = check_at Stage.Over left 0 t }) free new
  hands_thirty few w =
      rw (le-leb t.lines longest_text few)
      (hands_wrote took [] (check_at Stage.Over left 0 t) free refl w (refused_short (t.lines + 1) 30 (omega arith) (omega arith)))

-- ---- by the stage

module _ (c : PanelCheck) (scratch piece : List ℕ) (last : Bool) (old : List ℕ) where
  pub hands_header : c.stage ≡ Stage.Header → scratch_bytes ≤ length scratch → {held : ℕ} → held ≡ min c.held scratch_bytes
      → {place : Option ℕ} {new : List ℕ} → Wrote header_line old 0 place new
      → Hands (piece_of c scratch piece last) old
      (record { told = Told.More; took = 0; wrote = place_after_row place 0; check = check_at Stage.Lines c.left held c.tally })
      scratch new
  unfolding piece_of
  hands_header e wide {held} least w =
      let line = held_in c.held scratch in
      let size : length line ≡ held = length-take-le (min c.held scratch_bytes) scratch (omega arith) ∙ sym least in
      rw (e, ← size)
      (hands_wrote 0 line (check_at Stage.Lines c.left (length line) c.tally) scratch (ap (λ (n : ℕ). take n scratch) (size ∙ least)) w
      header_short)

  pub hands_lines : c.stage ≡ Stage.Lines → {f : PieceRead} {free new : List ℕ} → Hands (lines_handed c scratch piece last) old f free new
      → Hands (piece_of c scratch piece last) old f free new
  unfolding piece_of
  hands_lines e h = rw e h

  pub hands_over : c.stage ≡ Stage.Over
      → Hands (piece_of c scratch piece last) old (record { told = Told.Over; took = 0; wrote = 0; check = c }) scratch old
  unfolding piece_of
  hands_over e = rw e (record { read = refl; short = omega arith; rows = placed_none old 0; line = refl })

-- ---- by the buffers

module _ (scratch old : List ℕ) where
  pub small_scratch : length scratch < scratch_bytes → fits scratch old ≡ false
  small_scratch h = rw (lt-leb scratch_bytes (length scratch) h)

  pub small_rows : has_room old 0 ≡ false → fits scratch old ≡ false
  small_rows h = rw h (by (leb scratch_bytes (length scratch)))
    where
      by : (a : Bool) → (a && false) ≡ false
      by true = refl
      by false = refl

  pub fitting : scratch_bytes ≤ length scratch → has_room old 0 ≡ true → fits scratch old ≡ true
  fitting wide room = joined (le-leb scratch_bytes (length scratch) wide) room
