-- What a text line gives, by the room, by the tally's counts and by what the reader answered; and a line written where there is room.
use Rattle.std.specs.Prelude.{◌≡◌, refl, true, false, List, [], ℕ, ◌+◌, length, take}
use Rattle.std.proofs.Common.{sym, ◌∙◌, append-nil, add-zero, take-append-drop}
use Rattle.std.specs.declared.option.Option.{Option}
use Rattle.row.specs.computed.Buffer.{has_room, placed, buffer_after, place_after}
use Rattle.bench.specs.declared.Bench.{Bench}
use Rattle.reader.specs.declared.Reader.{Reader}
use Rattle.reader.specs.declared.text_line.ReadLine.{ReadLine}
use Rattle.reader.specs.computed.TextLine.{read_line_of}
use Rattle.tally.specs.declared.Tally.{Tally}
use Rattle.tally.specs.declared.Listed.{Listed}
use Rattle.tally.specs.computed.Tally.{Gives, place_after_row, counts_right, block_listed, listed_with, listed_of, read_of, bytes_read}

-- no line leaves the buffer as it is
pub placed_none : (old : List ℕ) (at : ℕ) → old ≡ placed [] old at
unfolding placed
placed_none old at = rw (append-nil (take at old), add-zero at) (sym (take-append-drop at old))

module _ (line old : List ℕ) (at : ℕ) (room : has_room old at ≡ true) where
  pub written : buffer_after line old at ≡ placed line old at
  written = rw room

  pub goes_on : {p : Option ℕ} → p ≡ place_after line old at → place_after_row p at ≡ at + length line
  goes_on e = rw (e, room)

module _ (t : Tally) (line old : List ℕ) (at : ℕ) where
  pub no_room : has_room old at ≡ false → read_of t line old at ≡ record { bytes = []; over = false; tally = t }
  no_room e = rw e

  pub with_room : has_room old at ≡ true → read_of t line old at ≡ listed_of t line
  with_room e = rw e

module _ (t : Tally) (line : List ℕ) where
  pub not_listed : counts_right t ≡ false → listed_of t line ≡ record { bytes = []; over = true; tally = t }
  unfolding listed_of
  not_listed e = rw e

  pub listed : counts_right t ≡ true → {r : ReadLine} → r ≡ read_line_of t.reader t.bench line
      → listed_of t line ≡ listed_with t r.reader r.bench r.answer
  unfolding listed_of
  listed e {r} q = rw (e, ← q)

-- the bytes of the line, beside what it gives
module _ (t : Tally) (line old : List ℕ) (at : ℕ) {r : Listed} {new : List ℕ} (g : Gives (read_of t line old at) old at r new) where
  abbrev Both : Type 0
  Both = Gives (read_of t line old at) old at r new × (r.bytes ≡ bytes_read t line old at)

  pub no_line : has_room old at ≡ false → r.bytes ≡ 0 → Both
  no_line room none = (g, none ∙ rw room)

  pub last_line_lem : has_room old at ≡ true → r.over ≡ true → r.bytes ≡ 0 → Both
  last_line_lem room over none = (g, none ∙ rw (room, sym (rw room at g.over) ∙ over))

  pub next_line : has_room old at ≡ true → r.over ≡ false → r.bytes ≡ length line → Both
  next_line room over bytes = (g, bytes ∙ rw (room, sym (rw room at g.over) ∙ over))

pub block_on : (t : Tally) (k : Reader) (m : Bench) (bits : ℕ) → (block_listed t k m bits).over ≡ false
unfolding block_listed
block_on t k m bits = refl
