-- `read` is right because it asks for room and the counts, and then does what the reader's answer says.
use borrow.Author.Rules.{rules}
use Rattle.bench.specs.computed.Bench.{sound_of}
use Rattle.reader.specs.declared.text_line.Read.{Read}
use Rattle.reader.specs.declared.text_line.ReadLine.{ReadLine}
use Rattle.tally.specs.laws.Keeps.{loaded_sound}
use Rattle.tally.proofs.Tally.read.Goals as goal
use mathlib.Core.Path.{◌≡◌, refl, sym, ap, subst, ◌∙◌}
use mathlib.Core.Bool.{Bool, true}
use mathlib.Core.List.{List, []}
use Prim.Native.Nat.{ℕ, ◌+◌}
use native.Mathlib.Nat.{add-zero}
use native.Mathlib.Omega.{arith}
use Rattle.row.specs.computed.Buffer.{has_room}
use Rattle.row.specs.Lines.{refused_line}
use Rattle.row.specs.laws.Buffer.{refused_short}
use Rattle.reader.specs.computed.TextLine.{read_line_of}
use Rattle.tally.specs.declared.Tally.{Tally}
use Rattle.tally.specs.computed.Tally.{Gives, counts_right, listed_with, read_of}
use Rattle.tally.specs.laws.Counts.{counts}
use Rattle.words.specs.computed.Scan.{first_line}
use Rattle.tally.specs.laws.Read.{placed_none, written, goes_on, no_room, with_room, not_listed, listed, no_line, last_line_lem}
use Rattle.tally.specs.laws.Read.{next_line, block_on}

-- what the line gives, by the reader's answer, where there is room and the counts are right
gives :
    (t : Tally) (line old : List ℕ) (at : ℕ) (r : ReadLine) {a : Read}
    → has_room old at ≡ true → counts_right t ≡ true → r ≡ read_line_of t.reader t.bench line → r.answer ≡ a
    → read_of t line old at ≡ listed_with t r.reader r.bench a
gives t line old at r room counted read is =
    with_room t line old at room ∙ listed t line counted read ∙ ap (listed_with t r.reader r.bench) is

-- what writes nothing leaves the buffer as it is
silent :
    (old : List ℕ) (at : ℕ) {over : Bool} {bytes : ℕ} {t : Tally}
    → Gives (record { bytes = []; over = over; tally = t }) old at (record { next = at; over = over; bytes = bytes; tally = t }) old
silent old at = record { short = omega arith; buffer = placed_none old at; next = sym (add-zero at); over = refl; tally = refl }

pub returns-then-not-has_room : goal.returns-then-not-has_room
returns-then-not-has_room c =
    let s = c.args in
    let line = first_line s.text.now in
    let none = sym c.has_room.ensures ∙ c.if-not-has_room.true in
    let b =
    no_line s.self line s.out.now s.at
    {r = record { next = s.at; over = _; bytes = 0; tally = s.self }}
    (rw (no_room s.self line s.out.now s.at none) (silent _ _)) none refl in
    rw c.unread.ensures (record { reads = b.0; bytes_value = b.1 })

pub returns-then-not-counts_right : goal.returns-then-not-counts_right
returns-then-not-counts_right c =
    let s = c.args in
    let line = first_line s.text.now in
    let room = sym c.has_room.ensures ∙ c.if-not-has_room.false in
    let wrong = sym c.counts_right.ensures ∙ c.if-not-counts_right.true in
    let b =
    last_line_lem s.self line s.out.now s.at
    {r = record { next = s.at; over = true; bytes = 0; tally = s.self }}
    (rw (with_room s.self line s.out.now s.at room, not_listed s.self line wrong) (silent _ _))
    room refl refl in
    rw c.unread-then-not-counts_right.ensures (record { reads = b.0; bytes_value = b.1 })

pub overflow_add-self : goal.overflow_add-self
overflow_add-self c = let k = counts _ (sym c.counts_right.ensures ∙ c.if-not-counts_right.false) in omega (arith, k.lines)

pub invariant_of-block : goal.invariant_of-block
invariant_of-block c =
    let s = c.args in
    let r = c.read_first-first.ensures.read_value in
    let is = ap (λ (l : ReadLine). l.answer) (sym r) ∙ c.in-Loaded.is in
    let loaded = loaded_sound s.self.reader s.self.bench (first_line s.text.now) is in
    record { sound = subst (λ (l : ReadLine). sound_of l.bench ≡ true) (sym r) loaded }

pub block-requires : goal.block-requires
block-requires c =
    (sym c.counts_right.ensures ∙ c.if-not-counts_right.false, sym c.has_room.ensures ∙ c.if-not-has_room.false)

pub returns-in-Nothing : goal.returns-in-Nothing
returns-in-Nothing c =
    let s = c.args in
    let line = first_line s.text.now in
    let room = sym c.has_room.ensures ∙ c.if-not-has_room.false in
    let counted = sym c.counts_right.ensures ∙ c.if-not-counts_right.false in
    let f = c.read_first-first.ensures in
    let is = gives s.self line s.out.now s.at _ room counted f.read_value c.in-Nothing.is in
    let b = next_line s.self line s.out.now s.at {r = c.passed.result} (rw c.passed.ensures (rw is (silent _ _))) room
    (rw c.passed.ensures) (rw c.passed.ensures f.bytes_value) in
    record { reads = b.0; bytes_value = b.1 }

pub returns-in-Loaded : goal.returns-in-Loaded
returns-in-Loaded c =
    let s = c.args in
    let line = first_line s.text.now in
    let room = sym c.has_room.ensures ∙ c.if-not-has_room.false in
    let counted = sym c.counts_right.ensures ∙ c.if-not-counts_right.false in
    let f = c.read_first-first.ensures in
    let is = gives s.self line s.out.now s.at _ room counted f.read_value c.in-Loaded.is in
    let b = next_line s.self line s.out.now s.at (rw is c.block.ensures.gives) room
    (c.block.ensures.gives.over ∙ block_on _ _ _ _) (c.block.ensures.bytes_value ∙ f.bytes_value) in
    record { reads = b.0; bytes_value = b.1 }

pub returns-in-Refused : goal.returns-in-Refused
returns-in-Refused c =
    let s = c.args in
    let line = first_line s.text.now in
    let room = sym c.has_room.ensures ∙ c.if-not-has_room.false in
    let counted = sym c.counts_right.ensures ∙ c.if-not-counts_right.false in
    let f = c.read_first-first.ensures in
    let number = c.in-Refused.number in
    let k = counts _ counted in
    let is = gives s.self line s.out.now s.at _ room counted f.read_value c.in-Refused.is in
    let b =
    last_line_lem s.self line s.out.now s.at
    {r = record { next = c.unwrap_or.result; over = true; bytes = 0; tally = s.self }}
    (rw is
    (record {
      short = refused_short (s.self.lines + 1) number (omega (arith, k.lines)) (search rules);
      buffer = c.refused-place.ensures.buffer ∙ written _ s.out.now s.at room;
      next = c.unwrap_or.ensures ∙ goes_on (refused_line _ number) s.out.now s.at room c.refused-place.ensures.place;
      over = refl;
      tally = refl;
    }))
    room refl refl in
    record { reads = b.0; bytes_value = b.1 }
