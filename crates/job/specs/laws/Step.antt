-- A step hands out the next bytes of what was still to come.
use Rattle.std.specs.Prelude.{◌≡◌, true, false, ℕ, suc, ◌+◌, ◌≤◌, ◌<◌, length, drop}
use Rattle.std.proofs.Common.{sym, ap, ◌∙◌, arith, length-drop, drop-drop}
use mathlib.Core.List.{List, ◌++◌, append-nil}
use Rattle.std.proofs.Math.ListN.{drop_of_length-le}
use borrow.Author.Tests.{le-leb, lt-leb}
use Rattle.std.specs.declared.option.Option.{Option}
use Rattle.row.specs.computed.Buffer.{line_room, has_room, placed, buffer_after, place_after}
use Rattle.row.specs.Lines.{header_line, refused_line}
use Rattle.row.specs.laws.Buffer.{header_short, refused_short}
use Rattle.tally.specs.declared.Listed.{Listed}
use Rattle.tally.specs.computed.Tally.{Gives, place_after_row, total_of, listed_of, read_of, bytes_read}
use Rattle.tally.specs.laws.Read.{written, goes_on}
use Rattle.reader.specs.computed.Reader.{longest_text}
use Rattle.job.specs.declared.Stage.{Stage}
use Rattle.job.specs.declared.Check.{Check}
use Rattle.words.specs.computed.Scan.{first_line}
use Rattle.words.specs.laws.FirstLine.{first_short}
use Rattle.job.specs.Text.{lines_of}
use Rattle.job.specs.computed.Check.{rows_then, rows_from, unless, rest_of, last_of, Steps}
use Rattle.job.specs.laws.Text.{lines_next}
use Rattle.job.specs.laws.Reached.{line_reached}

-- a line that one of row's functions wrote, where there was room
pub record Wrote (line old : List ℕ) (at : ℕ) (p : Option ℕ) (new : List ℕ) : Type 0 where
  pub room : has_room old at ≡ true
  pub buffer : new ≡ buffer_after line old at
  pub place : p ≡ place_after line old at

module _ (c : Check) (text old : List ℕ) (at : ℕ) {new : List ℕ} where
  pub step_header : {p : Option ℕ} → c.stage ≡ Stage.Header → Wrote header_line old at p new
      → Steps c text old at (record { next = place_after_row p at; check = record { stage = Stage.Lines; at = c.at; tally = c.tally } }) new
  unfolding rest_of
  step_header e w =
      record {
        line = header_line;
        room = header_short;
        buffer = w.buffer ∙ written header_line old at w.room;
        next = goes_on header_line old at w.room w.place;
        bytes = rw e;
        keeps = λ r. r;
        fewer = rw e (omega arith);
      }

  module _ (lines : c.stage ≡ Stage.Lines) where
    -- the last row
    last : {next : ℕ} (line : List ℕ) → length line ≤ line_room → new ≡ placed line old at → next ≡ at + length line → line ≡ rest_of c text
        → Steps c text old at (last_of c next) new
    unfolding rest_of
    last line short buffer next e = record {
      line = line;
      room = short;
      buffer = buffer;
      next = next;
      bytes = append-nil line
          ∙ e;
      keeps = λ r. r;
      fewer = rw lines (omega arith);
    }

    last_written : {p : Option ℕ} (line : List ℕ) → length line ≤ line_room → Wrote line old at p new → line ≡ rest_of c text
        → Steps c text old at (last_of c (place_after_row p at)) new
    last_written line short w e = last line short (w.buffer ∙ written line old at w.room) (goes_on line old at w.room w.place) e

    pub step_long : {p : Option ℕ} → longest_text < length text → Wrote (refused_line 1 30) old at p new
        → Steps c text old at (last_of c (place_after_row p at)) new
    unfolding rest_of
    step_long long w = last_written (refused_line 1 30) (refused_short 1 30 (omega arith) (omega arith)) w
        (rw (lines, lt-leb (length text) longest_text long))

    module _ (short : length text ≤ longest_text) where
      pub step_total : {p : Option ℕ}
          → (let line = total_of c.tally in
          length line ≤ line_room → length text ≤ c.at → Wrote line old at p new
          → Steps c text old at (last_of c (place_after_row p at)) new)
      unfolding rest_of rows_then lines_of
      step_total few end w =
          last_written (total_of c.tally) few w
          (rw (lines, le-leb (length text) longest_text short, drop_of_length-le text end))

      module _ {l : Listed} (room : has_room old at ≡ true) (more : c.at < length text)
          (read : Gives (read_of c.tally (first_line (drop c.at text)) old at) old at l new) where
        abbrev line : List ℕ
        line = first_line (drop c.at text)

        g : Gives (listed_of c.tally line) old at l new
        g = rw room at read

        after : drop (suc (length line)) (drop c.at text) ≡ drop (c.at + length line + 1) text
        after =
            let same : c.at + suc (length line) ≡ c.at + length line + 1 = omega arith in
            drop-drop _ c.at text ∙ ap (λ (n : ℕ). drop n text) same

        -- what was to come, cut after the next line
        cut :
            rest_of c text
            ≡ (listed_of c.tally line).bytes ++ unless l.over (rows_from l.tally (lines_of (drop (c.at + length line + 1) text)))
        unfolding rest_of rows_then
        cut = rw (
          lines,
          le-leb (length text) longest_text short,
          lines_next (drop c.at text) (rw (length-drop c.at text) (omega arith)),
          after,
          g.over,
          g.tally,
        )

        pub step_refused : l.over ≡ true → Steps c text old at (last_of c l.next) new
        step_refused e = last (listed_of c.tally line).bytes g.short g.buffer g.next (sym (append-nil _) ∙ sym (rw e at cut))

        -- a line that is not the last, of so many bytes
        module _ (on : l.over ≡ false) (bytes : l.bytes ≡ bytes_read c.tally line old at) where
          found : l.bytes ≡ length line
          found = bytes ∙ rw (room, sym g.over ∙ on)

          abbrev following : Check
          following = record { stage = Stage.Lines; at = c.at + l.bytes + 1; tally = l.tally }

          onward : (listed_of c.tally line).bytes ++ rest_of following text ≡ rest_of c text
          unfolding rest_of
          onward = rw (found, le-leb (length text) longest_text short) (sym (rw on at cut))

          pub near : c.at + l.bytes ≤ length text
          near = omega (arith, found, first_short (drop c.at text), length-drop c.at text)

          pub step_line : Steps c text old at (record { next = l.next; check = following }) new
          step_line =
              record {
                line = (listed_of c.tally line).bytes;
                room = g.short;
                buffer = g.buffer;
                next = g.next;
                bytes = onward;
                keeps = λ r. rw g.tally (line_reached c.tally r (omega (arith, near)) line);
                fewer = rw lines (omega (arith, near));
              }
