-- A line that is read takes the first of the lines that are left.
use Rattle.std.specs.Prelude.{◌≡◌, true, false, List, [], ℕ, suc, ◌+◌, ◌≤◌, ◌<◌, length, drop}
use Rattle.std.proofs.Math.Path.{sym}
use Rattle.std.proofs.Common.{ap, ◌∙◌, arith, length-drop, drop-drop}
use Rattle.std.proofs.Math.ListN.{drop_of_length-le}
use borrow.Author.Tests.{le-leb, lt-leb}
use Rattle.bench.specs.declared.Bench.{Bench}
use Rattle.reader.specs.computed.Reader.{longest_text}
use Rattle.reader.specs.declared.text_line.ReadLine.{ReadLine}
use Rattle.reader.specs.computed.TextLine.{read_line_of}
use Rattle.words.specs.computed.Scan.{first_line}
use Rattle.job.specs.Text.{lines_of}
use Rattle.job.specs.computed.Check.{unless}
use Rattle.job.specs.laws.Text.{lines_next}
use Rattle.stream.specs.declared.Stream.{Stream}
use Rattle.stream.specs.computed.Stream.{run_then, is_refused, bytes_from, lines_bytes, rest_of, ended_of, NextLine}

module _ (t : Stream) (text : List ℕ) (going : t.over ≡ false) where
  -- nothing follows
  last : lines_bytes t.bench t.reader t.at text ≡ [] → NextLine t text (ended_of t)
  unfolding rest_of
  last none = record { rest = sym none; fewer = rw going (omega arith) }

  pub next_long : longest_text < length text → NextLine t text (ended_of t)
  next_long long = last (rw (lt-leb (length text) longest_text long))

  module _ (short : length text ≤ longest_text) where
    pub next_none : length text ≤ t.at → NextLine t text (ended_of t)
    unfolding bytes_from lines_of
    next_none end = last (rw (le-leb (length text) longest_text short, drop_of_length-le text end))

    module _ {r : ReadLine} {end : ℕ} (more : t.at < length text) (found : end ≡ t.at + length (first_line (drop t.at text)))
        (read : r ≡ read_line_of t.reader t.bench (first_line (drop t.at text))) where
      after : drop (suc (length (first_line (drop t.at text)))) (drop t.at text) ≡ drop (end + 1) text
      after =
          let same : t.at + suc (length (first_line (drop t.at text))) ≡ end + 1 = omega (arith, found) in
          drop-drop _ t.at text ∙ ap (λ (n : ℕ). drop n text) same

      cut : lines_bytes t.bench t.reader t.at text
          ≡ unless (is_refused r.answer) (run_then r.bench (λ (m : Bench). bytes_from m r.reader (lines_of (drop (end + 1) text))))
      unfolding bytes_from
      cut = rw (
        le-leb (length text) longest_text short,
        lines_next (drop t.at text) (rw (length-drop t.at text) (omega arith)),
        after,
        read,
      )

      pub next_refused : is_refused r.answer ≡ true → NextLine t text (ended_of t)
      next_refused e = last (cut ∙ rw e)

      pub next_read : is_refused r.answer ≡ false
          → NextLine t text (record { over = false; at = end + 1; reader = r.reader; bench = r.bench })
      unfolding rest_of
      next_read e =
          let few = le-leb (length text) longest_text short in
          record { rest = rw few (sym (rw (few, e) at cut)); fewer = rw going (omega (arith, found)) }
