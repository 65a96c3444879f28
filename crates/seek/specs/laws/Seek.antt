-- The loop over the lines: before each, what the search is still to find is what is sought.
use Rattle.std.specs.Prelude.{◌≡◌, refl, true, false, List, ℕ, suc, ◌+◌, ◌≤◌, ◌<◌, length, drop}
use Rattle.std.proofs.Common.{sym, ap, ◌∙◌, length-drop, drop_of_length-le, drop-drop, le-leb}
use native.Mathlib.Omega.{arith}
use Rattle.std.proofs.lemmas.Bool.{lt-leb}
use Rattle.words.specs.computed.Scan.{first_line}
use Rattle.settings.specs.declared.Settings.{Settings}
use Rattle.reader.specs.computed.Reader.{longest_text}
use Rattle.reader.specs.declared.text_line.ReadLine.{ReadLine}
use Rattle.reader.specs.computed.TextLine.{read_line_of}
use Rattle.job.specs.Text.{lines_of}
use Rattle.job.specs.laws.Text.{lines_next}
use Rattle.seek.specs.declared.Found.{Found}
use Rattle.seek.specs.declared.Sought.{Sought}
use Rattle.seek.specs.declared.Search.{Search}
use Rattle.seek.specs.computed.Seek.{seek_from, seek_of}
use Rattle.seek.specs.computed.Search.{search_from, refused_of, search_after, Counted}
use Rattle.seek.specs.laws.Search.{to_find, outcome, line_found, one_line_more}

module _ (c : Settings) (n : ℕ) where
  pub start_counted : {s : Search} → s ≡ search_from c n → Counted s
  unfolding search_from
  start_counted is = rw is (omega arith, omega arith)

  pub seek_long : (text : List ℕ) → longest_text < length text
      → (refused_of (search_from c n) (search_from c n).sought.bench 30).sought ≡ seek_of c text n
  unfolding seek_of search_from
  seek_long text long = rw (lt-leb (length text) longest_text long)

  pub seek_short : (text : List ℕ) → length text ≤ longest_text → to_find (search_from c n) (lines_of text) ≡ seek_of c text n
  unfolding seek_of search_from
  seek_short text short = rw (le-leb (length text) longest_text short)

-- the lines before `at` are read, and what is left of the text holds the answer
pub record Seeking (text : List ℕ) (answer : Sought) (s : Search) (at : ℕ) : Type 0 where
  pub rest : to_find s (lines_of (drop at text)) ≡ answer
  pub going : s.sought.found ≡ Found.Over
  pub none : s.sought.left ≡ 0
  pub blocks : s.sought.block ≤ s.sought.line
  pub lines : s.sought.line ≤ at
  pub short : length text ≤ longest_text

pub seeking_start : (c : Settings) (n : ℕ) (text : List ℕ) {s : Search} → s ≡ search_from c n → length text ≤ longest_text
    → Seeking text (to_find s (lines_of text)) s 0
unfolding search_from
seeking_start c n text is short =
    rw is (record { rest = refl; going = refl; none = refl; blocks = omega arith; lines = omega arith; short = short })

module _ {text : List ℕ} {answer : Sought} {s : Search} {at : ℕ} (g : Seeking text answer s at) where
  -- no line is left
  pub seeking_end : length text ≤ at → s.sought ≡ answer
  unfolding seek_from lines_of
  seeking_end end =
      let t = s.sought in
      (λ i. record { found = g.going i; block = t.block; line = t.line; ticks = t.ticks; left = g.none i; bench = t.bench })
      ∙ rw (drop_of_length-le text end) at g.rest

  module _ (more : at < length text) where
    pub counted : Counted s
    counted = (g.blocks, omega (arith, g.lines, g.short))

    module _ {r : ReadLine} (read : r ≡ read_line_of s.reader s.sought.bench (first_line (drop at text))) where
      cut : outcome (search_after s r) (lines_of (drop (suc (length (first_line (drop at text)))) (drop at text))) ≡ answer
      cut =
          let some : 1 ≤ length (drop at text) = rw (length-drop at text) (omega arith) in
          sym (line_found s (first_line (drop at text)) _ read) ∙ ap (to_find s) (sym (lines_next (drop at text) some)) ∙ g.rest

      pub seeking_found : (search_after s r).decided ≡ true → (search_after s r).sought ≡ answer
      seeking_found decided = rw decided at cut

      module _ {bytes : ℕ} (first : bytes ≡ length (first_line (drop at text))) where
        pub seeking_on : (search_after s r).decided ≡ false → Seeking text answer (search_after s r) (at + bytes + 1)
        seeking_on on =
            let o = one_line_more s r in
            let same : at + suc (length (first_line (drop at text))) ≡ at + bytes + 1 = omega (arith, first) in
            let after = drop-drop _ at text ∙ ap (λ (k : ℕ). drop k text) same in
            record {
              rest = rw (on, after) at cut;
              going = (o.going on).0;
              none = (o.going on).1;
              blocks = omega (arith, o.blocks, o.lines, g.blocks);
              lines = omega (arith, o.lines, g.lines);
              short = g.short;
            }
