-- What a call hands out, and what is then still to come, is what was to come; and a call that brings something leaves fewer.
use Rattle.std.specs.Prelude.{◌≡◌, Bool, cond, eqb, ltb, take, drop, get_or}
use Rattle.std.proofs.Math.Path.{refl, sym, ap}
use Rattle.std.proofs.Common.{◌∙◌, true≢false, add-zero, add-one, length-take, length-append, drop_of_length-le, drop-cons, eqb-true}
use Rattle.std.proofs.Common.{ltb-true, ltb-false}
use Rattle.std.proofs.Math.Bool.{true, false}
use mathlib.Core.List.{List, [], ◌∷◌, ◌++◌, append-nil}
use Prim.Native.Nat.{ℕ, zero, suc, ◌+◌, ◌-◌, ◌*◌, ◌≤◌, ◌<◌, min}
use native.Mathlib.Omega.{arith}
use Rattle.std.proofs.Math.Nat.{sub-zero}
use Rattle.std.proofs.Math.ListN.{length}
use Rattle.std.proofs.Math.Seq.{length-take-le}
use Rattle.std.proofs.lemmas.Bool.{eqb-false}
use Rattle.words.specs.computed.Scan.{first_line}
use Rattle.bench.specs.declared.Bench.{Bench}
use Rattle.finish.specs.laws.Record.{AtRest}
use Rattle.tally.specs.computed.Tally.{RowGiven, listed_of, tally_from}
use Rattle.job.specs.declared.Stage.{Stage}
use Rattle.job.specs.computed.Check.{unless, rows_then, rows_from, totals, last_row}
use Rattle.job.specs.laws.Reached.{start_reached, line_reached, stays}
use Rattle.panel.specs.declared.PanelCheck.{PanelCheck}
use Rattle.panel.specs.declared.Come.{Come}
use Rattle.panel.specs.computed.Over.{is_over}
use Rattle.panel.specs.computed.Piece.{scratch_bytes, check_at, start_of, held_in, taken_of, kept_of, Handed, stage_after}
use Rattle.panel.specs.computed.Piece.{line_handed, last_handed, too_long, wait_handed, come_of, handed_for, lines_handed}
use Rattle.panel.specs.computed.Piece.{handed_at, piece_of}
use Rattle.panel.specs.computed.Rest.{unended, row_then, rows_on, rest_of, calls_at, calls_left, ReachedPanel}
use Rattle.panel.specs.laws.Rows.{on_lf, on_cut}
use Rattle.panel.specs.laws.Taken.{taken_few, on_taken, taken_lf}

-- the scratch buffer holds the line that a call says
abbrev pub Kept : Handed → (free : List ℕ) → Type 0
Kept h free = take (length h.line) free ≡ h.line

-- a call does all this: of what was to come it hands out the next bytes; it keeps what a start reaches; and it leaves fewer calls
pub record Onward (c : PanelCheck) (scratch piece : List ℕ) (last : Bool) (h : Handed) : Type 0 where
  pub took : h.took ≤ length piece
  pub line : h.took ≤ length (taken_of c.left piece) + 1
  pub bytes : (free : List ℕ) → Kept h free → (rest : List ℕ) → (last ≡ true → rest ≡ [])
      → h.row ++ rest_of h.check free (drop h.took piece ++ rest) ≡ rest_of c scratch (piece ++ rest)
  pub keeps : ReachedPanel c → ReachedPanel h.check
  pub fewer : is_over c ≡ false → (length piece ≡ 0 → last ≡ true) → calls_left h.check < calls_left c

module _ (c : PanelCheck) (scratch piece : List ℕ) (last : Bool) where
  header_onward : scratch_bytes ≤ length scratch → c.stage ≡ Stage.Header → Onward c scratch piece last
      (handed_at Stage.Header c scratch piece last)
  unfolding rest_of
  header_onward wide e =
      let size = length-take-le (min c.held scratch_bytes) scratch (omega arith) in
      let same : min (length (held_in c.held scratch)) scratch_bytes ≡ length (held_in c.held scratch) = omega arith in
      record {
        took = omega arith;
        line = omega arith;
        bytes = λ free kept rest end. rw (e, same, kept);
        keeps = λ r. record { left = r.left; held = omega arith; tally = r.tally };
        fewer = λ going some. rw e (omega arith);
      }

  over_onward : c.stage ≡ Stage.Over → Onward c scratch piece last (handed_at Stage.Over c scratch piece last)
  unfolding rest_of
  over_onward e =
      record {
        took = omega arith;
        line = omega arith;
        bytes = λ free kept rest end. rw e;
        keeps = λ r. r;
        fewer = λ going some. absurd (true≢false (rw e at going));
      }

  -- ---- a line

  module _ (wide : scratch_bytes ≤ length scratch) (lines : c.stage ≡ Stage.Lines) where
    abbrev n : ℕ
    n = length (taken_of c.left piece)

    abbrev left : ℕ
    left = c.left - n

    abbrev line : List ℕ
    line = kept_of c.held scratch (taken_of c.left piece)

    few : n ≤ min c.left (length piece)
    few = taken_few c.left piece

    -- as many as the scratch buffer takes
    short : length line ≤ scratch_bytes
    short = omega (arith, length-take scratch_bytes (held_in c.held scratch ++ taken_of c.left piece))

    grown : length line ≤ c.held + n
    grown = omega (
      arith,
      length-take scratch_bytes (held_in c.held scratch ++ taken_of c.left piece),
      length-append (held_in c.held scratch) (taken_of c.left piece),
      length-take (min c.held scratch_bytes) scratch,
    )

    -- after the bytes taken
    gone : (rest : List ℕ) → rest_of c scratch (piece ++ rest) ≡ rows_on c.tally left line (drop n piece ++ rest)
    unfolding rest_of
    gone rest =
        rw lines
        (on_taken c.tally c.left (held_in c.held scratch) piece rest
        ∙ on_cut (drop n piece ++ rest) c.tally left (held_in c.held scratch ++ taken_of c.left piece))

    -- the byte after them
    next : n < length piece → drop n piece ≡ get_or piece n 0 ∷ drop (n + 1) piece
    next more = drop-cons piece n 0 more ∙ ap (λ (k : ℕ). get_or piece n 0 ∷ drop k piece) (sym (add-one n))

    none : length piece ≤ n → (rest : List ℕ) → drop n piece ++ rest ≡ rest
    none all rest = ap (λ (s : List ℕ). s ++ rest) (drop_of_length-le piece all)

    -- what comes after a row
    after : (k : ℕ) (free rest : List ℕ)
        → row_then (listed_of c.tally (first_line line)) (λ t. rows_on t k [] rest)
        ≡ (let h = line_handed c.tally k 0 line in h.row ++ rest_of h.check free rest)
    unfolding rest_of
    after k free rest = by (listed_of c.tally (first_line line))
      where
        by : (g : RowGiven) → row_then g (λ t. rows_on t k [] rest)
            ≡ g.bytes ++ rest_of (check_at (stage_after g.over) k 0 g.tally) free rest
        by g = ap (λ (s : List ℕ). g.bytes ++ s) (on g.over)
          where
            on : (over : Bool) → unless over (rows_on g.tally k [] rest) ≡ rest_of (check_at (stage_after over) k 0 g.tally) free rest
            on true = refl
            on false = refl

    line_keeps : (k took : ℕ) → k ≤ c.left → ReachedPanel c → ReachedPanel (line_handed c.tally k took line).check
    line_keeps k took h r =
        record {
          left = omega (arith, r.left);
          held = omega arith;
          tally = line_reached c.tally r.tally (omega (arith, r.left)) (first_line line);
        }

    line_fewer : (k took : ℕ) → 1 + 2 * k < calls_left c → calls_left (line_handed c.tally k took line).check < calls_left c
    line_fewer k took h = by (listed_of c.tally (first_line line)).over
      where
        by : (over : Bool) → calls_at (stage_after over) k 0 < calls_left c
        by true = omega arith
        by false = omega arith

    over_keeps : (took : ℕ) → ReachedPanel c → ReachedPanel (check_at Stage.Over left 0 c.tally)
    over_keeps took r =
        record { left = omega (arith, r.left); held = omega arith; tally = stays c.tally r.tally (omega (arith, r.left)) }

    -- ---- by what stands behind the bytes taken

    too_long_onward : n < length piece → left ≡ 0 → Onward c scratch piece last (last_handed too_long c.tally left n)
    unfolding rest_of rows_on
    too_long_onward more full =
        record {
          took = omega arith;
          line = omega arith;
          bytes = λ free kept rest end. append-nil (last_row too_long c.tally) ∙ sym (gone rest ∙ rw (full, next more));
          keeps = over_keeps n;
          fewer = λ going some. rw lines (omega arith);
        }

    lf_onward : n < length piece → (left ≡ 0 → ⊥) → Onward c scratch piece last (handed_for (Come.Line 1) c.tally left n line)
    lf_onward more some =
        let e : left ≡ suc (left - 1) = omega arith in
        record {
          took = omega arith;
          line = omega arith;
          bytes = λ free kept rest end.
              sym (after (left - 1) free (drop (n + 1) piece ++ rest))
              ∙ sym (on_lf c.tally (left - 1) line (get_or piece n 0) (drop (n + 1) piece ++ rest)
              (taken_lf c.left piece more (omega arith)))
              ∙ ap (λ (k : ℕ). rows_on c.tally k line (get_or piece n 0 ∷ (drop (n + 1) piece ++ rest))) (sym e)
              ∙ ap (λ (s : List ℕ). rows_on c.tally left line (s ++ rest)) (sym (next more))
              ∙ sym (gone rest);
          keeps = line_keeps (left - 1) (n + 1) (omega arith);
          fewer = λ going come. line_fewer (left - 1) (n + 1) (rw lines (omega (arith, few)));
        }

    module _ (all : length piece ≤ n) where
      wait_onward : last ≡ false → Onward c scratch piece last (wait_handed c.tally left n line)
      unfolding rest_of
      wait_onward more =
          let full : min (length line) scratch_bytes ≡ length line = omega (arith, short) in
          record {
            took = omega (arith, few);
            line = omega arith;
            bytes = λ free kept rest end. rw (full, kept) (sym (gone rest));
            keeps = λ r. record {
              left = omega (arith, r.left);
              held = short;
              tally = stays c.tally r.tally (omega
                  (arith, r.left));
            };
            fewer = λ going some. rw lines (omega (arith, few, grown, come some));
          }
        where
          come : (length piece ≡ 0 → last ≡ true) → 1 ≤ length piece
          come some = by (length piece) some
            where
              by : (k : ℕ) → (k ≡ 0 → last ≡ true) → 1 ≤ k
              by zero f = absurd (true≢false (sym (f refl) ∙ more))
              by (suc k) f = omega arith

      module _ (end : last ≡ true) where
        -- the text ends here
        ended : (rest : List ℕ) → (last ≡ true → rest ≡ []) → drop n piece ++ rest ≡ []
        ended rest e = none all rest ∙ e end

        total_onward : length line ≡ 0 → Onward c scratch piece last (last_handed totals c.tally left n)
        unfolding rest_of rows_on rows_then
        total_onward empty =
            record {
              took = omega (arith, few);
              line = omega arith;
              bytes =
                  λ free kept rest e. append-nil (last_row totals c.tally) ∙ sym (gone rest ∙ rw (ended rest e) (at_end_lem line empty));
              keeps = over_keeps n;
              fewer = λ going some. rw lines (omega arith);
            }
          where
            at_end_lem : (l : List ℕ) → length l ≡ 0 → rows_from c.tally (unended l) ≡ last_row totals c.tally
            at_end_lem [] e = refl
            at_end_lem (b ∷ l) e = absurd (omega arith)

        row_then_lem : (k : ℕ) → (length line ≡ 0 → ⊥)
            → rows_on c.tally k line [] ≡ row_then (listed_of c.tally (first_line line)) (λ t. rows_on t k [] [])
        unfolding rows_on rows_then
        row_then_lem k some = by line some
          where
            by : (l : List ℕ) → (length l ≡ 0 → ⊥)
                → rows_from c.tally (unended l) ≡ row_then (listed_of c.tally (first_line l)) (λ t. rows_on t k [] [])
            by [] some = absurd (some refl)
            by (b ∷ l) some = refl

        last_onward : (length line ≡ 0 → ⊥) → Onward c scratch piece last (handed_for (Come.Line 0) c.tally left n line)
        last_onward some =
            rw (sub-zero left, add-zero n)
            (record {
              took = omega (arith, few);
              line = omega arith;
              bytes = λ free kept rest e.
                  ap (λ (s : List ℕ). (let h = line_handed c.tally left n line in h.row ++ rest_of h.check free s)) (ended rest e)
                  ∙ sym (after left free [])
                  ∙ sym (row_then_lem left some)
                  ∙ sym (gone rest ∙ ap (rows_on c.tally left line) (ended rest e));
              keeps = line_keeps left n (omega arith);
              fewer = λ going come. line_fewer left n (rw lines (omega (arith, few, grown)));
            })

    line_onward : Onward c scratch piece last (lines_handed c scratch piece last)
    line_onward = behind (ltb n (length piece)) refl
      where
        Does : Come → Type 0
        Does k = Onward c scratch piece last (handed_for k c.tally left n line)

        at_limit : n < length piece → (full : Bool) → eqb left 0 ≡ full → Does (cond full Come.TooMany (Come.Line 1))
        at_limit more true e = too_long_onward more (eqb-true left 0 e)
        at_limit more false e = lf_onward more (eqb-false left 0 e)

        at_end_lem : length piece ≤ n → last ≡ true → (empty : Bool) → eqb (length line) 0 ≡ empty
            → Does (cond empty Come.End (Come.Line 0))
        at_end_lem all end true e = total_onward all end (eqb-true (length line) 0 e)
        at_end_lem all end false e = last_onward all end (eqb-false (length line) 0 e)

        used_up_lem : length piece ≤ n → (end : Bool) → last ≡ end
            → Does (cond end (cond (eqb (length line) 0) Come.End (Come.Line 0)) Come.Wait)
        used_up_lem all true e = at_end_lem all e (eqb (length line) 0) refl
        used_up_lem all false e = wait_onward all e

        behind : (more : Bool) → ltb n (length piece) ≡ more → Does (come_of more left last (length line))
        behind true e = at_limit (ltb-true n (length piece) e) (eqb left 0) refl
        behind false e = used_up_lem (ltb-false n (length piece) e) last refl

  -- ---- any call

  pub read_onward : scratch_bytes ≤ length scratch → Onward c scratch piece last (piece_of c scratch piece last)
  unfolding piece_of
  read_onward wide = by c.stage refl
    where
      by : (stage : Stage) → c.stage ≡ stage → Onward c scratch piece last (handed_at stage c scratch piece last)
      by Stage.Header e = header_onward wide e
      by Stage.Lines e = line_onward wide e
      by Stage.Over e = over_onward e

-- ---- a start

pub start_panel_lem : (m : Bench) → AtRest m → ReachedPanel (start_of m)
unfolding start_of
start_panel_lem m i = record { left = omega arith; held = omega arith; tally = stays (tally_from m) (start_reached i) (omega arith) }
