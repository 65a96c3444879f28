-- What a check that has just begun has still to hand out is the panel's listing; and that is the check program's for a text that is not
-- too long.
use Rattle.std.specs.Prelude.{◌≡◌, refl, Bool, true, false, ℕ, ◌≤◌, ◌<◌, leb}
use Rattle.std.proofs.Math.Path.{ap}
use Rattle.std.proofs.Common.{◌∙◌, arith, leb-true, leb-false, le-leb}
use mathlib.Core.List.{List, [], ◌++◌}
use Rattle.std.proofs.Math.ListN.{length}
use Rattle.std.proofs.lemmas.Bool.{lt-leb}
use Rattle.row.specs.Lines.{header_line}
use Rattle.words.specs.computed.Scan.{first_line}
use Rattle.settings.specs.declared.Settings.{Settings}
use Rattle.settings.specs.Settings.{feed_unit, capacity_of}
use Rattle.settings.specs.computed.Settings.{settings_no}
use Rattle.bench.specs.Bench.{fresh_of}
use Rattle.reader.specs.computed.Reader.{longest_text}
use Rattle.tally.specs.computed.Tally.{tally_from as tally_start}
use Rattle.job.specs.Job.{Made, End}
use Rattle.job.specs.Listing.{rows, last_line}
use Rattle.job.specs.computed.Job.{job_of_lines}
use Rattle.job.specs.computed.Listing.{listing_at, listing_of}
use Rattle.job.specs.computed.Check.{check_from, rows_then}
use Rattle.job.specs.computed.Check.{rest_of as check_rest}
use Rattle.job.specs.laws.Rows.{last_after, lists}
use Rattle.job.specs.laws.Listing.{fresh_rests, fresh_low, fresh_counts, listing_is}
use Rattle.panel.specs.Whole.{whole_lines}
use Rattle.panel.specs.computed.Listing.{thirty_after, long_job, panel_job, panel_listing}
use Rattle.panel.specs.computed.Piece.{start_of, too_long}
use Rattle.panel.specs.computed.Rest.{rows_on, rest_of, Lists}
use Rattle.panel.specs.laws.Rows.{front, on_short, on_longer}
use Rattle.panel.specs.laws.Whole.{whole_few}

-- "For a text of at most 65,536 bytes the listing equals the old one in every byte."
pub panel_short : (s : Settings) (text : List ℕ) → length text ≤ longest_text → panel_listing s text ≡ listing_of s text
unfolding panel_listing panel_job listing_at
panel_short s text h = rw (le-leb (length text) longest_text h)

last_is : (q0 lines : ℕ) (ms : List Made) (end : End) → lines ≤ longest_text
    → last_after too_long lines 0 0 0 q0 0 ms end ≡ last_line q0 ms (thirty_after lines end)
last_is q0 lines ms End.complete h = rw (le-leb lines longest_text h)
last_is q0 lines ms (End.refused n number) h = refl

none : first_line [] ≡ []
unfolding first_line
none = refl

module _ (s : Settings) (passed : settings_no s ≡ 0) (text : List ℕ) where
  short_is : length text ≤ longest_text → header_line ++ rows_on (tally_start (fresh_of s)) longest_text [] text ≡ panel_listing s text
  unfolding front check_rest check_from
  short_is h =
      rw (on_short text (tally_start (fresh_of s)) longest_text [] none h, panel_short s text h)
      (rw (le-leb (length text) longest_text h) at (listing_is s passed text))

  long_rows : (let j = job_of_lines feed_unit s (whole_lines text) in
      rows_then too_long (tally_start (fresh_of s)) (whole_lines text)
      ≡ rows 1 j.blocks ++ last_line (capacity_of s) j.blocks (thirty_after (length (whole_lines text)) j.end))
  unfolding tally_start fresh_of
  long_rows =
      let j = job_of_lines feed_unit s (whole_lines text) in
      let n = length (whole_lines text) in
      lists too_long n (whole_lines text) (tally_start (fresh_of s)) (fresh_rests s passed) (fresh_low s passed)
      (fresh_counts (fresh_of s)) (omega arith)
      (whole_few text)
      ∙ ap (λ (last : List ℕ). rows 1 j.blocks ++ last) (last_is (capacity_of s) n j.blocks j.end (whole_few text))

  long_is : longest_text < length text → header_line ++ rows_on (tally_start (fresh_of s)) longest_text [] text ≡ panel_listing s text
  unfolding front panel_listing panel_job long_job whole_lines
  long_is h =
      rw (lt-leb (length text) longest_text h)
      (ap (λ (rest : List ℕ). header_line ++ rest) (on_longer text (tally_start (fresh_of s)) longest_text [] none h ∙ long_rows))

-- from a machine made fresh
pub panel_is : (s : Settings) → settings_no s ≡ 0 → Lists s (start_of (fresh_of s))
unfolding rest_of start_of
panel_is s passed scratch text = by (leb (length text) longest_text) refl
  where
    by : (short : Bool) → leb (length text) longest_text ≡ short
        → header_line ++ rows_on (tally_start (fresh_of s)) longest_text [] text ≡ panel_listing s text
    by true e = short_is s passed text (leb-true (length text) longest_text e)
    by false e = long_is s passed text (leb-false (length text) longest_text e)
