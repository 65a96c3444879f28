-- 02 §5: the panel's listing of a text, as it is computed.
use Rattle.std.specs.Prelude.{cond, List, ℕ, ◌+◌, leb, length}
use Rattle.settings.specs.declared.Settings.{Settings}
use Rattle.settings.specs.Settings.{feed_unit, capacity_of}
use Rattle.reader.specs.computed.Reader.{longest_text}
use Rattle.job.specs.Job.{End, Job}
use Rattle.job.specs.computed.Job.{job_of_lines, job_at}
use Rattle.job.specs.Listing.{job_listing}
use Rattle.panel.specs.Whole.{whole_lines}

-- "Unless one of those was refused, 30 follows with the line holding that byte, whose other faults don't count."
abbrev pub thirty_after : (whole : ℕ) → End → End
thirty_after whole End.complete = End.refused (whole + 1) 30
thirty_after whole (End.refused n number) = End.refused n number

-- "For a longer one the rows of the whole lines before byte 65,537 come first."
unfoldable pub long_job : Settings → (text : List ℕ) → Job
long_job s text =
    let whole = whole_lines text in
    let j = job_of_lines feed_unit s whole in
    record { blocks = j.blocks; end = thirty_after (length whole) j.end }

-- "For a text of at most 65,536 bytes the listing equals the old one in every byte."
-- Tied: `means` of `EveryPanel`.
unfoldable pub panel_job : Settings → (text : List ℕ) → Job
panel_job s text = cond (leb (length text) longest_text) (job_at feed_unit s text) (long_job s text)

unfoldable pub panel_listing : Settings → (text : List ℕ) → List ℕ
panel_listing s text = job_listing (capacity_of s) (panel_job s text)
