-- The listing of a text, over the unit of feed numbers.
use Rattle.std.specs.Prelude.{List, ℕ}
use Rattle.settings.specs.declared.Settings.{Settings}
use Rattle.settings.specs.Settings.{feed_unit, capacity_at}
use Rattle.job.specs.computed.Job.{job_at}
use Rattle.job.specs.Listing.{job_listing}

unfoldable pub listing_at : (u : ℕ) → Settings → (text : List ℕ) → List ℕ
listing_at u s text = job_listing (capacity_at u s) (job_at u s text)

abbrev pub listing_of : Settings → (text : List ℕ) → List ℕ
listing_of s text = listing_at feed_unit s text
