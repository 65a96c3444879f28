-- A fresh machine's check has the listing to hand out.
use Rattle.std.proofs.Common.{◌≡◌, refl, ap, ◌∙◌}
use Rattle.settings.specs.Settings.{standard_settings}
use Rattle.settings.specs.laws.Right.{standard_passes}
use Rattle.bench.specs.Bench.{fresh_of}
use Rattle.bench.specs.laws.Calls.{make_done}
use Rattle.job.specs.declared.Check.{Check}
use Rattle.job.specs.computed.Check.{rest_of, check_from}
use Rattle.job.specs.laws.Listing.{listing_is}
use Rattle.jobcheck.proofs.start.Goals as goal

pub returns : goal.returns
returns c text =
    let fresh : c.start.result ≡ check_from (fresh_of standard_settings) =
    rw (c.start.ensures, c.make.ensures, c.standard.ensures, ← (make_done standard_settings refl standard_passes)) in
    ap (λ (k : Check). rest_of k text) fresh ∙ listing_is standard_settings standard_passes text
