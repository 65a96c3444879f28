-- A fresh machine's stream has the text's tick bytes to hand out.
use Rattle.std.proofs.Common.{◌≡◌, refl, ap, ◌∙◌}
use Rattle.settings.specs.Settings.{standard_settings}
use Rattle.settings.specs.laws.Right.{standard_passes}
use Rattle.bench.specs.Bench.{fresh_of}
use Rattle.bench.specs.laws.Calls.{make_done}
use Rattle.stream.specs.declared.Stream.{Stream}
use Rattle.stream.specs.computed.Stream.{rest_of, stream_from}
use Rattle.stream.specs.laws.Told.{stream_tells}
use Rattle.jobticks.proofs.start.Goals as goal

pub returns : goal.returns
returns c text =
    let fresh : c.start.result ≡ stream_from (fresh_of standard_settings) =
    rw (c.start.ensures, c.make.ensures, c.standard.ensures, ← (make_done standard_settings refl standard_passes)) in
    ap (λ (t : Stream). rest_of t text) fresh ∙ stream_tells standard_settings text
