-- A fresh machine's check has the panel's listing to hand out.
use Rattle.std.proofs.Common.{◌≡◌, refl, ap, ◌∙◌}
use Rattle.settings.specs.Settings.{standard_settings}
use Rattle.settings.specs.laws.Right.{standard_passes}
use Rattle.bench.specs.Bench.{fresh_of}
use Rattle.bench.specs.laws.Calls.{make_done}
use Rattle.panel.specs.declared.PanelCheck.{PanelCheck}
use Rattle.panel.specs.computed.Piece.{start_of}
use Rattle.panel.specs.computed.Rest.{rest_of}
use Rattle.panel.specs.laws.Listing.{panel_is}
use Rattle.panelcheck.proofs.start.Goals as goal

pub returns : goal.returns
returns c scratch text =
    let fresh : c.start.result ≡ start_of (fresh_of standard_settings) =
    rw (c.start.ensures, c.make.ensures, c.standard.ensures, ← (make_done standard_settings refl standard_passes)) in
    ap (λ (p : PanelCheck). rest_of p scratch text) fresh ∙ panel_is standard_settings standard_passes scratch text
