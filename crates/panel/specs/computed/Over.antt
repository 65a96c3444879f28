-- When a panel's check has handed out all: what `is_over` tells.
use Rattle.std.specs.Prelude.{Bool}
use Rattle.job.specs.Check.{stage_over}
use Rattle.panel.specs.declared.PanelCheck.{PanelCheck}

abbrev pub is_over : PanelCheck → Bool
is_over c = stage_over c.stage
