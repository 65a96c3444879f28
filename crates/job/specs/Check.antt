-- When a check has handed out all: what `is_over` tells.
use Rattle.std.specs.Prelude.{Bool, true, false}
use Rattle.job.specs.declared.Stage.{Stage}
use Rattle.job.specs.declared.Check.{Check}

abbrev pub stage_over : Stage → Bool
stage_over Stage.Header = false
stage_over Stage.Lines = false
stage_over Stage.Over = true

abbrev pub is_over : Check → Bool
is_over c = stage_over c.stage
