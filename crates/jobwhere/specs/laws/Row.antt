-- The row's first number fits its word.
use Rattle.std.specs.Int.{w64}
use Rattle.std.proofs.Common.{SFits}
use Rattle.std.proofs.Math.Facts.{sfits_lit}
use Rattle.encoding.specs.laws.Number.{refusal_fits}
use Rattle.seek.specs.declared.Found.{Found}
use Rattle.jobwhere.specs.computed.Row.{found_word}

pub found_fits : (f : Found) → SFits w64 (found_word f)
found_fits Found.InWork = sfits_lit tt
found_fits Found.Over = sfits_lit tt
found_fits (Found.Refused number) = refusal_fits number
