-- A check's progress, read from its words.
use Rattle.std.specs.Prelude.{Bool, Option, Some, None, cond, List, ℤ}
use Rattle.bench.specs.declared.Bench.{Bench}
use Rattle.job.specs.declared.Check.{Check}
use Rattle.encoding.specs.computed.Words.{same_words}
use Rattle.progress.specs.Progress.{encode_progress}
use Rattle.progress.specs.Progress.{check_in}

-- whether words are a check's progress, and the check that they tell, whatever they are
pub record DecodedProgress : Type 0 where
  pub ok : Bool
  pub check : Check

-- Words are a check's progress if they are those of the check that they tell. So a stage above 2, a negative count, and a G or F that tells
-- nothing make no progress.
unfoldable pub decode_progress : Bench → List ℤ → DecodedProgress
decode_progress m ws = record { ok = same_words ws (encode_progress (check_in m ws)); check = check_in m ws }

-- the check, where the words are one's progress
abbrev pub check_told : Bench → List ℤ → Option Check
check_told m ws = cond (decode_progress m ws).ok (Some (decode_progress m ws).check) None
