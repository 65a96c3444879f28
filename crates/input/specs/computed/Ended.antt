-- The status that a program ends with: 141 where nobody reads any more what it writes, and else 0.
use Rattle.std.specs.Prelude.{◌≡◌, ◌≢◌, ℕ}
use Rattle.std.specs.declared.result.Result.{Result}
use Rattle.std.specs.declared.io.ErrorKind.{ErrorKind}
use Rattle.std.specs.IoError.{error_kind}
use Rattle.input.specs.declared.failure.Stopped.{Stopped}

abbrev pub EndsWith : {A : Type 0} → Result A Stopped → (status : ℕ) → Type 0
EndsWith (Result.Ok a) status = status ≡ 0
EndsWith (Result.Err (Stopped.Reading e)) status = status ≡ 0
EndsWith (Result.Err (Stopped.Writing e)) status =
    (error_kind e ≡ ErrorKind.BrokenPipe → status ≡ 141) × (error_kind e ≢ ErrorKind.BrokenPipe → status ≡ 0)
