-- 02 §1, Where will it be?: "the same ticks", of the bench alone.
use Rattle.std.specs.Prelude.{List, [], ◌∷◌, ℕ, zero, suc, Result, Ok, Err}
use Rattle.question.specs.declared.Question.{Question}
use Rattle.bench.specs.declared.Bench.{Bench}
use Rattle.bench.specs.computed.Calls.{tick_of}

-- "the same ticks": tick calls one after the other, their bytes, and the record that the last hands back
pub record Ticking : Type 0 where
  pub bytes : List ℕ
  pub bench : Bench

-- a refused tick has no byte
abbrev pub in_front : Result ℕ Question → List ℕ → List ℕ
in_front (Ok b) bytes = b ∷ bytes
in_front (Err number) bytes = bytes

unfoldable pub ticking_of : (n : ℕ) → Bench → Ticking
ticking_of zero m = record { bytes = []; bench = m }
ticking_of (suc n) m =
    let t = tick_of m in
    let rest = ticking_of n t.bench in
    record { bytes = in_front t.tick rest.bytes; bench = rest.bench }
