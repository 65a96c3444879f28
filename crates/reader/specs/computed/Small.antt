-- What inner functions ask of words: numbers that their products hold.
use Rattle.std.specs.Prelude.{ℕ, ◌*◌, ◌^◌, ◌<◌}
use Rattle.letters.specs.declared.word.Word.{Word}
use Rattle.letters.specs.declared.word.Words.{Words}

abbrev pub Small : (p : ℕ) → Word → Type 0
Small p w = w.magnitude * p < 2 ^ 63

pub record SmallWords (p : ℕ) (ws : Words) : Type 0 where
  pub x : Small p ws.x
  pub y : Small p ws.y
  pub i : Small p ws.i
  pub j : Small p ws.j
  pub f : Small p ws.f

-- numbers as a line can write them: seven digits, and three more after a point
pub record Writable (ws : Words) : Type 0 where
  pub x : ws.x.magnitude < 10 ^ 10
  pub y : ws.y.magnitude < 10 ^ 10
  pub i : ws.i.magnitude < 10 ^ 10
  pub j : ws.j.magnitude < 10 ^ 10
  pub f : ws.f.magnitude < 10 ^ 10
