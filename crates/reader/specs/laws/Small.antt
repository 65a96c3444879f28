-- Words that products with p hold.
use Rattle.std.specs.Prelude.{Bool, true, false, cond, ℕ, ◌*◌, ◌/◌, ◌^◌, ◌≤◌, ◌<◌, List, ℤ}
use Rattle.std.proofs.Common.{div-le_self, lt_of_le_of_lt, mul-le-mul_left, arith, SFits}
use Rattle.std.specs.Int.{w64}
use Rattle.whole.specs.laws.Sign.{signed_size}
use Rattle.whole.specs.laws.Order.{abs_fits}
use Rattle.words.specs.computed.Meaning.{meaning_of}
use Rattle.words.specs.laws.Meaning.{meaning_below}
use Rattle.reader.specs.Reader.{in_pulses, coordinate}
use Rattle.letters.specs.declared.letter.Letter.TheVariants.{F, X, Y, I, J}
use Rattle.letters.specs.declared.word.Word.{Word}
use Rattle.letters.specs.declared.word.Words.{Words}
use Rattle.reader.specs.computed.Small.{Small}
use Rattle.reader.specs.computed.Small.{SmallWords}
use Rattle.reader.specs.computed.Small.{Writable}

-- and so the pulses are an i64
pub pulses_fit : (p : ℕ) (w : Word) → Small p w → SFits w64 (in_pulses p w)
pulses_fit p w h = abs_fits (in_pulses p w)
    (rw (signed_size w.negative (w.magnitude * p / 1000)) (lt_of_le_of_lt (div-le_self (w.magnitude * p) 1000) h))

pub coordinate_fits : (p : ℕ) (w : Word) (here : ℤ) → Small p w → SFits w64 here → SFits w64 (coordinate p w here)
coordinate_fits p w here h at = by w.stands
  where
    by : (stands : Bool) → SFits w64 (cond stands (in_pulses p w) here)
    by true = pulses_fit p w h
    by false = at

pub line_writable : (bytes : List ℕ) → Writable (meaning_of bytes).words
line_writable bytes =
    record {
      x = omega (arith, meaning_below bytes X);
      y = omega (arith, meaning_below bytes Y);
      i = omega (arith, meaning_below bytes I);
      j = omega (arith, meaning_below bytes J);
      f = omega (arith, meaning_below bytes F);
    }

-- they are small where p is one of the settings
below : (m p k : ℕ) → m < k → k ≤ 10 ^ 10 → p ≤ 1000 → m * p < 2 ^ 63
below m p k h room most = omega (arith, mul-le-mul_left m most)

pub small_words : (p : ℕ) → p ≤ 1000 → {ws : Words} → Writable ws → SmallWords p ws
small_words p most {ws} w =
    record {
      x = below ws.x.magnitude p _ w.x (omega arith) most;
      y = below ws.y.magnitude p _ w.y (omega arith) most;
      i = below ws.i.magnitude p _ w.i (omega arith) most;
      j = below ws.j.magnitude p _ w.j (omega arith) most;
      f = below ws.f.magnitude p _ w.f (omega arith) most;
    }
