-- 01, Ticks and runs: "A run writes tick bytes into a lent buffer and reports how many ticks it did. It does the least of its tick budget,
-- the buffer length and the ticks to the block's end; later bytes keep their contents."
use Rattle.std.specs.Prelude.{◌≡◌, Bool, true, false, List, [], ◌∷◌, ◌++◌, ℕ, zero, suc, ◌*◌, ◌≤◌, ◌<◌, length, drop}
use Rattle.plane.specs.declared.point.Point.{Point}
use Rattle.plane.specs.declared.travel.Travel.{Travel}
use Rattle.plane.specs.Byte.{cycles_marked}
use Rattle.plane.specs.Travel.{inside_of}
use Rattle.plane.specs.computed.Travel.{Wide}
use Rattle.circle.specs.Charge.{diagonal}
use Rattle.work.specs.declared.Work.{Work}
use Rattle.work.specs.declared.Advance.{Advance}
use Rattle.work.specs.Work.{is_nothing}
use Rattle.work.specs.computed.Work.{work_sound, advance_of}
use Rattle.run.specs.declared.Ran.{Ran}

-- the ticks of a run: their bytes, what they leave, and whether the last ended the block
pub record Strip : Type 0 where
  pub bytes : List ℕ
  pub at : Point
  pub remainder : ℕ
  pub work : Work
  pub ended : Bool

-- a tick in front of what follows, of which there is nothing where the tick ended the block
abbrev pub in_front : (ended : Bool) → Advance → Strip → Strip
in_front true a s = record { bytes = a.byte ∷ []; at = a.at; remainder = a.remainder; work = a.work; ended = true }
in_front false a s = record { bytes = a.byte ∷ s.bytes; at = s.at; remainder = s.remainder; work = s.work; ended = s.ended }

-- at most so many working ticks, to the block's end
unfoldable pub strip_of : (q0 most : ℕ) (at : Point) (remainder : ℕ) → Work → Strip
strip_of q0 zero at r w = record { bytes = []; at = at; remainder = r; work = w; ended = false }
strip_of q0 (suc n) at r w = let a = advance_of q0 at r w in in_front (is_nothing a.work) a (strip_of q0 n a.at a.remainder a.work)

-- what a run reports of its ticks
abbrev pub ran_of : Strip → Ran
ran_of s =
    record {
      ticks = length s.bytes;
      cycles = cycles_marked s.bytes;
      ended = s.ended;
      at = s.at;
      remainder = s.remainder;
      work = s.work;
    }

-- the buffer after a run: its tick bytes, and then as it was
unfoldable pub written : (bytes old : List ℕ) → List ℕ
written bytes old = bytes ++ drop (length bytes) old

-- what the code asks: a line or an arc in work, sound in some travel, and a capacity that sums of feeds fit
pub record SoundIn (q0 : ℕ) (at : Point) (r : ℕ) (w : Work) : Type 0 where
  pub travel : Travel
  pub wide : Wide travel
  pub capacity : q0 ≤ 1200000000
  pub inside : inside_of travel at ≡ true
  pub below : r < diagonal * q0
  pub sound : work_sound q0 travel at w ≡ true
  pub busy : is_nothing w ≡ false
