-- 02 §1, Where will it be?: "It gives the record and the signed pulse sum per axis that the same ticks would give on a copy. The machine
-- itself comes back unchanged." What it refuses is in crate demands.
use Rattle.std.specs.Prelude.{◌≡◌, List, [], ◌∷◌, ◌++◌, ℕ, zero, suc, ◌+◌, ◌≤◌, ◌+ℤ◌, ◌-ℤ◌, Ok}
use Rattle.plane.specs.Byte.{code_x, code_y}
use Rattle.settings.specs.declared.Settings.{Settings}
use Rattle.bench.specs.declared.Answer.{Answer}
use Rattle.machine.specs.declared.Machine.{Machine}
use Rattle.machine.specs.declared.Answered.{Answered}
use Rattle.book.specs.Book.{Call, Reply}
use Rattle.book.specs.Sums.{pulses_sent}
use Rattle.look.specs.declared.Ahead.{Ahead}
use Rattle.look.specs.Look.{most_ticks}
use Rattle.history.specs.CallContracts.{PassesTest, Makes, Looks}
use Rattle.history.specs.History.{History}
use Rattle.history.specs.Demand.{AsDemanded}

-- "the same ticks", as the calls of a history
abbrev pub only_ticks : ℕ → List Call
only_ticks zero = []
only_ticks (suc n) = Call.tick ∷ only_ticks n

-- r, looked from the record m, tells what the ticks did that gave the replies rs and the record m'
pub record Foretold (m : Machine) (r : Ahead) (rs : List Reply) (m' : Machine) : Type 0 where
  pub answer : r.answer ≡ Ok Answer.Done
  pub then : r.then ≡ m'
  pub pulses_x : r.sums.x ≡ pulses_sent code_x rs
  pub pulses_y : r.sums.y ≡ pulses_sent code_y rs
  pub unchanged : r.machine ≡ m

-- "a look-ahead of up to 1,000,000 ticks"
pub record EveryLook : Type 0 where
  -- from any sound record it tells what so many ticks give
  pub ticks : (m : Machine) → PassesTest m → (n : ℕ) → n ≤ most_ticks → (r : Ahead) → Looks m n r
      → (rs : List Reply) (m' : Machine) → History m (only_ticks n) rs m' → Foretold m r rs m'
  -- after any history these are so many more ticks of it; so all that demand 3 says of a history's record, its bounds too, holds of the
  -- record ahead
  pub history : (asked : Settings) (made : Answered) → Makes asked made
      → (cs : List Call) (before : List Reply) (m : Machine) → History made.machine cs before m
      → (n : ℕ) → n ≤ most_ticks → (r : Ahead) → Looks m n r
      → (rs : List Reply) (m' : Machine) → History m (only_ticks n) rs m'
      → Foretold m r rs m' × AsDemanded made.machine.bench.settings (cs ++ only_ticks n) (before ++ rs) r.then

-- for any record and number, refused ones included: the sums are the point ahead less the point, and the machine comes back unchanged
abbrev pub EveryLookSum : Type 0
EveryLookSum =
    (m : Machine) (n : ℕ) (r : Ahead) → Looks m n r →
    (r.sums.x ≡ r.then.bench.at.x -ℤ m.bench.at.x) × (r.sums.y ≡ r.then.bench.at.y -ℤ m.bench.at.y) × (r.machine ≡ m)

-- for any record: ahead of s + t, no further than allowed, is ahead of t from the record ahead of s, with the same answer, and the sums of
-- the two add up
abbrev pub EveryLookOn : Type 0
EveryLookOn =
    (m : Machine) (s t : ℕ) → s + t ≤ most_ticks →
    (far near next : Ahead) → Looks m (s + t) far → Looks m s near → Looks near.then t next →
    (far.answer ≡ next.answer) × (far.then ≡ next.then)
    × (far.sums.x ≡ near.sums.x +ℤ next.sums.x) × (far.sums.y ≡ near.sums.y +ℤ next.sums.y)
