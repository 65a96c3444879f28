-- What the scan asks of what it has gathered.
use Rattle.std.specs.Prelude.{ℕ, ◌<◌, ◌≡◌, List, false, length}
use Rattle.letters.specs.declared.letter.Letter.{Letter}
use Rattle.letters.specs.declared.found.Found.{Found}
use Rattle.letters.specs.computed.Found.{has_of}

-- a letter that does not stand is in no set
pub record Gathered (f : Found) (ms : List ℕ) : Type 0 where
  pub stands : f.stands < 128
  pub twice : f.twice < 128
  pub negative : f.negative < 128
  pub places : length ms ≡ 7
  pub not_twice : (l : Letter) → has_of f.stands l ≡ false → has_of f.twice l ≡ false
  pub not_negative : (l : Letter) → has_of f.stands l ≡ false → has_of f.negative l ≡ false
