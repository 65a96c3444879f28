-- A text line leaves a sound record sound; one that loads a block was read at a sound record.
use Rattle.std.specs.Prelude.{◌≡◌, refl, Bool, true, false, List, ℕ}
use Rattle.bench.specs.declared.Bench.{Bench}
use Rattle.bench.specs.computed.Bench.{sound_of}
use Rattle.invariant.specs.laws.Calls.{load_keeps}
use Rattle.reader.specs.declared.Reader.{Reader}
use Rattle.reader.specs.declared.text_line.Read.{Read}
use Rattle.reader.specs.computed.TextLine.{read_line_of}
use Rattle.reader.specs.laws.TextLine.{read_either}

module _ (k : Reader) (m : Bench) (bytes : List ℕ) where
  pub read_keeps : sound_of m ≡ true → sound_of (read_line_of k m bytes).bench ≡ true
  read_keeps sound = read_either (λ (n : Bench). sound_of n ≡ true) k m bytes sound (load_keeps m sound)

  not_read : sound_of m ≡ false → (read_line_of k m bytes).answer ≡ Read.Refused 9
  unfolding read_line_of
  not_read unsound = rw unsound

  pub loaded_sound : {bits : ℕ} → (read_line_of k m bytes).answer ≡ Read.Loaded bits → sound_of (read_line_of k m bytes).bench ≡ true
  loaded_sound {bits} e = by (sound_of m) refl
    where
      by : (sound : Bool) → sound_of m ≡ sound → sound_of (read_line_of k m bytes).bench ≡ true
      by true s = read_keeps s
      by false s = let refused = not_read s in cc
