-- What inner code asks of its callers, and what it computes.
use Rattle.std.specs.Prelude.{◌≡◌, Bool, true, false, List, ℤ}
use Rattle.plane.specs.declared.point.Point.{Point}
use Rattle.bench.specs.declared.Bench.{Bench}
use Rattle.machine.specs.Machine.{start_of}
use Rattle.record.specs.computed.Words.{queue_in, len_in, bench_in, sound_words}
use Rattle.calls.specs.Calls.{WordCall}

-- the words of a sound record, its bench, and where the next block starts
pub record Asking (ws : List ℤ) (k : Bench) (start : Point) : Type 0 where
  pub sound : sound_words ws ≡ true
  pub bench_is : k ≡ bench_in ws
  pub start_is : start ≡ start_of k (queue_in ws (len_in ws))

-- the call that sets the mark, or takes it off
abbrev pub marks : (held : Bool) → WordCall
marks true = WordCall.hold
marks false = WordCall.release
