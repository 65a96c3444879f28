-- What specs/CallContracts.antt says of each call is what the checker hands to a caller of it, `Learnt`: the two are one type, by
-- computing. A clause in src/ that says anything else makes its line fail here.
use Rattle.std.specs.Prelude.{◌≡◌, refl, Bool, List, ℕ}
use Rattle.std.specs.Borrow.{Bor, MutBor}
use contract.Lifetimes.{Lfts}
use Rattle.block.specs.declared.Block.{Block}
use Rattle.settings.specs.declared.Settings.{Settings}
use Rattle.machine.specs.declared.Machine.{Machine}
use Rattle.machine.specs.declared.Answered.{Answered}
use Rattle.machine.specs.declared.Ticked.{Ticked}
use Rattle.machine.specs.declared.Ran.{Ran}
use Rattle.reader.specs.declared.Reader.{Reader}
use Rattle.textline.specs.declared.ReadLine.{ReadLine}
use Rattle.look.specs.declared.Ahead.{Ahead}
use Rattle.machine.proofs.Machine.is_sound.Reads as sound_reads
use Rattle.machine.proofs.Machine.make.Reads as make_reads
use Rattle.machine.proofs.Machine.load.Reads as load_reads
use Rattle.machine.proofs.Machine.tick.Reads as tick_reads
use Rattle.machine.proofs.Machine.run.Reads as run_reads
use Rattle.machine.proofs.Machine.hold.Reads as hold_reads
use Rattle.machine.proofs.Machine.release.Reads as release_reads
use Rattle.machine.proofs.Machine.stop.Reads as stop_reads
use Rattle.textline.proofs.read_line.Reads as line_reads
use Rattle.look.proofs.look_ahead.Reads as look_reads
use Rattle.history.specs.CallContracts.{Makes, Loads, Ticks, Runs, Holds, Releases, Stops, ReadsLine, Tests, Looks}

pub makes_is : (s : Settings) (r : Answered) → Makes s r ≡ make_reads.Learnt tt (s, tt) r (s, tt)
makes_is s r = refl

pub loads_is : (m : Machine) (b : Block) (r : Answered) → Loads m b r ≡ load_reads.Learnt tt (m, (b, tt)) r (m, (b, tt))
loads_is m b r = refl

pub ticks_is : (m : Machine) (r : Ticked) → Ticks m r ≡ tick_reads.Learnt tt (m, tt) r (m, tt)
ticks_is m r = refl

pub runs_is : (κs : Lfts 1) (m : Machine) (budget : ℕ) (out out' : MutBor (List ℕ)) (r : Ran)
    → Runs κs m budget out out' r ≡ run_reads.Learnt κs (m, (budget, (out, tt))) r (m, (budget, (out', tt)))
runs_is κs m budget out out' r = refl

pub holds_is : (m : Machine) (r : Answered) → Holds m r ≡ hold_reads.Learnt tt (m, tt) r (m, tt)
holds_is m r = refl

pub releases_is : (m : Machine) (r : Answered) → Releases m r ≡ release_reads.Learnt tt (m, tt) r (m, tt)
releases_is m r = refl

pub stops_is : (m : Machine) (r : Answered) → Stops m r ≡ stop_reads.Learnt tt (m, tt) r (m, tt)
stops_is m r = refl

pub reads_line_is : (κs : Lfts 1) (k : Reader) (m : Machine) (line : Bor (List ℕ)) (r : ReadLine)
    → ReadsLine κs k m line r ≡ line_reads.Learnt κs (k, (m, (line, tt))) r (k, (m, (line, tt)))
reads_line_is κs k m line r = refl

pub tests_is : (m : Machine) (r : Bool) → Tests m r ≡ sound_reads.Learnt tt (m, tt) r (m, tt)
tests_is m r = refl

pub looks_is : (m : Machine) (n : ℕ) (r : Ahead) → Looks m n r ≡ look_reads.Learnt tt (m, (n, tt)) r (m, (n, tt))
looks_is m n r = refl
