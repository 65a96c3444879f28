-- What each call promises, as its contract in src/ says it: the same words, over what is given and what comes back. So a history speaks of
-- the code and of no model beside it: proofs/Promised.antt proves that this is what the checker hands to a caller.
use Rattle.std.specs.Prelude.{◌≡◌, Bool, true, List, ℕ, length}
use Rattle.std.specs.Borrow.{Bor, MutBor}
use contract.Lifetimes.{Lfts}
use Rattle.block.specs.declared.Block.{Block}
use Rattle.settings.specs.declared.Settings.{Settings}
use Rattle.run.specs.computed.Run.{written}
use Rattle.machine.specs.declared.Machine.{Machine}
use Rattle.machine.specs.declared.Answered.{Answered}
use Rattle.machine.specs.declared.Ticked.{Ticked}
use Rattle.machine.specs.declared.Ran.{Ran}
use Rattle.machine.specs.computed.Machine.{sound_of}
use Rattle.machine.specs.computed.Calls.{make_of, load_of, tick_of, hold_of, release_of, stop_of}
use Rattle.machine.specs.computed.Run.{run_of}
use Rattle.reader.specs.declared.Reader.{Reader}
use Rattle.textline.specs.declared.ReadLine.{ReadLine}
use Rattle.textline.specs.computed.TextLine.{read_line_of}
use Rattle.look.specs.declared.Ahead.{Ahead}
use Rattle.look.specs.computed.Look.{ahead_of}

-- make, from settings, may return r
abbrev pub Makes : Settings → Answered → Type 0
Makes s r = r ≡ make_of s

abbrev pub Loads : Machine → Block → Answered → Type 0
Loads m b r = r ≡ load_of m b

abbrev pub Ticks : Machine → Ticked → Type 0
Ticks m r = r ≡ tick_of m

-- run, lent the buffer out, may return r and leave the buffer as out'
abbrev pub Runs : Lfts 1 → Machine → (budget : ℕ) (out out' : MutBor (List ℕ)) → Ran → Type 0
Runs κs m budget out out' r =
    (r ≡ (run_of m budget (length out.now)).ran) × (out'.now ≡ written (run_of m budget (length out.now)).bytes out.now)

abbrev pub Holds : Machine → Answered → Type 0
Holds m r = r ≡ hold_of m

abbrev pub Releases : Machine → Answered → Type 0
Releases m r = r ≡ release_of m

abbrev pub Stops : Machine → Answered → Type 0
Stops m r = r ≡ stop_of m

-- read_line, at a reader and a record and lent the bytes of a line, may return r
abbrev pub ReadsLine : Lfts 1 → Reader → Machine → Bor (List ℕ) → ReadLine → Type 0
ReadsLine κs k m line r = r ≡ read_line_of k m line.now

-- is_sound, the code's own test of a record, may answer r; that it says so of 01's sound records alone is the claim `every_record`
abbrev pub Tests : Machine → Bool → Type 0
Tests m r = r ≡ sound_of m

abbrev pub PassesTest : Machine → Type 0
PassesTest m = Tests m true

-- look_ahead, on a record and a number of ticks, may return r
abbrev pub Looks : Machine → (ticks : ℕ) → Ahead → Type 0
Looks m n r = r ≡ ahead_of m n
