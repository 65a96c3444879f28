-- Every list of calls has a history from every record: each call's contract is an equation, which its definition meets.
use Rattle.std.specs.Prelude.{refl, List, [], ◌∷◌, ℕ, length, replicate, take}
use Rattle.std.proofs.Common.{subst}
use Rattle.std.proofs.lemmas.List.{length-replicate}
use denote.Ref.{MutBor, at_last}
use contract.Lifetimes.{Lfts}
use Rattle.run.specs.computed.Run.{written}
use Rattle.machine.specs.declared.Machine.{Machine}
use Rattle.machine.specs.computed.Calls.{load_of, tick_of, hold_of, release_of, stop_of}
use Rattle.machine.specs.computed.Run.{run_of}
use Rattle.book.specs.Book.{Call}
use Rattle.history.specs.Reply.{run_reply}
use Rattle.history.specs.History.{History, HasHistory}

-- at any lifetime, and with any buffer's pointer
some_history : Lfts 1 → MutBor (List ℕ) → (cs : List Call) (m : Machine) → HasHistory m cs
some_history κs p [] m = record { replies = []; last = m; history = History.ends }
some_history κs p (Call.load b ∷ cs) m =
    let s = some_history κs p cs (load_of m b).machine in
    record { replies = _; last = s.last; history = History.loads b (load_of m b) refl s.history }
some_history κs p (Call.tick ∷ cs) m =
    let s = some_history κs p cs (tick_of m).machine in
    record { replies = _; last = s.last; history = History.ticks (tick_of m) refl s.history }
some_history κs p (Call.run budget buffer ∷ cs) m =
    let old : List ℕ = replicate buffer 0 in
    let k = run_of m budget (length old) in
    let new = written k.bytes old in
    let s = some_history κs p cs k.ran.machine in
    let rs = run_reply k.ran.report k.ran.ticks (take k.ran.ticks new) ∷ s.replies in
    record {
      replies = rs;
      last = s.last;
      history = subst (λ (n : ℕ). History m (Call.run budget n ∷ cs) rs s.last) (length-replicate buffer 0)
          (History.runs κs budget (at_last p old) (at_last p new) k.ran (refl, refl) s.history);
    }
some_history κs p (Call.hold ∷ cs) m =
    let s = some_history κs p cs (hold_of m).machine in
    record { replies = _; last = s.last; history = History.holds (hold_of m) refl s.history }
some_history κs p (Call.release ∷ cs) m =
    let s = some_history κs p cs (release_of m).machine in
    record { replies = _; last = s.last; history = History.releases (release_of m) refl s.history }
some_history κs p (Call.stop ∷ cs) m =
    let s = some_history κs p cs (stop_of m).machine in
    record { replies = _; last = s.last; history = History.stops (stop_of m) refl s.history }

pub any_history : (m : Machine) (cs : List Call) → HasHistory m cs
any_history m cs = some_history ([], tt) (record { ref_ptr = (0, 0); ghost_name = 0; now = [] }) cs m
