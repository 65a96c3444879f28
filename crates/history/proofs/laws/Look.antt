-- A look-ahead on a sound record, and so after any history, tells what that many more ticks give.
use Rattle.std.specs.Prelude.{◌≡◌, refl, true, List, ◌++◌, ℕ, zero, suc, ◌≤◌, ◌+ℤ◌, Result, Ok, Err}
use Rattle.std.proofs.Common.{sym, ap, ◌∙◌}
use Rattle.std.proofs.Math.IntN.{+ℤ_idl, +ℤ_idr}
use Rattle.question.specs.declared.Question.{Question}
use Rattle.plane.specs.Pulse.{pulse_of}
use Rattle.plane.specs.Byte.{code_x, code_y}
use Rattle.machine.specs.declared.Machine.{Machine}
use Rattle.machine.specs.computed.Machine.{sound_of}
use Rattle.machine.specs.laws.Keeps.{make_keeps}
use Rattle.book.specs.Book.{Call, Reply}
use Rattle.book.specs.Sums.{tick_bytes, pulses_in, pulses_sent}
use Rattle.look.specs.declared.Ahead.{Ahead}
use Rattle.ahead.specs.computed.Ahead.{in_front}
use Rattle.look.specs.computed.Look.{Ticking, ticking_of, looked}
use Rattle.look.specs.Look.{most_ticks}
use Rattle.look.specs.laws.Ahead.{looks, unchanged, sums_are, ahead_adds, sums_add}
use Rattle.history.specs.Reply.{tick_reply}
use Rattle.history.specs.History.{History}
use Rattle.history.specs.CallContracts.{Looks}
use Rattle.history.specs.Look.{only_ticks, Foretold, EveryLook, EveryLookSum, EveryLookOn}
use Rattle.history.proofs.laws.Claim.{every_history, stays_sound}

-- a history and then another are one
pub joined : {m k m' : Machine} {cs ds : List Call} {rs ss : List Reply} → History m cs rs k → History k ds ss m'
    → History m (cs ++ ds) (rs ++ ss) m'
joined History.ends u = u
joined (History.loads b r h t) u = History.loads b r h (joined t u)
joined (History.ticks r h t) u = History.ticks r h (joined t u)
joined (History.runs κs budget out out' r h t) u = History.runs κs budget out out' r h (joined t u)
joined (History.holds r h t) u = History.holds r h (joined t u)
joined (History.releases r h t) u = History.releases r h (joined t u)
joined (History.stops r h t) u = History.stops r h (joined t u)

-- the ticks of a history are ticks one after the other
record OneByOne (t : Ticking) (rs : List Reply) (m' : Machine) : Type 0 where
  leads : t.machine ≡ m'
  x : pulses_in code_x t.bytes ≡ pulses_sent code_x rs
  y : pulses_in code_y t.bytes ≡ pulses_sent code_y rs

sent : (code : ℕ → ℕ) (k : Result ℕ Question) (bytes : List ℕ) (rs : List Reply) → pulses_in code bytes ≡ pulses_sent code rs
    → pulses_in code (in_front k bytes) ≡ pulses_in code (tick_bytes (tick_reply k)) +ℤ pulses_sent code rs
sent code (Ok b) bytes rs e = rw (e, +ℤ_idr (pulse_of (code b)))
sent code (Err n) bytes rs e = e ∙ sym (+ℤ_idl (pulses_sent code rs))

one_by_one : (n : ℕ) {m m' : Machine} {rs : List Reply} → History m (only_ticks n) rs m' → OneByOne (ticking_of n m) rs m'
unfolding ticking_of pulses_sent
one_by_one zero History.ends = record { leads = refl; x = refl; y = refl }
one_by_one (suc n) {m} {m'} (History.ticks {rs = rs} r h t) =
    let s : OneByOne (ticking_of n r.machine) rs m' = one_by_one n t in
    let bytes = (ticking_of n r.machine).bytes in
    rw (← h) (record { leads = s.leads; x = sent code_x r.tick bytes rs s.x; y = sent code_y r.tick bytes rs s.y })

foretold : (m : Machine) → sound_of m ≡ true → (n : ℕ) → n ≤ most_ticks → (r : Ahead) → Looks m n r
    → (rs : List Reply) (m' : Machine) → History m (only_ticks n) rs m' → Foretold m r rs m'
foretold m sound n most r look rs m' more =
    let e : r ≡ looked m (ticking_of n m) = look ∙ looks m n sound most in
    let s = one_by_one n more in
    record {
      answer = ap (λ (a : Ahead). a.answer) e;
      then = ap (λ (a : Ahead). a.then) e ∙ s.leads;
      pulses_x = ap (λ (a : Ahead). a.sums.x) e ∙ s.x;
      pulses_y = ap (λ (a : Ahead). a.sums.y) e ∙ s.y;
      unchanged = ap (λ (a : Ahead). a.machine) e;
    }

pub every_look : EveryLook
every_look =
    record {
      ticks = λ m p. foretold m (sym p);
      history = λ asked made h cs before m t n most r look rs m' more.
          let f = foretold m (stays_sound t (rw h (make_keeps asked))) n most r look rs m' more in
          (f, rw f.then (every_history asked made h (cs ++ only_ticks n) (before ++ rs) m' (joined t more)));
    }

-- ---- of any record

pub every_look_sum : EveryLookSum
every_look_sum m n r look = rw (look, sums_are m n) (refl, refl, unchanged m n)

pub every_look_on : EveryLookOn
every_look_on m s t most far near next f l g =
    let on = ahead_adds s t m most in rw (g, f, l, sums_add s t m most) (on.0, on.1, refl, refl)
