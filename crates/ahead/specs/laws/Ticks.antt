-- The record after ticks: as it was where they are no working ones, else what a run leaves; and the bytes of a run's first ticks.
use Rattle.std.specs.Prelude.{◌≡◌, Bool, true, false, ◌&&◌, ◌||◌, not, List, [], ◌∷◌, length, take, Ok}
use Rattle.std.proofs.Math.Path.{refl, ap}
use Rattle.std.proofs.Common.{sym, subst, ◌∙◌, arith}
use Prim.Native.Nat.{ℕ, zero, suc, ◌≤◌}
use Rattle.work.specs.declared.Advance.{Advance}
use Rattle.work.specs.Work.{is_nothing}
use Rattle.work.specs.computed.Work.{advance_of}
use Rattle.run.specs.computed.Run.{Strip, in_front, strip_of}
use Rattle.settings.specs.Settings.{capacity_of}
use Rattle.bench.specs.declared.Bench.{Bench}
use Rattle.bench.specs.declared.Ticked.{Ticked}
use Rattle.bench.specs.computed.Bench.{sound_of}
use Rattle.bench.specs.Bench.{moved_of}
use Rattle.bench.specs.computed.Calls.{ticks, working, tick_of}
use Rattle.bench.specs.laws.Calls.{tick_works}
use Rattle.invariant.specs.laws.Calls.{tick_keeps}
use Rattle.finish.specs.computed.Finish.{works_of}
use Rattle.finish.specs.laws.Record.{AtWork}
use Rattle.ahead.specs.computed.Ahead.{ticking_of}
use Rattle.ahead.specs.computed.Ahead.{in_front as tick_in_front}

-- ---- any sound record

pub ticking_sound : (n : ℕ) (m : Bench) → sound_of m ≡ true → sound_of (ticking_of n m).bench ≡ true
unfolding ticking_of
ticking_sound zero m e = e
ticking_sound (suc n) m e = ticking_sound n (tick_of m).bench (tick_keeps m e)

-- ---- idle or held

module _ (m : Bench) (e : sound_of m ≡ true) (still : m.held || is_nothing m.work ≡ true) where
  tick_still : tick_of m ≡ ticks (Ok 0) m
  unfolding tick_of
  tick_still = rw (e, still)

  ticking_still : (n : ℕ) → (ticking_of n m).bench ≡ m
  unfolding ticking_of
  ticking_still zero = refl
  ticking_still (suc n) = ap (λ (k : Bench). (ticking_of n k).bench) (rw tick_still) ∙ ticking_still n

pub ticking_rests : (n : ℕ) (m : Bench) → sound_of m ≡ true → works_of m ≡ false → (ticking_of n m).bench ≡ m
unfolding works_of
ticking_rests n m e rests = ticking_still m e (by m.held (is_nothing m.work) (rw e at rests)) n
  where
    by : (held idle : Bool) → true && not (idle || held) ≡ false → held || idle ≡ true
    by true idle f = refl
    by false true f = refl
    by false false f = sym f

-- ---- at work

abbrev pub left_by : Bench → Strip → Bench
left_by m s = moved_of m s.at s.remainder s.work

-- the bytes and the record of so many working ticks, or fewer where the block ends
abbrev pub ticks_of : Bench → (most : ℕ) → Strip
ticks_of m most = strip_of (capacity_of m.settings) most m.at m.remainder m.work

-- one working tick
module _ (m : Bench) where
  abbrev next : Advance
  next = advance_of (capacity_of m.settings) m.at m.remainder m.work

  abbrev moved : Bench
  moved = moved_of m next.at next.remainder next.work

  module _ (a : AtWork m) where
    tick : working m next ≡ tick_of m
    tick = tick_works m a.sound a.free a.busy refl

    kept : sound_of moved ≡ true
    kept = subst (λ (t : Ticked). sound_of t.bench ≡ true) (sym tick) (tick_keeps m a.sound)

    working_on : is_nothing next.work ≡ false → AtWork moved
    unfolding moved_of
    working_on busy = record { sound = kept; free = a.free; busy = busy }

pub ticking_works : (n : ℕ) (m : Bench) → AtWork m → (ticking_of n m).bench ≡ left_by m (ticks_of m n)
unfolding ticking_of strip_of moved_of
ticking_works zero m a = refl
ticking_works (suc n) m a =
    ap (λ (t : Ticked). (ticking_of n t.bench).bench) (sym (tick m a))
    ∙ by (is_nothing (next m).work) refl (λ busy. ticking_works n (moved m) (working_on m a busy))
  where
    -- the ticks after a block's end are idle ones
    idle : (held none : Bool) → none ≡ true → held || none ≡ true
    idle true none e = refl
    idle false none e = e

    rest : Strip
    rest = ticks_of (moved m) n

    by : (ended : Bool) → is_nothing (next m).work ≡ ended
        → (is_nothing (next m).work ≡ false → (ticking_of n (moved m)).bench ≡ left_by m rest)
        → (ticking_of n (moved m)).bench ≡ left_by m (in_front ended (next m) rest)
    by true none later = ticking_still (moved m) (kept m a) (idle m.held (is_nothing (next m).work) none) n
    by false more later = later more

-- the bytes of the first ticks are the first of the run's
pub ticking_bytes : (n most : ℕ) (m : Bench) → AtWork m → n ≤ length (ticks_of m most).bytes
    → (ticking_of n m).bytes ≡ take n (ticks_of m most).bytes
unfolding ticking_of strip_of moved_of
ticking_bytes zero most m a few = refl
ticking_bytes (suc n) zero m a few = absurd (omega arith)
ticking_bytes (suc n) (suc most) m a few =
    ap (λ (t : Ticked). tick_in_front t.tick (ticking_of n t.bench).bytes) (sym (tick m a))
    ∙ by (is_nothing (next m).work) refl few (λ busy. ticking_bytes n most (moved m) (working_on m a busy))
  where
    rest : Strip
    rest = ticks_of (moved m) most

    by : (ended : Bool) → is_nothing (next m).work ≡ ended → suc n ≤ length (in_front ended (next m) rest).bytes
        → (is_nothing (next m).work ≡ false → n ≤ length rest.bytes → (ticking_of n (moved m)).bytes ≡ take n rest.bytes)
        → (next m).byte ∷ (ticking_of n (moved m)).bytes ≡ take (suc n) (in_front ended (next m) rest).bytes
    by true none few later =
        let last : n ≡ 0 = omega arith in
        ap (λ (k : ℕ). (next m).byte ∷ (ticking_of k (moved m)).bytes) last
        ∙ sym (ap (λ (k : ℕ). take (suc k) ((next m).byte ∷ [])) last)
    by false more few later = ap (λ (bytes : List ℕ). (next m).byte ∷ bytes) (later more (omega arith))
