-- The record after ticks, and that it stays as it was where they are no working ones.
use Rattle.std.specs.Prelude.{◌≡◌, true, false}
use Rattle.std.proofs.Math.Path.{refl, ap}
use Rattle.std.proofs.Common.{◌∙◌, arith}
use Prim.Native.Nat.{ℕ, zero, suc, ◌+◌}
use Rattle.bench.specs.declared.Bench.{Bench}
use Rattle.bench.specs.computed.Calls.{tick_of as bench_tick}
use Rattle.finish.specs.computed.Finish.{works_of}
use Rattle.ahead.specs.computed.Ahead.{ticking_of as bench_ticking}
use Rattle.ahead.specs.laws.Ticks.{ticking_rests as bench_rests}
use Rattle.machine.specs.declared.Machine.{Machine}
use Rattle.machine.specs.computed.Machine.{sound_of}
use Rattle.machine.specs.Calls.{next_of}
use Rattle.machine.specs.computed.Calls.{tick_of}
use Rattle.machine.specs.laws.Right.{sound}
use Rattle.machine.specs.laws.Rest.{next_own}
use Rattle.machine.specs.laws.Keeps.{tick_keeps}
use Rattle.look.specs.computed.Look.{ticking_of}

-- ---- any record

pub ticking_sound : (n : ℕ) (m : Machine) → sound_of m ≡ true → sound_of (ticking_of n m).machine ≡ true
unfolding ticking_of
ticking_sound zero m e = e
ticking_sound (suc n) m e = ticking_sound n (tick_of m).machine (tick_keeps m e)

pub ticking_none : (n : ℕ) (m : Machine) → n ≡ 0 → (ticking_of n m).machine ≡ m
unfolding ticking_of
ticking_none n m none = rw none refl

pub ticking_adds : (s t : ℕ) (m : Machine) → (ticking_of (s + t) m).machine ≡ (ticking_of t (ticking_of s m).machine).machine
unfolding ticking_of
ticking_adds zero t m = let none : 0 + t ≡ t = omega arith in ap (λ (n : ℕ). (ticking_of n m).machine) none
ticking_adds (suc s) t m =
    let one : suc s + t ≡ suc (s + t) = omega arith in
    ap (λ (n : ℕ). (ticking_of n m).machine) one ∙ ticking_adds s t (tick_of m).machine

-- ---- a tick of a sound record

-- it is the bench's, and then what comes into work
pub tick_goes_on : (m : Machine) → sound_of m ≡ true → {k : Bench} → (bench_tick m.bench).bench ≡ k
    → (tick_of m).machine ≡ next_of k m.queue
unfolding tick_of
tick_goes_on m e is = rw (e, is) refl

-- ---- idle or held

module _ (m : Machine) (e : sound_of m ≡ true) (rests : works_of m.bench ≡ false) where
  tick_still : (tick_of m).machine ≡ m
  unfolding bench_ticking
  tick_still = let i = sound m e in tick_goes_on m e (bench_rests 1 m.bench i.bench rests) ∙ next_own m i

  pub ticking_still : (n : ℕ) → (ticking_of n m).machine ≡ m
  unfolding ticking_of
  ticking_still zero = refl
  ticking_still (suc n) = ap (λ (k : Machine). (ticking_of n k).machine) tick_still ∙ ticking_still n
