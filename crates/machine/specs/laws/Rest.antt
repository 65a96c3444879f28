-- A machine whose bench stays as it was stays itself: a tick while idle or held.
use Rattle.std.specs.Prelude.{◌≡◌, refl, Bool, true, false, cond, ◌||◌, ℕ, zero, suc, Ok}
use Rattle.std.proofs.Common.{arith}
use Rattle.work.specs.Work.{is_nothing}
use Rattle.bench.specs.computed.Calls.{tick_of as bench_tick}
use Rattle.machine.specs.declared.Machine.{Machine}
use Rattle.machine.specs.computed.Machine.{sound_of}
use Rattle.machine.specs.Machine.{machine_of}
use Rattle.machine.specs.Calls.{first_in, next_of, ticks}
use Rattle.machine.specs.computed.Calls.{tick_of}
use Rattle.machine.specs.laws.Right.{Sound, sound, own_record}

-- nothing comes into work where no block has ended
pub next_own : (m : Machine) → Sound m → next_of m.bench m.queue ≡ m
unfolding next_of
next_own m i = by (is_nothing m.bench.work) refl
  where
    first : (n : ℕ) → n ≡ 0 → first_in m.bench m.queue n ≡ m
    first zero e = own_record m i
    first (suc n) e = absurd (omega arith)

    by : (idle : Bool) → is_nothing m.bench.work ≡ idle
        → cond idle (first_in m.bench m.queue m.queue.len) (machine_of m.bench m.queue) ≡ m
    by true idle = first m.queue.len (i.right.none idle)
    by false busy = own_record m i

-- 01: "Idle or held gives 0 and changes nothing."
pub tick_rests : (m : Machine) → sound_of m ≡ true → m.bench.held || is_nothing m.bench.work ≡ true
    → tick_of m ≡ ticks (Ok 0) m
unfolding tick_of bench_tick
tick_rests m e still = let i = sound m e in rw (e, i.bench, still, next_own m i) refl
