-- The pulses of ticks lead from point to point, so their sum is the way. A block that comes into work does not move the point.
use Rattle.std.specs.Prelude.{◌≡◌, refl, Bool, true, false, cond, List, [], ℕ, zero, suc, ℤ, ◌+ℤ◌, ◌-ℤ◌}
use Rattle.std.proofs.Common.{sym, ap, ◌∙◌, arith}
use Rattle.whole.specs.laws.Difference.{ring, var, ◌⊕◌, ◌⊖◌}
use Rattle.plane.specs.declared.point.Point.{Point}
use Rattle.plane.specs.Byte.{code_x, code_y}
use Rattle.queue.specs.declared.Queue.{Queue}
use Rattle.work.specs.Work.{is_nothing}
use Rattle.bench.specs.declared.Bench.{Bench}
use Rattle.bench.specs.Bench.{moved_of}
use Rattle.bench.specs.computed.Calls.{tick_of as bench_tick}
use Rattle.ahead.specs.computed.Ahead.{in_front, ticking_of as bench_ticking}
use Rattle.ahead.specs.laws.Sums.{Leads, leads_none, after_tick, ticking_leads as bench_leads}
use Rattle.book.specs.Sums.{pulses_in}
use Rattle.machine.specs.declared.Machine.{Machine}
use Rattle.machine.specs.computed.Machine.{sound_of}
use Rattle.machine.specs.Machine.{machine_of}
use Rattle.machine.specs.Calls.{first_in, next_of}
use Rattle.machine.specs.computed.Calls.{tick_of}
use Rattle.machine.specs.laws.Right.{sound}
use Rattle.machine.specs.laws.Keeps.{tick_keeps}
use Rattle.look.specs.computed.Look.{ticking_of, sums_of, way_of}

-- ---- a tick

pub next_stands : (k : Bench) (q : Queue) → (next_of k q).bench.at ≡ k.at
unfolding next_of machine_of moved_of
next_stands k q = by (is_nothing k.work) q.len
  where
    by : (idle : Bool) (n : ℕ) → (cond idle (first_in k q n) (machine_of k q)).bench.at ≡ k.at
    by true zero = refl
    by true (suc n) = refl
    by false n = refl

tick_leads : (m : Machine) → sound_of m ≡ true → Leads m.bench.at (in_front (tick_of m).tick []) (tick_of m).machine.bench.at
unfolding tick_of bench_ticking
tick_leads m e =
    let k = m.bench in
    let after = (bench_tick k).bench in
    rw (e, next_stands after m.queue) (bench_leads 1 k (sound m e).bench)

-- ---- ticks one after the other

pub ticking_leads : (n : ℕ) (m : Machine) → sound_of m ≡ true
    → Leads m.bench.at (ticking_of n m).bytes (ticking_of n m).machine.bench.at
unfolding ticking_of
ticking_leads zero m e = leads_none m.bench.at
ticking_leads (suc n) m e =
    let next = (tick_of m).machine in
    after_tick (tick_of m).tick (ticking_of n next).bytes (tick_leads m e) (ticking_leads n next (tick_keeps m e))

-- so the sum is the way
pub leads_way : {from to : Point} {bytes : List ℕ} → Leads from bytes to → sums_of bytes ≡ way_of from to
leads_way {from} {to} {bytes} l =
    let x = axis from.x to.x (pulses_in code_x bytes) l.x in
    let y = axis from.y to.y (pulses_in code_y bytes) l.y in
    λ i. record { x = x i; y = y i }
  where
    axis : (u v s : ℤ) → v ≡ u +ℤ s → s ≡ v -ℤ u
    axis u v s e = ring (var s) (var u ⊕ var s ⊖ var u) (omega arith) ∙ ap (λ (z : ℤ). z -ℤ u) (sym e)
