-- At work: ticks are those of one block, after which the next one comes into work, and then the ticks that are left.
use Rattle.std.specs.Prelude.{◌≡◌, Bool}
use Rattle.std.proofs.Math.Path.{refl, subst}
use Rattle.std.proofs.Common.{sym, ap, ◌∙◌}
use Rattle.std.proofs.Math.Bool.{true, false}
use Prim.Native.Nat.{ℕ, zero, suc, ◌+◌, ◌-◌, ◌≤◌}
use native.Mathlib.Omega.{arith}
use Rattle.std.proofs.Math.ListN.{length}
use Rattle.plane.specs.declared.point.Point.{Point}
use Rattle.plane.specs.Byte.{cycles_marked}
use Rattle.plane.specs.laws.Travel.{inside}
use Rattle.queue.specs.declared.Queue.{Queue}
use Rattle.queue.specs.laws.Sound.{queue_sound_lem}
use Rattle.work.specs.declared.Advance.{Advance}
use Rattle.work.specs.declared.Work.{Work}
use Rattle.work.specs.Work.{is_nothing, cycles_left}
use Rattle.work.specs.computed.Work.{advance_of}
use Rattle.work.specs.laws.Keep.{SoundAt}
use Rattle.run.specs.declared.Ran.{Ran}
use Rattle.run.specs.computed.Run.{Strip, in_front, strip_of, ran_of}
use Rattle.run.specs.laws.Keep.{strip_end, strip_left, strip_root}
use Rattle.settings.specs.Settings.{capacity_of}
use Rattle.bench.specs.declared.Bench.{Bench}
use Rattle.bench.specs.declared.Ticked.{Ticked}
use Rattle.bench.specs.computed.Bench.{sound_of as bench_sound}
use Rattle.bench.specs.Bench.{moved_of}
use Rattle.bench.specs.laws.Sound.{sound as bench_parts}
use Rattle.bench.specs.laws.Calls.{tick_works}
use Rattle.finish.specs.computed.Finish.{works_of}
use Rattle.finish.specs.laws.Record.{AtWork, works}
use Rattle.ahead.specs.laws.Ticks.{left_by, ticks_of, ticking_sound as ticks_sound, ticking_works as bench_works}
use Rattle.machine.specs.declared.Machine.{Machine}
use Rattle.machine.specs.computed.Machine.{sound_of}
use Rattle.machine.specs.Machine.{machine_of}
use Rattle.machine.specs.Calls.{next_of}
use Rattle.machine.specs.computed.Calls.{tick_of}
use Rattle.machine.specs.laws.Right.{sound}
use Rattle.machine.specs.laws.Onward.{Onward}
use Rattle.machine.specs.laws.Next.{coming}
use Rattle.machine.specs.laws.Keeps.{next_sound, tick_keeps}
use Rattle.look.specs.declared.Passed.{Passed}
use Rattle.look.specs.computed.Look.{ticking_of, pass_of}
use Rattle.machine.specs.laws.Rest.{next_own}
use Rattle.look.specs.laws.Ticks.{tick_goes_on}

-- ---- the ticks of one block: the bench after them

module _ (k : Bench) (a : AtWork k) (n : ℕ) where
  abbrev q0 : ℕ
  q0 = capacity_of k.settings

  here : SoundAt q0 k.settings.travel k.at k.remainder k.work
  here = let p = bench_parts a.sound in record { inside = inside p.in_travel; below = p.below; sound = p.work }

  strip_onward : Onward k (left_by k (ticks_of k n))
  unfolding moved_of
  strip_onward =
      record {
        settings = refl;
        sound = subst (λ (k' : Bench). bench_sound k' ≡ true) (bench_works n k a) (ticks_sound n k a.sound);
        end = strip_end q0 k.settings.travel n k.at k.remainder k.work here;
        root = strip_root q0 n k.at k.remainder k.work;
      }

  strip_less : cycles_left k.at k.work
      ≡ cycles_left (left_by k (ticks_of k n)).at (left_by k (ticks_of k n)).work + cycles_marked (ticks_of k n).bytes
  unfolding moved_of
  strip_less = omega (arith, strip_left q0 k.settings.travel n k.at k.remainder k.work here a.busy)

-- ---- they are no more than asked for, and one at least

module _ (q0 : ℕ) where
  strip_most : (n : ℕ) (at : Point) (r : ℕ) (w : Work) → length (strip_of q0 n at r w).bytes ≤ n
  unfolding strip_of
  strip_most zero at r w = omega arith
  strip_most (suc n) at r w =
      let a = advance_of q0 at r w in
      by (is_nothing a.work) a (strip_of q0 n a.at a.remainder a.work) (strip_most n a.at a.remainder a.work)
    where
      by : (ended : Bool) (a : Advance) (s : Strip) → length s.bytes ≤ n → length (in_front ended a s).bytes ≤ suc n
      by true a s h = omega arith
      by false a s h = omega arith

  strip_some : (n : ℕ) (at : Point) (r : ℕ) (w : Work) → 1 ≤ n → 1 ≤ length (strip_of q0 n at r w).bytes
  unfolding strip_of
  strip_some zero at r w h = absurd (omega arith)
  strip_some (suc n) at r w h =
      let a = advance_of q0 at r w in by (is_nothing a.work) a (strip_of q0 n a.at a.remainder a.work)
    where
      by : (ended : Bool) (a : Advance) (s : Strip) → 1 ≤ length (in_front ended a s).bytes
      by true a s = omega arith
      by false a s = omega arith

-- ---- one working tick

module _ (m : Machine) (e : sound_of m ≡ true) (a : AtWork m.bench) where
  abbrev k : Bench
  k = m.bench

  abbrev pub next : Advance
  next = advance_of (capacity_of k.settings) k.at k.remainder k.work

  abbrev pub moved : Bench
  moved = moved_of k next.at next.remainder next.work

  pub tick : (tick_of m).machine ≡ next_of moved m.queue
  tick = tick_goes_on m e (sym (ap (λ (t : Ticked). t.bench) (tick_works k a.sound a.free a.busy refl)))

  -- the block goes on
  module _ (busy : is_nothing next.work ≡ false) where
    pub same : next_of moved m.queue ≡ machine_of moved m.queue
    unfolding next_of moved_of
    same = rw busy refl

    pub kept : sound_of (machine_of moved m.queue) ≡ true
    kept = subst (λ (m' : Machine). sound_of m' ≡ true) (tick ∙ same) (tick_keeps m e)

    pub working_on : AtWork moved
    unfolding machine_of moved_of
    working_on = record { sound = (sound (machine_of moved m.queue) kept).bench; free = a.free; busy = busy }

-- ---- all of them, and those that are left

pub ticking_works : (n : ℕ) (m : Machine) → sound_of m ≡ true → AtWork m.bench
    → (let p = pass_of m n in (ticking_of n m).machine ≡ (ticking_of (n - p.ticks) p.machine).machine)
unfolding ticking_of pass_of strip_of moved_of machine_of
ticking_works zero m e a = sym (next_own m (sound m e))
ticking_works (suc n) m e a =
    ap (λ (m' : Machine). (ticking_of n m').machine) (tick m e a)
    ∙ by (is_nothing (next m e a).work) refl
    (λ busy. ticking_works n (machine_of (moved m e a) m.queue) (kept m e a busy) (working_on m e a busy))
  where
    q : Queue
    q = m.queue

    k' : Bench
    k' = moved m e a

    rest : Strip
    rest = ticks_of k' n

    After : (ticks : ℕ) → Strip → Machine
    After ticks s = (ticking_of (ticks - length s.bytes) (next_of (left_by k' s) q)).machine

    one_less : (ticks : ℕ) → n - ticks ≡ suc n - suc ticks
    one_less ticks = omega arith

    by : (ended : Bool) → is_nothing (next m e a).work ≡ ended
        → (is_nothing (next m e a).work ≡ false → (ticking_of n (machine_of k' q)).machine ≡ After n rest)
        → (ticking_of n (next_of k' q)).machine ≡ After (suc n) (in_front ended (next m e a) rest)
    by true none later = let last : n ≡ suc n - 1 = omega arith in ap (λ (left : ℕ). (ticking_of left (next_of k' q)).machine) last
    by false more later =
        ap (λ (m' : Machine). (ticking_of n m').machine) (same m e a more) ∙ later more
        ∙ ap (λ (left : ℕ). (ticking_of left (next_of (left_by k' rest) q)).machine) (one_less (length rest.bytes))

pass_sound : (m : Machine) (n : ℕ) → sound_of m ≡ true → AtWork m.bench → sound_of (pass_of m n).machine ≡ true
unfolding pass_of
pass_sound m n e a =
    let o = strip_onward m.bench a n in
    next_sound (left_by m.bench (ticks_of m.bench n)) m.queue o.sound
    (queue_sound_lem (coming (sound m e).right o {root' = m.root} refl refl).queue)

-- ---- a pass of the code

module _ (m : Machine) (n : ℕ) {q0 : ℕ} {r : Ran} {k' : Bench} (capacity : q0 ≡ capacity_of m.bench.settings)
    (skip : r ≡ ran_of (strip_of q0 n m.bench.at m.bench.remainder m.bench.work))
    (moves : k' ≡ moved_of m.bench r.at r.remainder r.work) where
  pub skip_onward : AtWork m.bench → Onward m.bench k'
  skip_onward a = rw (moves, skip, capacity) (strip_onward m.bench a n)

  pub skip_less : AtWork m.bench → cycles_left m.bench.at m.bench.work ≡ cycles_left k'.at k'.work + r.cycles
  skip_less a = rw (moves, skip, capacity) (strip_less m.bench a n)

  pub passes : {m' : Machine} → m' ≡ next_of k' m.queue → ◌≡◌ {A = Passed} (record { machine = m'; ticks = r.ticks }) (pass_of m n)
  unfolding pass_of
  passes next = rw (next, moves, skip, capacity) refl

-- and what it answers
module _ (m : Machine) (n : ℕ) {p : Passed} (is : p ≡ pass_of m n) where
  pub passed_most : p.ticks ≤ n
  unfolding pass_of
  passed_most = let k = m.bench in rw is (strip_most (capacity_of k.settings) n k.at k.remainder k.work)

  pub passed_some : 1 ≤ n → 1 ≤ p.ticks
  unfolding pass_of
  passed_some some = let k = m.bench in rw is (strip_some (capacity_of k.settings) n k.at k.remainder k.work some)

  pub passed_on : sound_of m ≡ true → works_of m.bench ≡ true
      → (sound_of p.machine ≡ true) × ((ticking_of n m).machine ≡ (ticking_of (n - p.ticks) p.machine).machine)
  passed_on e work = let a = works work in rw is (pass_sound m n e a, ticking_works n m e a)
