-- After ticks: what waits stays right behind the block in work, and the first of it comes into work at a block's end.
use Rattle.std.proofs.Math.Path.{◌≡◌, sym, ap}
use Rattle.std.specs.Prelude.{refl, true, false}
use Rattle.std.proofs.Common.{subst, ◌∙◌}
use mathlib.Core.List.{List}
use Prim.Native.Nat.{ℕ, zero, suc, ◌+◌, ◌-◌, ◌≤◌}
use native.Mathlib.Omega.{arith}
use Rattle.plane.specs.declared.point.Point.{Point}
use Rattle.block.specs.declared.Block.{Block}
use Rattle.block.specs.Block.{block_cycles}
use Rattle.block.specs.Chain.{chain_cycles}
use Rattle.block.specs.computed.Chain.{Accepted}
use Rattle.queue.specs.declared.Queue.{Queue}
use Rattle.queue.specs.Queue.{waiting, first_of, popped_of}
use Rattle.queue.specs.computed.Queue.{queue_sound}
use Rattle.queue.specs.laws.Sound.{QueueSound, queue_sound_lem, queue_test, First, first_sound}
use Rattle.queue.specs.laws.Waiting.{pop_waiting}
use Rattle.work.specs.declared.Work.{Work}
use Rattle.work.specs.Work.{is_nothing, cycles_left, end_of, begun_of}
use Rattle.work.specs.Work.{root_in}
use Rattle.work.specs.laws.Left.{nothing_is, begun_left, begun_end, begun_root}
use Rattle.settings.specs.declared.Settings.{Settings}
use Rattle.settings.specs.Settings.{capacity_of}
use Rattle.bench.specs.declared.Bench.{Bench}
use Rattle.bench.specs.Bench.{moved_of}
use Rattle.machine.specs.declared.Machine.{Machine}
use Rattle.machine.specs.Machine.{to_do, machine_of}
use Rattle.machine.specs.Calls.{beginning, first_in, next_of}
use Rattle.machine.specs.computed.Asked.{Coming}
use Rattle.machine.specs.laws.Right.{WaitingRight}
use Rattle.machine.specs.laws.Onward.{Onward, wide, here_inside}

-- ---- the figure after ticks, and what the code asks of a bench after them

module _ {k k' : Bench} {root left : ℕ} {q : Queue}
    (i : WaitingRight (capacity_of k.settings) k.settings.travel k.at k.work root left q) (o : Onward k k') where
  pub coming : {root' left' : ℕ} → root' ≡ root → left' ≡ to_do k'.at k'.work (waiting q) → Coming k' root' left' q
  coming r l =
      record {
        bench = o.sound;
        queue =
            subst (λ (s : Settings). queue_sound (capacity_of s) s.travel (end_of k'.at k'.work) q ≡ true) (sym o.settings)
            (subst (λ (p : Point). queue_sound (capacity_of k.settings) k.settings.travel p q ≡ true) (sym o.end)
            (queue_test i.queue));
        root_is = λ more. r ∙ i.root_is ∙ sym (o.root more);
        left_is = l;
      }

  -- after ticks that did so many cycles
  pub left_less : {told : ℕ} → cycles_left k.at k.work ≡ cycles_left k'.at k'.work + told
      → (told ≤ left) × (left - told ≡ to_do k'.at k'.work (waiting q))
  unfolding to_do
  left_less e =
      let behind = ap (λ (p : Point). chain_cycles p (waiting q)) o.end in
      (omega (arith, i.left_is, e), omega (arith, i.left_is, e, behind))

-- ---- the record after ticks

record_same : {k : Bench} {root root' left left' : ℕ} {q : Queue} → root ≡ root' → left ≡ left'
    → ◌≡◌ {A = Machine} (record { bench = k; root = root; left = left; queue = q })
    (record { bench = k; root = root'; left = left'; queue = q })
record_same r l = rw (r, l) refl

-- a block is still in work
pub next_busy : {k : Bench} {root left : ℕ} {q : Queue} → Coming k root left q → is_nothing k.work ≡ false
    → ◌≡◌ {A = Machine} (record { bench = k; root = root; left = left; queue = q }) (next_of k q)
unfolding next_of machine_of
next_busy i busy = rw busy (record_same (i.root_is busy) i.left_is)

-- none is, and none waits
pub next_none : {k : Bench} {root left : ℕ} {q : Queue} → Coming k root left q → is_nothing k.work ≡ true → q.len ≡ 0
    → ◌≡◌ {A = Machine} (record { bench = k; root = 0; left = left; queue = q }) (next_of k q)
unfolding next_of machine_of
next_none {k} {root} {left} {q} i idle none = rw idle (by q.len none)
  where
    by : (n : ℕ) → n ≡ 0 → ◌≡◌ {A = Machine} (record { bench = k; root = 0; left = left; queue = q }) (first_in k q n)
    by zero e = record_same (sym (ap root_in (nothing_is k.work idle))) i.left_is
    by (suc n) e = absurd (omega arith)

-- the first that waits comes into work, and its cycles stay to be done
module _ {k : Bench} {root left : ℕ} {q : Queue} (i : Coming k root left q) (idle : is_nothing k.work ≡ true) (some : 1 ≤ q.len) where
  abbrev b : Block
  b = (first_of q).block

  at_end_lem : end_of k.at k.work ≡ k.at
  at_end_lem = ap (end_of k.at) (nothing_is k.work idle)

  behind : QueueSound (capacity_of k.settings) k.settings.travel k.at q
  behind =
      queue_sound_lem (subst (λ (p : Point). queue_sound (capacity_of k.settings) k.settings.travel p q ≡ true) at_end_lem i.queue)

  first : First (capacity_of k.settings) k.settings.travel k.at q
  first = first_sound (capacity_of k.settings) k.settings.travel k.at q behind some

  pub first_accepted : Accepted k.at b
  first_accepted =
      record {
        capacity = capacity_of k.settings;
        travel = k.settings.travel;
        wide = wide k i.bench;
        start_in = here_inside k i.bench;
        none = first.asked;
      }

  same_root : (first_of q).root ≡ root_in (begun_of k.at b).work
  same_root = first.root ∙ sym (begun_root k.at b)

  same_left : left ≡ to_do k.at (begun_of k.at b).work (waiting (popped_of q))
  unfolding to_do chain_cycles
  same_left =
      i.left_is
      ∙ ap (λ (w : Work). cycles_left k.at w + chain_cycles (end_of k.at w) (waiting q)) (nothing_is k.work idle)
      ∙ ap (λ (l : List Block). 0 + chain_cycles k.at l) (pop_waiting q some (omega (arith, behind.sixteen, behind.most)))
      ∙ by (block_cycles k.at b) (chain_cycles b.end (waiting (popped_of q)))
      ∙ sym (ap (λ (p : Point). block_cycles k.at b + chain_cycles p (waiting (popped_of q))) (begun_end k.at b))
      ∙ sym (ap (λ (n : ℕ). n + chain_cycles (end_of k.at (begun_of k.at b).work) (waiting (popped_of q))) (begun_left k.at b))
    where
      by : (x y : ℕ) → 0 + (x + y) ≡ x + y
      by x y = omega arith

  pub next_first :
      ◌≡◌ {A = Machine}
      (record { bench = beginning k (begun_of k.at b).work; root = (first_of q).root; left = left; queue = popped_of q })
      (next_of k q)
  unfolding next_of machine_of moved_of
  next_first = rw idle (by q.len some)
    where
      by : (n : ℕ) → 1 ≤ n
          → ◌≡◌ {A = Machine}
          (record { bench = beginning k (begun_of k.at b).work; root = (first_of q).root; left = left; queue = popped_of q })
          (first_in k q n)
      by zero h = absurd (omega arith)
      by (suc n) h = record_same same_root same_left
