-- What a sound record says of the block in work and of those that wait, and back.
use Rattle.std.specs.Prelude.{◌≡◌, Bool, Option, Some, None, SomeIff, cond, ◌&&◌, ◌||◌, ℕ, ◌+◌, ◌-◌, ◌≤◌, length}
use Rattle.std.proofs.Math.Path.{refl, ap, subst}
use Rattle.std.proofs.Common.{sym, ◌∙◌, arith}
use Rattle.std.proofs.Math.Nat.{lt_of_not-le}
use Rattle.std.proofs.Math.Bool.{true, false, not}
use mathlib.Core.List.{List}
use Rattle.std.proofs.Math.Dec.{T, leb, eqb}
use borrow.Author.Tests.{leb-true, le-leb, lt-leb, eqb-true, eq-eqb}
use Rattle.whole.specs.laws.Test.{both, joined, refuted, same_test}
use Rattle.plane.specs.declared.point.Point.{Point}
use Rattle.plane.specs.declared.travel.Travel.{Travel}
use Rattle.block.specs.declared.Block.{Block}
use Rattle.block.specs.Chain.{chain_cycles}
use Rattle.queue.specs.declared.Queue.{Queue}
use Rattle.queue.specs.Queue.{waiting}
use Rattle.queue.specs.computed.Queue.{queue_sound}
use Rattle.queue.specs.laws.Sound.{QueueSound, queue_sound_lem, queue_test, none_sound}
use Rattle.queue.specs.laws.Waiting.{none_waits}
use Rattle.work.specs.declared.Work.{Work}
use Rattle.work.specs.Work.{is_nothing, cycles_left, end_of}
use Rattle.work.specs.Work.{root_in}
use Rattle.settings.specs.Settings.{capacity_of}
use Rattle.bench.specs.computed.Bench.{sound_of as bench_sound}
use Rattle.machine.specs.declared.Machine.{Machine}
use Rattle.machine.specs.Machine.{to_do, machine_of}
use Rattle.machine.specs.computed.Machine.{waiting_right, sound_of}
use Rattle.bench.specs.Bench.{marked_of}
use Rattle.machine.specs.Calls.{mark_of}
use Rattle.machine.specs.computed.Asked.{work_off}

pub record WaitingRight (q0 : ℕ) (t : Travel) (at : Point) (w : Work) (root left : ℕ) (q : Queue) : Type 0 where
  pub root_is : root ≡ root_in w
  pub none : is_nothing w ≡ true → q.len ≡ 0
  pub queue : QueueSound q0 t (end_of at w) q
  pub left_is : left ≡ to_do at w (waiting q)

module _ (q0 : ℕ) (t : Travel) (at : Point) (w : Work) (root left : ℕ) (q : Queue) where
  pub waiting_right_lem : waiting_right q0 t at w root left q ≡ true → WaitingRight q0 t at w root left q
  unfolding waiting_right
  waiting_right_lem e =
      let r = both {a = eqb root (root_in w)} e in
      let n = both {a = not (is_nothing w) || eqb q.len 0} r.1 in
      let s = both {a = queue_sound q0 t (end_of at w) q} n.1 in
      record {
        root_is = eqb-true root _ r.0;
        none = λ idle. eqb-true q.len 0 (by (is_nothing w) idle n.0);
        queue = queue_sound_lem s.0;
        left_is = eqb-true left _ s.1;
      }
    where
      by : (idle : Bool) → idle ≡ true → (not idle || eqb q.len 0) ≡ true → eqb q.len 0 ≡ true
      by true i e = e
      by false i e = absurd (subst T (sym i) tt)

  pub waiting_test : WaitingRight q0 t at w root left q → waiting_right q0 t at w root left q ≡ true
  unfolding waiting_right
  waiting_test i =
      joined (eq-eqb root _ i.root_is) (joined (by (is_nothing w) i.none)
      (joined (queue_test i.queue) (eq-eqb left _ i.left_is)))
    where
      by : (idle : Bool) → (idle ≡ true → q.len ≡ 0) → (not idle || eqb q.len 0) ≡ true
      by true f = eq-eqb q.len 0 (f refl)
      by false f = refl

-- ---- a machine's record

pub record Sound (m : Machine) : Type 0 where
  pub bench : bench_sound m.bench ≡ true
  pub right : WaitingRight (capacity_of m.bench.settings) m.bench.settings.travel m.bench.at m.bench.work m.root
      m.left m.queue

pub sound : (m : Machine) → sound_of m ≡ true → Sound m
sound m e =
    let r = both {a = bench_sound m.bench} e in
    record { bench = r.0; right = waiting_right_lem _ _ _ _ _ _ _ r.1 }

pub sound_test : (m : Machine) → Sound m → sound_of m ≡ true
sound_test m i = joined i.bench (waiting_test _ _ _ _ _ _ _ i.right)

-- a sound record is that of its bench and its queue: root and figure are told by them
pub own_record : (m : Machine) → Sound m → machine_of m.bench m.queue ≡ m
unfolding machine_of
own_record m i =
    sym (ap (λ (n : ℕ). record {
      bench = m.bench;
      root = n;
      left = to_do m.bench.at m.bench.work (waiting m.queue);
      queue = m.queue;
    }) i.right.root_is)
    ∙ sym (ap (λ (n : ℕ). record { bench = m.bench; root = m.root; left = n; queue = m.queue }) i.right.left_is)

-- and with another mark it has the same root and figure
pub marked_record : (m : Machine) (mark : Bool) → Sound m
    → ◌≡◌ {A = Machine} (record { bench = marked_of m.bench mark; root = m.root; left = m.left; queue = m.queue }) (mark_of m mark)
unfolding machine_of
marked_record m mark i = rw (i.right.root_is, i.right.left_is) refl

-- ---- the test as the code makes it

module _ (at : Point) (w : Work) (root count : ℕ) where
  record Off : Type 0 where
    root_is : root ≡ root_in w
    enough : cycles_left at w ≤ count

  off_has : eqb root (root_in w) && leb (cycles_left at w) count ≡ true → Off
  off_has e = let r = both {a = eqb root (root_in w)} e in record { root_is = eqb-true root _ r.0; enough = leb-true _ count r.1 }

  -- an answer that is none, and one that is some
  off_none : None ≡ work_off at w root count → eqb root (root_in w) && leb (cycles_left at w) count ≡ false
  unfolding work_off
  off_none e = by (eqb root (root_in w) && leb (cycles_left at w) count) e
    where
      by : (b : Bool) → None ≡ cond b (Some (count - cycles_left at w)) None → b ≡ false
      by true e = cc
      by false e = refl

  off_some : {rest : ℕ} → Some rest ≡ work_off at w root count → Off × (rest ≡ count - cycles_left at w)
  unfolding work_off
  off_some {rest} e = by (eqb root (root_in w) && leb (cycles_left at w) count) refl e
    where
      by : (b : Bool) → eqb root (root_in w) && leb (cycles_left at w) count ≡ b → Some rest ≡ cond b (Some (count - cycles_left at w)) None
          → Off × (rest ≡ count - cycles_left at w)
      by true t e = (off_has t, cc)
      by false t e = absurd cc

  -- another root, and its own with what is left of the count
  pub off_unrooted : {r : Bool} → r ≡ eqb root (root_in w) → r ≡ false → None ≡ work_off at w root count
  unfolding work_off
  off_unrooted is other = rw (sym is ∙ other) refl

  pub off_rooted : eqb root (root_in w) ≡ true → {k : ℕ} → k ≡ cycles_left at w → {rest : Option ℕ}
      → SomeIff rest (k ≤ count) (count - k) → rest ≡ work_off at w root count
  unfolding work_off
  off_rooted own {k} c {rest} iff = rw (own, sym c) (by rest iff)
    where
      by : (rest : Option ℕ) → SomeIff rest (k ≤ count) (count - k) → rest ≡ cond (leb k count) (Some (count - k)) None
      by None many = rw (lt-leb k count (lt_of_not-le many)) refl
      by (Some n) i = rw (le-leb k count i.0, i.1) refl

-- of nothing in work the whole count is left
pub off_whole : (at : Point) (root count : ℕ) → root ≡ 0 → Some count ≡ work_off at Work.Nothing root count
off_whole at root count own = off_rooted at Work.Nothing root count (eq-eqb root 0 own) refl (omega arith, omega arith)

module _ (q0 : ℕ) (t : Travel) (at : Point) (w : Work) (root left : ℕ) (q : Queue) where
  pub wrong_work : None ≡ work_off at w root left → waiting_right q0 t at w root left q ≡ false
  unfolding to_do
  wrong_work e =
      refuted _ (λ yes.
      let i = waiting_right_lem q0 t at w root left q yes in
      let fits = joined (eq-eqb root _ i.root_is) (le-leb (cycles_left at w) left (omega (arith, i.left_is))) in
      not_both (sym (off_none at w root left e) ∙ fits))
    where
      not_both : false ≡ true → ⊥
      not_both e = subst T (sym e) tt

  module _ {rest : ℕ} (e : Some rest ≡ work_off at w root left) where
    off : Off at w root left
    off = (off_some at w root left e).0

    rest_is : rest ≡ left - cycles_left at w
    rest_is = (off_some at w root left e).1

    -- none waits
    pub none_waiting : length q.blocks ≡ 16 → q.len ≡ 0 → eqb rest 0 ≡ waiting_right q0 t at w root left q
    unfolding to_do chain_cycles
    none_waiting sixteen none =
        same_test
        (λ z. waiting_test q0 t at w root left q (record {
          root_is = off.root_is;
          none = λ idle. none;
          queue = none_sound q0 t (end_of at w) q sixteen none;
          left_is = all_done (eqb-true rest 0 z) ∙ ap (λ (l : List Block). cycles_left at w + chain_cycles (end_of at w) l)
              (sym (none_waits q none));
        }))
        (λ z. eq-eqb rest 0 (nothing_left ((waiting_right_lem q0 t at w root left q z).left_is
        ∙ ap (λ (l : List Block). cycles_left at w + chain_cycles (end_of at w) l) (none_waits q none))))
      where
        all_done : rest ≡ 0 → left ≡ cycles_left at w + 0
        all_done z = omega (arith, rest_is, off.enough)

        nothing_left : left ≡ cycles_left at w + 0 → rest ≡ 0
        nothing_left z = omega (arith, rest_is)

    -- some wait, and nothing is in work
    pub idle_waiting : (q.len ≡ 0 → ⊥) → is_nothing w ≡ true → waiting_right q0 t at w root left q ≡ false
    idle_waiting some idle = refuted _ (λ z. some ((waiting_right_lem q0 t at w root left q z).none idle))

    -- some wait behind a block in work
    pub busy_waiting : is_nothing w ≡ false
        → (queue_sound q0 t (end_of at w) q && eqb rest (chain_cycles (end_of at w) (waiting q))) ≡ waiting_right q0 t at w root left q
    unfolding to_do
    busy_waiting busy =
        same_test
        (λ z.
        let s = both {a = queue_sound q0 t (end_of at w) q} z in
        waiting_test q0 t at w root left q (record {
          root_is = off.root_is;
          none = λ idle. absurd (not_idle (sym busy ∙ idle));
          queue = queue_sound_lem s.0;
          left_is = omega (arith, rest_is, off.enough, eqb-true rest _ s.1);
        }))
        (λ z.
        let i = waiting_right_lem q0 t at w root left q z in
        joined (queue_test i.queue) (eq-eqb rest _ (omega (arith, rest_is, i.left_is))))
      where
        not_idle : false ≡ true → ⊥
        not_idle e = subst T (sym e) tt
