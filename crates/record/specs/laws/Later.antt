-- Ticks and runs change of the bench what `store_ticks` stores, and no more.
use Rattle.std.specs.Prelude.{◌≡◌, Bool, true, false, cond, ◌||◌, List, ℕ, zero, suc, ◌+◌, ◌-◌, min, eqb, ℤ, Ok}
use Rattle.std.proofs.Math.Path.{refl, subst}
use Rattle.std.proofs.Common.{sym, ◌∙◌}
use Rattle.plane.specs.declared.point.Point.{Point}
use Rattle.plane.specs.Point.{equal_point}
use Rattle.line.specs.computed.Line.{stepped_of}
use Rattle.arc.specs.computed.Arc.{arc_stepped}
use Rattle.divider.specs.Divider.{fed_of}
use Rattle.work.specs.declared.Work.{Work}
use Rattle.work.specs.declared.Advance.{Advance}
use Rattle.work.specs.Work.{is_nothing, following, cycles_left, added_of}
use Rattle.work.specs.computed.Work.{line_cycle, arc_cycle, cycle_of, due_of, advance_by, advance_of}
use Rattle.run.specs.computed.Run.{Strip, in_front, strip_of}
use Rattle.settings.specs.Settings.{capacity_of}
use Rattle.bench.specs.declared.Bench.{Bench}
use Rattle.bench.specs.declared.Ticked.{Ticked}
use Rattle.bench.specs.declared.Ran.{Ran}
use Rattle.bench.specs.declared.Report.{Report}
use Rattle.bench.specs.computed.Bench.{sound_of}
use Rattle.bench.specs.Bench.{moved_of}
use Rattle.bench.specs.computed.Calls.{ticks, working, tick_of}
use Rattle.bench.specs.computed.Run.{ran_over, no_tick, run_of}
use Rattle.machine.specs.declared.Machine.{Machine}
use Rattle.machine.specs.computed.Asked.{cycles_told}
use Rattle.machine.specs.laws.Right.{Sound, sound}
use Rattle.machine.specs.laws.Onward.{Onward, tick_onward, tick_left, run_onward, run_left}
use Rattle.machine.specs.laws.Next.{coming, left_less}
use Rattle.record.specs.computed.Words.{machine_in, sound_words}
use Rattle.record.specs.computed.Write.{SameWork, Later}
use Rattle.record.specs.laws.Write.{told_sound}

-- ---- ticks and runs

follows_self : (w : Work) → SameWork w w
follows_self Work.Nothing = tt
follows_self (Work.Line l) = (refl, refl, refl, refl)
follows_self (Work.Arc a) = refl

follows_again : (u v w : Work) → SameWork u v → SameWork v w → SameWork u w
follows_again u v Work.Nothing f g = tt
follows_again u Work.Nothing (Work.Line l) f g = absurd g
follows_again Work.Nothing (Work.Line k) (Work.Line l) f g = absurd f
follows_again (Work.Line j) (Work.Line k) (Work.Line l) f g = (f.0 ∙ g.0, f.1 ∙ g.1, f.2 ∙ g.2, f.3 ∙ g.3)
follows_again (Work.Arc a) (Work.Line k) (Work.Line l) f g = absurd f
follows_again u (Work.Arc a) (Work.Line l) f g = absurd g
follows_again u Work.Nothing (Work.Arc b) f g = absurd g
follows_again u (Work.Line l) (Work.Arc b) f g = absurd g
follows_again Work.Nothing (Work.Arc a) (Work.Arc b) f g = absurd f
follows_again (Work.Line l) (Work.Arc a) (Work.Arc b) f g = absurd f
follows_again (Work.Arc c) (Work.Arc a) (Work.Arc b) f g = f ∙ g

cycle_follows : (at : Point) (w : Work) → SameWork w (cycle_of at w).work
unfolding cycle_of line_cycle arc_cycle stepped_of
cycle_follows at Work.Nothing = tt
cycle_follows at (Work.Line l) = by (eqb (l.done + 1) l.cycles)
  where
    by : (ended : Bool) → SameWork (Work.Line l) (following ended (Work.Line (stepped_of l).line))
    by true = tt
    by false = (refl, refl, refl, refl)
cycle_follows at (Work.Arc a) = by (equal_point (arc_stepped a at).at a.end)
  where
    by : (ended : Bool) → SameWork (Work.Arc a) (following ended (Work.Arc a))
    by true = tt
    by false = refl

advance_follows : (q0 : ℕ) (at : Point) (r : ℕ) (w : Work) → SameWork w (advance_of q0 at r w).work
unfolding advance_of
advance_follows q0 at r w = let f = fed_of (due_of q0 at w) (added_of w) r in by f.cycle f.remainder
  where
    by : (cycle : Bool) (left : ℕ) → SameWork w (advance_by at w (record { cycle = cycle; remainder = left })).work
    by true left = cycle_follows at w
    by false left = follows_self w

strip_follows : (q0 n : ℕ) (at : Point) (r : ℕ) (w : Work) → SameWork w (strip_of q0 n at r w).work
unfolding strip_of
strip_follows q0 zero at r w = follows_self w
strip_follows q0 (suc n) at r w = let a = advance_of q0 at r w in by (is_nothing a.work) (advance_follows q0 at r w)
    (strip_follows q0 n a.at a.remainder a.work)
  where
    by : (ended : Bool) →
        (let a = advance_of q0 at r w in SameWork w a.work → SameWork a.work (strip_of q0 n a.at a.remainder a.work).work
        → SameWork w (in_front ended a (strip_of q0 n a.at a.remainder a.work)).work)
    by true f g = f
    by false f g = let a = advance_of q0 at r w in follows_again w a.work (strip_of q0 n a.at a.remainder a.work).work f g

-- a bench after ticks: settings and mark as they were
record Ahead (k n : Bench) : Type 0 where
  same : n ≡ moved_of k n.at n.remainder n.work
  follows : SameWork k.work n.work

unmoved : (k : Bench) → Ahead k k
unfolding moved_of
unmoved k = record { same = refl; follows = follows_self k.work }

moved : (k : Bench) (at : Point) (r : ℕ) (w : Work) → SameWork k.work w → Ahead k (moved_of k at r w)
unfolding moved_of
moved k at r w f = record { same = refl; follows = f }

module _ (k : Bench) (sound : sound_of k ≡ true) where
  tick_ahead : Ahead k (tick_of k).bench
  unfolding tick_of
  tick_ahead = rw sound (by (k.held || is_nothing k.work))
    where
      a : Advance
      a = advance_of (capacity_of k.settings) k.at k.remainder k.work

      by : (still : Bool) → Ahead k (cond still (ticks (Ok 0) k) (working k a)).bench
      by true = unmoved k
      by false = moved k a.at a.remainder a.work (advance_follows (capacity_of k.settings) k.at k.remainder k.work)

  run_ahead : (budget buffer : ℕ) → Ahead k (run_of k budget buffer).ran.bench
  unfolding run_of
  run_ahead budget buffer = rw sound (by (is_nothing k.work) k.held)
    where
      s : Strip
      s = strip_of (capacity_of k.settings) (min budget buffer) k.at k.remainder k.work

      by : (nothing held : Bool)
          → Ahead k (cond nothing (no_tick k (Ok Report.Idle)) (cond held (no_tick k (Ok Report.Held)) (ran_over k budget s))).ran.bench
      by true held = unmoved k
      by false true = unmoved k
      by false false =
          moved k s.at s.remainder s.work
          (strip_follows (capacity_of k.settings) (min budget buffer) k.at k.remainder k.work)

-- ---- what `store_ticks` asks

module _ (ws : List ℤ) (t : sound_words ws ≡ true) where
  abbrev m : Machine
  m = machine_in ws

  right : Sound m
  right = sound m (told_sound ws t)

  pub tick_later : {r : Ticked} → r ≡ tick_of m.bench → {left : ℕ} → left ≡ m.left - cycles_told r.tick → Later ws r.bench left
  unfolding machine_in
  tick_later {r} is {left} e =
      let o = tick_onward m.bench right.bench is in
      let a = subst (λ (r : Ticked). Ahead m.bench r.bench) (sym is) (tick_ahead m.bench right.bench) in
      record {
        sound = t;
        same = a.same;
        follows = a.follows;
        coming = coming right.right o refl (e ∙ (left_less right.right o (tick_left m.bench right.bench is)).1);
      }

  -- ticks of the block in work alone
  pub strip_later : (n : ℕ) {k' : Bench} → (let k = m.bench in
      let s = strip_of (capacity_of k.settings) n k.at k.remainder k.work in k' ≡ moved_of k s.at s.remainder s.work)
      → Onward m.bench k' → (told : ℕ) → cycles_left m.bench.at m.bench.work ≡ cycles_left k'.at k'.work + told
      → {left : ℕ} → left ≡ m.left - told → Later ws k' left
  unfolding machine_in
  strip_later n {k'} is o told less {left} e =
      let k = m.bench in
      let s = strip_of (capacity_of k.settings) n k.at k.remainder k.work in
      let a = subst (Ahead k) (sym is)
      (moved k s.at s.remainder s.work (strip_follows (capacity_of k.settings) n k.at k.remainder k.work)) in
      record {
        sound = t;
        same = a.same;
        follows = a.follows;
        coming = coming right.right o refl (e ∙ (left_less right.right o less).1);
      }

  pub run_later : (budget buffer : ℕ) {r : Ran} → r ≡ (run_of m.bench budget buffer).ran → {left : ℕ} → left ≡ m.left - r.cycles
      → Later ws r.bench left
  unfolding machine_in
  run_later budget buffer {r} is {left} e =
      let o = run_onward m.bench right.bench budget buffer is in
      let a = subst (λ (r : Ran). Ahead m.bench r.bench) (sym is) (run_ahead m.bench right.bench budget buffer) in
      record {
        sound = t;
        same = a.same;
        follows = a.follows;
        coming = coming right.right o refl (e ∙ (left_less right.right o (run_left m.bench right.bench budget buffer is)).1);
      }
