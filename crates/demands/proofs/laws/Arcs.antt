-- An arc's load, its ticks and its walk, by the paper's circle points.
use Rattle.std.specs.Prelude.{◌≡◌, Bool, true, false, ◌||◌, ◌≢◌, List, [], ◌∷◌, ℕ, zero, suc, ◌+◌, ◌-◌, ◌*◌, ◌≤◌}
use Rattle.std.specs.Prelude.{T, leb, length, ℤ, pos, Result, Ok, Err}
use Rattle.std.specs.Prelude.{negsuc, nat_abs, ◌+ℤ◌, ◌-ℤ◌}
use Rattle.std.proofs.Math.Path.{refl, ap, subst}
use Rattle.std.proofs.Common.{sym, ◌∙◌, leb-true, leb-false}
use Rattle.std.proofs.Math.Bool.{cond}
use native.Mathlib.Omega.{arith}
use Rattle.question.specs.declared.Question.{Question}
use Rattle.whole.specs.Root.{nearest_root}
use Rattle.whole.specs.laws.Test.{refuted}
use Rattle.whole.specs.laws.Difference.{ring, var, ◌⊕◌, ◌⊖◌}
use Rattle.plane.specs.declared.point.Point.{Point}
use Rattle.plane.specs.Point.{equal_point}
use Rattle.plane.specs.Pulse.{pulse_of, shifted_of, change_of, pulses_between}
use Rattle.plane.specs.Byte.{cycle_mark, cycles_marked, end_mark}
use Rattle.plane.specs.laws.Byte.{told_codes}
use Rattle.plane.specs.laws.Point.{same_point, equal_point_lem, equal_itself}
use Rattle.plane.specs.laws.Pulse.{change_pulse, change_small}
use Rattle.circle.specs.declared.plane.Offset.{Offset}
use Rattle.circle.specs.declared.plane.Turn.{Turn}
use Rattle.circle.specs.Circle.{Circle}
use Rattle.circle.specs.Next.{Next, Walk, Ends}
use Rattle.circle.specs.computed.Step.{step_of, after_of}
use Rattle.charges.specs.computed.Sum.{charges_in}
use Rattle.circle.proofs.laws.Circle.{axis_circle}
use Rattle.circle.proofs.laws.Next.{step_close, sole}
use Rattle.circle.proofs.laws.Walk.{after_circle, walk_to, ends as Walk-Ends}
use Rattle.arc.specs.declared.arc.Arc.{Arc}
use Rattle.arc.specs.Centre.{seen_from, back_from}
use Rattle.arc.specs.computed.Arc.{arc_after, arc_cycles, arc_stepped}
use Rattle.arc.specs.Arc.{arc_width}
use Rattle.arc.specs.laws.Step.{seen_after}
use Rattle.arc.specs.computed.Charge.{arc_charge, arc_charges_in}
use Rattle.arc.specs.laws.Centre.{back_seen}
use Rattle.arc.specs.laws.Charge.{charge_codes, charges_next}
use Rattle.block.specs.declared.Block.{Block}
use Rattle.block.specs.declared.Path.{Path}
use Rattle.block.specs.Block.{square_of, arc_of}
use Rattle.block.specs.Chain.{end_after}
use Rattle.block.specs.Charge.{arc_step_charge}
use Rattle.block.proofs.laws.Begin.{offset_right_lem, square_some}
use Rattle.work.specs.declared.Work.{Work}
use Rattle.work.specs.Work.{is_nothing, following, cycles_left}
use Rattle.work.specs.computed.Work.{arc_cycle, cycle_of, due_of, advance_of}
use Rattle.run.specs.laws.Idle.{idle_tick, cycle_tick_lem}
use Rattle.settings.specs.declared.Settings.{Settings}
use Rattle.settings.specs.Settings.{capacity_of}
use Rattle.queue.specs.declared.Queue.{Queue}
use Rattle.queue.specs.Queue.{waiting}
use Rattle.bench.specs.declared.Bench.{Bench}
use Rattle.bench.specs.declared.Ticked.{Ticked as BenchTicked}
use Rattle.bench.specs.Bench.{moved_of}
use Rattle.bench.specs.computed.Calls.{ticks as bench_ticks, working, tick_of as bench_tick}
use Rattle.machine.specs.declared.Machine.{Machine}
use Rattle.machine.specs.declared.Answered.{Answered}
use Rattle.machine.specs.declared.Ticked.{Ticked}
use Rattle.machine.specs.Machine.{machine_of}
use Rattle.machine.specs.Calls.{next_of, going_on}
use Rattle.machine.specs.computed.Calls.{tick_of}
use Rattle.machine.specs.laws.Keeps.{tick_keeps}
use Rattle.look.specs.laws.Sums.{next_stands}
use Rattle.history.specs.CallContracts.{Loads}
use Rattle.demands.specs.Asked.{AllYes}
use Rattle.demands.specs.Bench.{BenchSound}
use Rattle.demands.specs.Block.{CentreRight, path_questions}
use Rattle.demands.specs.Sound.{work_end, AcceptedInTurn, Sound}
use Rattle.demands.specs.Questions.{next_start, load_questions}
use Rattle.demands.specs.Runs.{TicksTo}
use Rattle.demands.specs.Arcs.{ArcLoaded, ArcStep, arc_sum, arc_due, arc_cycled, ArcTick, ArcCharges, CountedInTurn, OneBlock, EveryArc}
use Rattle.demands.proofs.laws.Bench.{bench_is}
use Rattle.demands.proofs.laws.Block.{centre_is}
use Rattle.demands.proofs.laws.Sound.{sound_is}
use Rattle.demands.proofs.laws.Nearest.{least_error}
use Rattle.demands.proofs.laws.Texts.{path_counted}
use Rattle.demands.proofs.laws.Lines.{width_is, taken, ticks_as, tick_of_lem, work_of_lem}

-- ---- load

-- question 14 has a yes
offset_asked : (m : Machine) (b : Block) (turn : Turn) (centre : Offset) → b.path ≡ Path.Arc turn centre → AllYes (load_questions m b)
    → CentreRight centre
offset_asked m b turn centre e all =
    (subst (λ (p : Path). AllYes (path_questions m.bench.settings (next_start m) b p)) e all.1.1.1.1).0

arc_loaded : (m : Machine) (b : Block) (r : Answered) → Loads m b r → AllYes (load_questions m b) → (turn : Turn) (centre : Offset)
    → b.path ≡ Path.Arc turn centre
    → ArcLoaded m b turn centre r
unfolding arc_of arc_width
arc_loaded m b r h all turn centre e =
    let right = offset_asked m b turn centre e all in
    record {
      taken = taken m b r h all (Path.Arc turn centre) e;
      axis = nearest_root (square_of centre);
      on_axis = λ n. axis_circle (square_of centre) n (square_some centre (offset_right_lem centre ((centre_is centre).1 right)));
      width = width_is m b r h all (Path.Arc turn centre) e;
    }

-- ---- a cycle

-- a change by at most one is its pulse
shift : (u d : ℤ) → nat_abs d ≤ 1 → u +ℤ d ≡ u +ℤ pulse_of (change_of u (u +ℤ d))
shift u (pos zero) h = ap (λ (c : ℕ). u +ℤ pulse_of c) (sym (change_pulse u false false))
shift u (pos (suc zero)) h = ap (λ (c : ℕ). u +ℤ pulse_of c) (sym (change_pulse u true false))
shift u (pos (suc (suc n))) h = absurd (omega arith)
shift u (negsuc zero) h = ap (λ (c : ℕ). u +ℤ pulse_of c) (sym (change_pulse u true true))
shift u (negsuc (suc n)) h = absurd (omega arith)

axis_moved_lem : (c u v : ℤ) → nat_abs ((v -ℤ c) -ℤ (u -ℤ c)) ≤ 1 → v ≡ u +ℤ pulse_of (change_of u v)
axis_moved_lem c u v h =
    let way : (v -ℤ c) -ℤ (u -ℤ c) ≡ v -ℤ u = ring ((var v ⊖ var c) ⊖ (var u ⊖ var c)) (var v ⊖ var u) (omega arith) in
    let there : u +ℤ (v -ℤ u) ≡ v = ring (var u ⊕ (var v ⊖ var u)) (var v) (omega arith) in
    subst (λ (z : ℤ). z ≡ u +ℤ pulse_of (change_of u z)) there (shift u (v -ℤ u) (subst (λ (z : ℤ). nat_abs z ≤ 1) way h))

module _ (a : Arc) (at : Point) (here : Circle a.square (seen_from a.centre at)) where
  abbrev next : Point
  next = arc_after a at 1

  seen_next : seen_from a.centre next ≡ step_of a.square a.turn (seen_from a.centre at)
  unfolding after_of
  seen_next = seen_after a at 1

  pub next_is : Next a.square a.turn (seen_from a.centre at) (seen_from a.centre next)
  next_is = rw seen_next (sole a.turn (seen_from a.centre at) here).is

  pub next_moved : next ≡ shifted_of at (pulses_between at next)
  next_moved =
      let close = step_close a.turn (seen_from a.centre at) here in
      let x : nat_abs ((next.x -ℤ a.centre.x) -ℤ (at.x -ℤ a.centre.x)) ≤ 1 = subst
      (λ (p : Offset). nat_abs (p.x -ℤ (at.x -ℤ a.centre.x)) ≤ 1) (sym seen_next) close.near_x in
      let y : nat_abs ((next.y -ℤ a.centre.y) -ℤ (at.y -ℤ a.centre.y)) ≤ 1 = subst
      (λ (p : Offset). nat_abs (p.y -ℤ (at.y -ℤ a.centre.y)) ≤ 1) (sym seen_next) close.near_y in
      same_point (axis_moved_lem a.centre.x at.x next.x x) (axis_moved_lem a.centre.y at.y next.y y)

-- ---- a tick

module _ (m : Bench) (a : Arc) (here : Circle a.square (seen_from a.centre m.at)) where
  abbrev q0 : ℕ
  q0 = capacity_of m.settings

  abbrev there : Point
  there = arc_after a m.at 1

  abbrev step : ArcStep m a
  step = record {
    at = there;
    next = next_is a m.at here;
    pulses = pulses_between m.at there;
    small = (change_small _ _, change_small _ _);
    moved = next_moved a m.at here;
  }

  -- the due goes by the pulses of the step
  due_is : due_of q0 m.at (Work.Arc a) ≡ arc_due step
  due_is = ap (λ (c : ℕ). c * q0) (charge_codes a m.at)

  module _ (over : arc_due step ≤ arc_sum m a) where
    tick_given : working m (advance_of q0 m.at m.remainder (Work.Arc a))
        ≡ arc_cycled step (equal_point there a.end) (following (equal_point there a.end) (Work.Arc a))
    unfolding cycle_of arc_cycle arc_stepped
    tick_given =
        let fed : due_of q0 m.at (Work.Arc a) + (arc_sum m a - arc_due step) ≡ arc_sum m a = omega (arith, due_is) in
        ap (working m) (sym (cycle_tick_lem q0 m.at m.remainder (Work.Arc a) {rest = arc_sum m a - arc_due step} fed refl))

    tick_ended : (ended : Bool) → equal_point there a.end ≡ ended
        → working m (advance_of q0 m.at m.remainder (Work.Arc a)) ≡ arc_cycled step ended (following ended (Work.Arc a))
    tick_ended ended e = tick_given ∙ ap (λ (b : Bool). arc_cycled step b (following b (Work.Arc a))) e

arc_tick : (k : Bench) (a : Arc) → BenchSound k → k.work ≡ Work.Arc a → k.held ≡ false → ArcTick k a (bench_tick k)
arc_tick k a s work free =
    let t = tick_of_lem k (Work.Arc a) s work refl free in
    let here = (work_of_lem k (Work.Arc a) s work).point in
    record {
      step = step k a here;
      waits = λ below.
          t ∙ ap (working k) (idle_tick (capacity_of k.settings) k.at k.remainder (Work.Arc a) (omega (arith, due_is k a here)));
      going = λ over f. t ∙ tick_ended k a here over false (differ (arc_after a k.at 1) a.end f);
      last = λ over e. t ∙ tick_ended k a here over true (ap (λ (p : Point). equal_point p a.end) e ∙ equal_itself a.end);
    }
  where
    differ : (p q : Point) → p ≢ q → equal_point p q ≡ false
    differ p q f = refuted (equal_point p q) (λ e. f (equal_point_lem p q e))

-- ---- the cycles left

arc_left : (m : Bench) (a : Arc) → BenchSound m → m.work ≡ Work.Arc a
    → Ends a.square a.turn (seen_from a.centre m.at) (seen_from a.centre a.end) (cycles_left m.at m.work)
unfolding arc_cycles
arc_left m a s work =
    let w = work_of_lem m (Work.Arc a) s work in
    subst (Ends a.square a.turn (seen_from a.centre m.at) (seen_from a.centre a.end)) (sym (ap (cycles_left m.at) work))
    (Walk-Ends a.turn (seen_from a.centre a.end) w.end (seen_from a.centre m.at) w.point)

-- ---- and their charges

arc_charges_lem : (m : Bench) (a : Arc) → BenchSound m → m.work ≡ Work.Arc a → ArcCharges m a
unfolding charges_in arc_after after_of
arc_charges_lem m a s work =
    let here = (work_of_lem m (Work.Arc a) s work).point in
    let from = seen_from a.centre m.at in
    record {
      none = refl;
      more = λ c u v walk next.
          let seen_u = walk_to a.turn from c (seen_from a.centre u) here walk in
          let on_u : Circle a.square (seen_from a.centre u) = rw seen_u (after_circle a.turn from c here) in
          let at_u : u ≡ arc_after a m.at c = sym (back_seen a.centre u) ∙ ap (back_from a.centre) seen_u in
          let seen_v = (sole a.turn (seen_from a.centre u) on_u).only (seen_from a.centre v) next in
          let at_v : v ≡ arc_after a u 1 = sym (back_seen a.centre v) ∙ ap (back_from a.centre) seen_v in
          let one : c + 1 ≡ suc c = omega arith in
          rw one
          (charges_next a m.at c
          ∙ ap (λ (p : Point). arc_charges_in a m.at c + arc_charge a p) (sym at_u)
          ∙ ap (λ (n : ℕ). arc_charges_in a m.at c + n)
          (charge_codes a u ∙ ap (λ (p : Point). arc_step_charge (pulses_between u p)) (sym at_v)));
    }

-- ---- those of the arcs that wait

counted_in_turn : (s : Settings) (start : Point) (l : List Block) → AcceptedInTurn s start l → CountedInTurn start l
counted_in_turn s start [] all = tt
counted_in_turn s start (b ∷ l) all =
    (path_counted s start b b.path all.0.1.1.1, counted_in_turn s (end_after start b) l all.1)

-- ---- the walk

-- a tick of an arc stays, goes to the next point, or goes there and ends the block
data Steps (a : Arc) (k : Bench) (byte : ℕ) (k' : Bench) : Type 0 where
  stays : cycle_mark byte ≡ 0 → k'.at ≡ k.at → k'.work ≡ Work.Arc a → Steps a k byte k'
  steps : cycle_mark byte ≡ 1 → Next a.square a.turn (seen_from a.centre k.at) (seen_from a.centre k'.at)
      → k'.work ≡ Work.Arc a → Steps a k byte k'
  ends : cycle_mark byte ≡ 1 → Next a.square a.turn (seen_from a.centre k.at) (seen_from a.centre k'.at)
      → end_mark byte ≡ 1 → Steps a k byte k'

abbrev byte_of : Result ℕ Question → ℕ
byte_of (Ok b) = b
byte_of (Err n) = 0

-- idle or held: the byte is 0, and the bench stays
pub idle_rest : (k : Bench) → BenchSound k → k.work ≡ Work.Nothing → bench_tick k ≡ bench_ticks (Ok 0) k
unfolding bench_tick
idle_rest k s e = rw ((bench_is k).1 s, ap is_nothing e) (by k.held)
  where
    by : (held : Bool)
        → cond (held || true) (bench_ticks (Ok 0) k)
        (working k (advance_of (capacity_of k.settings) k.at k.remainder k.work)) ≡ bench_ticks (Ok 0) k
    by true = refl
    by false = refl

pub held_rest : (k : Bench) → BenchSound k → k.held ≡ true → bench_tick k ≡ bench_ticks (Ok 0) k
unfolding bench_tick
held_rest k s e = rw ((bench_is k).1 s, e)

module _ (a : Arc) (k : Bench) (byte : ℕ) (told : (bench_tick k).tick ≡ Ok byte) where
  abbrev t : BenchTicked
  t = bench_tick k

  byte_is : {r : BenchTicked} → t ≡ r → byte_of r.tick ≡ byte
  byte_is e = ap byte_of (sym (ap (λ (r : BenchTicked). r.tick) e) ∙ told)

  resting : t ≡ bench_ticks (Ok 0) k → k.work ≡ Work.Arc a → Steps a k byte t.bench
  resting e work =
      stays (sym (ap cycle_mark (byte_is e))) (ap (λ (r : BenchTicked). r.bench.at) e)
      (ap (λ (r : BenchTicked). r.bench.work) e ∙ work)

  -- a working tick
  working_step : ArcTick k a t → Steps a k byte t.bench
  unfolding moved_of
  working_step w = by (leb (arc_due w.step) (arc_sum k a)) refl
    where
      marks : (ended : Bool) (work : Work) → t ≡ arc_cycled w.step ended work
          → (cycle_mark byte ≡ 1) × (end_mark byte ≡ cond ended 1 0)
          × Next a.square a.turn (seen_from a.centre k.at) (seen_from a.centre t.bench.at)
      marks ended work e =
          let codes = told_codes w.step.pulses ended w.step.small.0 w.step.small.1 in
          let is = byte_is e in (
            ap cycle_mark (sym is) ∙ codes.cycle,
            ap end_mark (sym is) ∙ codes.end,
            subst (λ (r : BenchTicked). Next a.square a.turn (seen_from a.centre k.at) (seen_from a.centre r.bench.at))
                (sym e) w.step.next,
          )

      cycled : arc_due w.step ≤ arc_sum k a → (end : Bool) → equal_point w.step.at a.end ≡ end → Steps a k byte t.bench
      cycled due true f = let m = marks true Work.Nothing (w.last due (equal_point_lem _ _ f)) in ends m.0 m.2 m.1
      cycled due false f =
          let e = w.going due
          (λ q. subst T (sym (equal_itself a.end) ∙ ap (λ (p : Point). equal_point p a.end) (sym q) ∙ f) tt) in
          let m = marks false (Work.Arc a) e in
          steps m.0 m.2 (ap (λ (r : BenchTicked). r.bench.work) e)

      by : (due : Bool) → leb (arc_due w.step) (arc_sum k a) ≡ due → Steps a k byte t.bench
      by false e =
          let waits = w.waits (leb-false _ _ e) in
          stays (sym (ap cycle_mark (byte_is waits))) (ap (λ (r : BenchTicked). r.bench.at) waits)
          (ap (λ (r : BenchTicked). r.bench.work) waits)
      by true e = cycled (leb-true _ _ e) (equal_point w.step.at a.end) refl

  one_step : BenchSound k → k.work ≡ Work.Arc a → Steps a k byte t.bench
  one_step s work = by k.held refl
    where
      by : (held : Bool) → k.held ≡ held → Steps a k byte t.bench
      by true e = resting (held_rest k s e) work
      by false e = working_step (arc_tick k a s work e)

-- ---- ticks of one block

later_one : (b : ℕ) (bytes : List ℕ) → OneBlock (b ∷ bytes) → OneBlock bytes
later_one b [] one = tt
later_one b (c ∷ bytes) one = one.1

-- the tick that ends the block is the last
none_later : (b : ℕ) (bytes : List ℕ) → OneBlock (b ∷ bytes) → end_mark b ≡ 1 → length bytes ≡ 0
none_later b [] one end = refl
none_later b (c ∷ bytes) one end = absurd (omega (arith, one.0))

no_ticks : {m m' : Machine} {bytes : List ℕ} → TicksTo m bytes m' → length bytes ≡ 0 → (m ≡ m') × (cycles_marked bytes ≡ 0)
no_ticks TicksTo.none e = (refl, refl)
no_ticks (TicksTo.one r byte h b rest) e = absurd (omega arith)

-- a bench that goes on keeps its queue
goes_on : (k : Bench) (q : Queue) (a : Arc) → k.work ≡ Work.Arc a → (next_of k q).bench ≡ k
unfolding next_of machine_of
goes_on k q a work = let busy : is_nothing k.work ≡ false = ap is_nothing work in rw busy refl

module _ (a : Arc) (p : Offset) where
  abbrev Walked : ℕ → Point → Type 0
  Walked c at = Walk a.square a.turn p c (seen_from a.centre at)

  walks : {m m' : Machine} {bytes : List ℕ} → TicksTo m bytes m' → OneBlock bytes → (c : ℕ) → Sound m → m.bench.work ≡ Work.Arc a
      → Walked c m.bench.at → Walked (c + cycles_marked bytes) m'.bench.at
  unfolding tick_of
  walks {m} TicksTo.none one c s work w =
      let same : c ≡ c + 0 = omega arith in subst (λ (n : ℕ). Walked n m.bench.at) same w
  walks {m} {m'} (TicksTo.one {bytes = bytes} r byte h b rest) one c s work w =
      by (one_step a k byte (sym (ap (λ (r : Ticked). r.tick) is) ∙ b) s.bench work)
      (λ c work w. walks rest (later_one byte bytes one) c still work w)
    where
      k : Bench
      k = m.bench

      k' : Bench
      k' = (bench_tick k).bench

      is : r ≡ going_on m (bench_tick k)
      is = let e = (sound_is m).1 s in h ∙ (rw e refl)

      still : Sound r.machine
      still = subst (λ (r : Ticked). Sound r.machine) (sym h) ((sound_is (tick_of m).machine).0 (tick_keeps m ((sound_is m).1 s)))

      there : r.machine.bench.at ≡ k'.at
      there = ap (λ (r : Ticked). r.machine.bench.at) is ∙ next_stands k' m.queue

      going : k'.work ≡ Work.Arc a → r.machine.bench.work ≡ Work.Arc a
      going on =
          ap (λ (r : Ticked). r.machine.bench.work) is ∙ ap (λ (k : Bench). k.work) (goes_on k' m.queue a on) ∙ on

      by : Steps a k byte k'
          → ((c : ℕ) → r.machine.bench.work ≡ Work.Arc a → Walked c r.machine.bench.at
          → Walked (c + cycles_marked bytes) m'.bench.at)
          → Walked (c + (cycle_mark byte + cycles_marked bytes)) m'.bench.at
      by (stays mark same on) later =
          let sum : c + cycles_marked bytes ≡ c + (cycle_mark byte + cycles_marked bytes) = rw mark (omega arith) in
          subst (λ (n : ℕ). Walked n m'.bench.at) sum (later c (going on) (subst (Walked c) (sym (there ∙ same)) w))
      by (steps mark after on) later =
          let sum : suc c + cycles_marked bytes ≡ c + (cycle_mark byte + cycles_marked bytes) = rw mark (omega arith) in
          subst (λ (n : ℕ). Walked n m'.bench.at) sum
          (later (suc c) (going on) (subst (Walked (suc c)) (sym there) (seen_from a.centre k.at, w, after)))
      by (ends mark after last) later =
          let none = no_ticks rest (none_later byte bytes one last) in
          let sum : suc c ≡ c + (cycle_mark byte + cycles_marked bytes) = rw (mark, none.1) (omega arith) in
          subst (λ (n : ℕ). Walked n m'.bench.at) sum
          (subst (Walked (suc c)) (sym there ∙ ap (λ (m : Machine). m.bench.at) none.0) (seen_from a.centre k.at, w, after))

arc_walk : (m m' : Machine) (a : Arc) (bytes : List ℕ) → Sound m → m.bench.work ≡ Work.Arc a → TicksTo m bytes m' → OneBlock bytes
    → Walk a.square a.turn (seen_from a.centre m.bench.at) (cycles_marked bytes) (seen_from a.centre m'.bench.at)
arc_walk m m' a bytes s work t one =
    let same : 0 + cycles_marked bytes ≡ cycles_marked bytes = omega arith in
    let from = seen_from a.centre m.bench.at in
    subst (λ (n : ℕ). Walk a.square a.turn from n (seen_from a.centre m'.bench.at)) same (walks a from t one 0 s work refl)

pub every_arc : EveryArc
every_arc =
    record {
      least_error = least_error;
      load = arc_loaded;
      tick = λ m a r h s work free. ticks_as (ArcTick m.bench a) m r h s (arc_tick m.bench a s.bench work free);
      cycles_left_lem = λ m a s work. arc_left m.bench a s.bench work;
      waiting_cycles = λ m s. counted_in_turn m.bench.settings (work_end m) (waiting m.queue) s.waiting;
      charges = λ m a s work. arc_charges_lem m.bench a s.bench work;
      walk = arc_walk;
    }
