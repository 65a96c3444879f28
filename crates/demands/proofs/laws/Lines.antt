-- A line's load and its ticks, by Koren's registers.
use Rattle.std.specs.Prelude.{◌≡◌, refl, Bool, false, ◌≢◌, ℕ, ◌+◌, ◌-◌, ◌*◌, eqb, Ok}
use Rattle.std.proofs.Common.{sym, subst, ◌∙◌, arith}
use Rattle.std.proofs.Math.Path.{ap}
use Rattle.plane.specs.declared.point.Point.{Point}
use Rattle.plane.specs.declared.pulse.Pulses.{Pulses}
use Rattle.plane.specs.Pulse.{shifted_of}
use Rattle.plane.specs.Byte.{cycle_byte}
use Rattle.circle.specs.Charge.{straight}
use Rattle.line.specs.declared.line.Line.{Line}
use Rattle.line.specs.Line.{line_cycles, line_point, line_width}
use Rattle.line.specs.computed.Line.{stepped_of}
use Rattle.line.specs.laws.Cycles.{cycles_some}
use Rattle.line.specs.laws.Pulses.{point_next, pulses_next}
use Rattle.block.specs.declared.Block.{Block}
use Rattle.block.specs.declared.Path.{Path}
use Rattle.block.specs.Block.{width_along, block_width}
use Rattle.work.specs.declared.Work.{Work}
use Rattle.work.specs.declared.Cycle.{Cycle}
use Rattle.work.specs.Work.{is_nothing, following, work_along, begun_of}
use Rattle.work.specs.computed.Work.{line_cycle, cycle_of, advance_of}
use Rattle.run.specs.laws.Idle.{idle_tick, cycle_tick_lem}
use Rattle.settings.specs.Settings.{capacity_of}
use Rattle.queue.specs.Queue.{waiting, pushed_of, waiting_at}
use Rattle.queue.specs.laws.Waiting.{push_waiting}
use Rattle.bench.specs.declared.Bench.{Bench}
use Rattle.bench.specs.declared.Answer.{Answer}
use Rattle.bench.specs.declared.Ticked.{Ticked as BenchTicked}
use Rattle.bench.specs.computed.Calls.{working, tick_of as bench_tick}
use Rattle.finish.specs.laws.Record.{AtWork}
use Rattle.machine.specs.declared.Machine.{Machine}
use Rattle.machine.specs.declared.Answered.{Answered}
use Rattle.machine.specs.declared.Ticked.{Ticked}
use Rattle.machine.specs.Machine.{machine_of}
use Rattle.machine.specs.Calls.{beginning, going_on}
use Rattle.machine.specs.computed.Calls.{takes, taking, load_with, tick_of}
use Rattle.machine.specs.laws.Right.{sound}
use Rattle.history.specs.CallContracts.{Loads, Ticks}
use Rattle.demands.specs.Asked.{AllYes}
use Rattle.demands.specs.Bench.{WorkSound, BenchSound}
use Rattle.demands.specs.Sound.{Sound}
use Rattle.demands.specs.Questions.{next_start, load_questions}
use Rattle.demands.specs.Taken.{Taken, ComesIn, TicksAs}
use Rattle.demands.specs.Lines.{register_pulses, one_more, LineTick, EveryLine}
use Rattle.question.specs.laws.Ask.{passed as none_no}
use Rattle.demands.proofs.laws.Asked.{passed}
use Rattle.demands.proofs.laws.Bench.{bench_is}
use Rattle.demands.proofs.laws.Block.{nothing_iff}
use Rattle.demands.proofs.laws.Sound.{sound_is}
use Rattle.demands.proofs.laws.Answers.{load_asked, load_verdict, load_is}
use Rattle.demands.proofs.laws.Runs.{bench_tick_lem, comes_in_lem, remainder_then, busy_is}

-- ---- a load that no question refuses

module _ (m : Machine) (b : Block) (r : Answered) (h : Loads m b r) (all : AllYes (load_questions m b)) (p : Path) (e : b.path ≡ p) where
  abbrev start : Point
  start = next_start m

  loads : r ≡ taking m b (begun_of start b)
  loads = h ∙ load_is m b ∙ ap (load_with m b) (none_no (load_asked m b) ((passed (load_verdict m b)).1 all))

  pub width_is : r.answer ≡ Ok (Answer.Width (width_along start b p))
  unfolding begun_of block_width
  width_is = ap (λ (r : Answered). r.answer) loads ∙ ap (λ (p : Path). Ok (Answer.Width (width_along start b p))) e

  after : r.machine ≡ takes m b (is_nothing m.bench.work) (begun_of start b)
  after = ap (λ (r : Answered). r.machine) loads

  -- it waits
  waits_last : is_nothing m.bench.work ≡ false → r.machine ≡ machine_of m.bench (pushed_of m.queue (waiting_at start b))
  waits_last busy = after ∙ ap (λ (idle : Bool). takes m b idle (begun_of start b)) busy

  pub taken : Taken m b (work_along start b p) r.machine
  unfolding begun_of machine_of
  taken =
      record {
        begins = λ none.
            after ∙ ap (λ (idle : Bool). takes m b idle (begun_of start b)) ((nothing_iff m.bench.work).1 none)
            ∙ ap (λ (p : Path). machine_of (beginning m.bench (work_along start b p)) m.queue) e;
        waits = λ some. waits_last (busy_is m.bench some);
        last = λ some.
            let s = all.0 in
            ap (λ (m : Machine). waiting m.queue) (waits_last (busy_is m.bench some))
            ∙ push_waiting m.queue (waiting_at start b) (omega (arith, all.1.0, s.places));
      }

-- ---- a tick at work

-- the machine's is its bench's, and then what comes into work
pub ticks_as : (Does : BenchTicked → Type 0) (m : Machine) (r : Ticked) → Ticks m r → Sound m → Does (bench_tick m.bench)
    → TicksAs Does m r
unfolding tick_of
ticks_as Does m r h s does =
    let e = (sound_is m).1 s in
    let t = bench_tick m.bench in
    let q = (sound m e).right.queue in
    let is : r ≡ going_on m t = h ∙ (rw e refl) in (
      t,
      does,
      is,
      λ none.
          subst (λ (r : Ticked). ComesIn t.bench.at (waiting m.queue) r.machine) (sym is)
          (comes_in_lem t.bench m.queue (omega (arith, q.most, q.sixteen)) none),
      ap (λ (r : Ticked). r.machine.bench.remainder) is ∙ remainder_then t.bench m.queue,
    )

-- what is in work, as it is known
pub tick_of_lem : (k : Bench) (w : Work) → BenchSound k → k.work ≡ w → is_nothing w ≡ false → k.held ≡ false
    → bench_tick k ≡ working k (advance_of (capacity_of k.settings) k.at k.remainder w)
tick_of_lem k w s work busy free =
    let a : AtWork k = record { sound = (bench_is k).1 s; free = free; busy = ap is_nothing work ∙ busy } in
    sym (bench_tick_lem k a) ∙ ap (λ (w : Work). working k (advance_of (capacity_of k.settings) k.at k.remainder w)) work

pub work_of_lem : (k : Bench) (w : Work) → BenchSound k → k.work ≡ w → WorkSound (capacity_of k.settings) k.settings.travel k.at w
work_of_lem k w s work = subst (WorkSound (capacity_of k.settings) k.settings.travel k.at) work s.work

-- the cycle of a sound line
line_cycle_lem : (at : Point) (l : Line) → l.start ≢ l.end → at ≡ line_point l.start l.end l.done
    → l.cycles ≡ line_cycles l.start l.end
    → (let pulses = register_pulses l.start l.end l.done in
    let last = eqb (l.done + 1) (line_cycles l.start l.end) in
    cycle_of at
    (Work.Line l) ≡ record { at = shifted_of at pulses; byte = cycle_byte pulses last; work = following last (Work.Line (one_more l)) })
unfolding cycle_of line_cycle stepped_of
line_cycle_lem at l apart point own =
    let some = cycles_some l.start l.end apart in
    let pulses = register_pulses l.start l.end l.done in
    ap (λ (p : Pulses). given p (line_point l.start l.end (l.done + 1)) l.cycles) (pulses_next l.start l.end some l.done)
    ∙ ap (λ (n : Point). given pulses n l.cycles)
    (point_next l.start l.end some l.done ∙ ap (λ (p : Point). shifted_of p pulses) (sym point))
    ∙ ap (given pulses (shifted_of at pulses)) own
  where
    given : Pulses → Point → ℕ → Cycle
    given p n q = let last =
        eqb (l.done + 1) q in record { at = n; byte = cycle_byte p last; work = following last (Work.Line (one_more l)) }

line_tick : (k : Bench) (l : Line) → BenchSound k → k.work ≡ Work.Line l → k.held ≡ false → LineTick k l (bench_tick k)
line_tick k l s work free =
    let t = tick_of_lem k (Work.Line l) s work refl free in
    let w = work_of_lem k (Work.Line l) s work in
    let q0 = capacity_of k.settings in
    record {
      waits = λ below. t ∙ ap (working k) (idle_tick q0 k.at k.remainder (Work.Line l) below);
      cycles = λ over.
          t ∙ ap (working k)
          (sym (cycle_tick_lem q0 k.at k.remainder (Work.Line l) {rest = k.remainder + 1000 * l.feed - straight * q0}
          (omega arith) (sym (line_cycle_lem k.at l w.different w.point w.cycles))));
    }

pub every_line : EveryLine
unfolding line_width
every_line =
    record {
      load = λ m b r h all e. record { width = width_is m b r h all Path.Line e; taken = taken m b r h all Path.Line e };
      tick = λ m l r h s work free. ticks_as (LineTick m.bench l) m r h s (line_tick m.bench l s.bench work free);
    }
