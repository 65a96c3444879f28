-- A tick of the bench that a book tells is the tick of the book's bench.
use Rattle.std.specs.Prelude.{◌≡◌, Bool, cond, ℕ, ◌+◌, ◌*◌, eqb, Ok}
use Rattle.std.proofs.Math.Path.{refl, ap₂}
use Rattle.std.proofs.Common.{sym, ap, ◌∙◌, add-one, arith, eqb-true, eq-eqb}
use Rattle.std.proofs.Math.Bool.{true, false}
use Rattle.whole.specs.laws.Test.{same_test}
use Rattle.plane.specs.declared.point.Point.{Point}
use Rattle.plane.specs.declared.travel.Travel.{Travel}
use Rattle.plane.specs.Point.{equal_point}
use Rattle.plane.specs.Pulse.{pulses_between}
use Rattle.plane.specs.Byte.{cycle_byte}
use Rattle.plane.specs.laws.Point.{equal_point_lem, equal_itself}
use Rattle.line.specs.computed.Line.{stepped_of}
use Rattle.arc.specs.declared.arc.Arc.{Arc}
use Rattle.arc.specs.computed.Arc.{arc_after, arc_cycles, arc_stepped}
use Rattle.arc.specs.laws.Step.{Circles, last_cycle}
use Rattle.arc.specs.laws.Charge.{charge_codes}
use Rattle.divider.specs.declared.Fed.{Fed}
use Rattle.divider.specs.Divider.{fed_of, added_at}
use Rattle.block.specs.declared.Path.{Path}
use Rattle.block.specs.Block.{arc_of, cycles_along, point_along, block_cycles, block_point}
use Rattle.block.specs.Charge.{charge_by, block_charge}
use Rattle.work.specs.declared.Work.{Work}
use Rattle.work.specs.declared.Cycle.{Cycle}
use Rattle.work.specs.declared.Advance.{Advance}
use Rattle.work.specs.Work.{following, feed_of}
use Rattle.work.specs.computed.Work.{line_cycle, arc_cycle, cycle_of, charge_of, advance_by, advance_of}
use Rattle.settings.specs.declared.Settings.{Settings}
use Rattle.settings.specs.Settings.{capacity_of}
use Rattle.bench.specs.declared.Ticked.{Ticked as BenchTicked}
use Rattle.bench.specs.computed.Bench.{sound_of}
use Rattle.bench.specs.Bench.{moved_of}
use Rattle.bench.specs.computed.Calls.{ticks, tick_of}
use Rattle.book.specs.Bench.{BlockInWork, InWork, Ticked, added_by, cycle_due, cycle_tick, fed_tick, bench_tick, Bench as BookBench}
use Rattle.book.proofs.laws.Sound.{JobSound, BenchSound, bench_of}
use Rattle.book.proofs.laws.Here.{Here, ArcHere, after_one, job_here}
use Rattle.history.specs.Agree.{work_along, work_of}
use Rattle.history.proofs.laws.Record.{bench_told}
use Rattle.history.proofs.laws.Record.{always_working}

-- the block in work with one cycle more
abbrev onward : BlockInWork → BlockInWork
onward j = record { block = j.block; start = j.start; done = j.done + 1 }

abbrev cycle_along : (at : Point) → BlockInWork → Path → Cycle
cycle_along at j p =
    let next = point_along j.start j.block p (j.done + 1) in
    let ended = eqb (j.done + 1) (cycles_along j.start j.block p) in
    record { at = next; byte = cycle_byte (pulses_between at next) ended; work = following ended (work_along (onward j) p) }

-- an arc ends where its next point is its end, and that is where one cycle is left
arc_ends : {t : Travel} {a : Arc} {start at : Point} {c : ℕ} → ArcHere t a start c at
    → equal_point (arc_after a at 1) a.end ≡ eqb (c + 1) (arc_cycles a start)
arc_ends {a = a} {start = start} {at = at} {c = c} h =
    let on : Circles a at = record { on = h.at.on; end_on = h.at.end_on } in
    same_test
    (λ e. eq-eqb (c + 1) (arc_cycles a start)
    (omega (arith, h.left, (last_cycle a at on).1 (equal_point_lem (arc_after a at 1) a.end e))))
    (λ e. rw ((last_cycle a at on).0 (omega (arith, h.left, eqb-true (c + 1) (arc_cycles a start) e))) (equal_itself a.end))

-- the next point of an arc, from its point and from its start
arc_next : (a : Arc) (start at : Point) (c : ℕ) → at ≡ arc_after a start c → arc_after a at 1 ≡ arc_after a start (c + 1)
arc_next a start at c point =
    ap (λ (p : Point). arc_after a p 1) point ∙ after_one a start c ∙ ap (arc_after a start) (sym (add-one c))

module _ (t : Travel) (at : Point) (j : BlockInWork) where
  cycle_along_lem : (p : Path) → at ≡ point_along j.start j.block p j.done → Here t j at p
      → cycle_of at (work_along j p) ≡ cycle_along at j p
  unfolding cycle_of line_cycle arc_cycle stepped_of arc_stepped
  cycle_along_lem Path.Line point here = rw (← point)
  cycle_along_lem (Path.Arc turn centre) point here =
      rw (arc_ends here, arc_next (arc_of j.start j.block turn centre) j.start at j.done point)

-- the charge of the next cycle
charge_along : (at : Point) (j : BlockInWork) (p : Path) → at ≡ point_along j.start j.block p j.done
    → charge_of at (work_along j p)
    ≡ charge_by p (pulses_between (point_along j.start j.block p j.done) (point_along j.start j.block p (j.done + 1)))
charge_along at j Path.Line point = refl
charge_along at j (Path.Arc turn centre) point =
    let a = arc_of j.start j.block turn centre in
    charge_codes a at
    ∙ ap₂ (λ (u v : Point). charge_by (Path.Arc turn centre) (pulses_between u v)) point (arc_next a j.start at j.done point)

-- ---- the whole tick

feed_along : (j : BlockInWork) (p : Path) → feed_of (work_along j p) ≡ j.block.feed
unfolding arc_of
feed_along j Path.Line = refl
feed_along j (Path.Arc turn centre) = refl

-- at a block's end nothing is in work, for both
ending : (last : Bool) (w : InWork) → following last (work_of w) ≡ work_of (cond last InWork.nothing w)
ending true w = refl
ending false w = refl

-- what a tick of the book does, in the words of what is in work
abbrev pub advance_told : Ticked → Advance
advance_told k = record { at = k.after.at; remainder = k.after.remainder; byte = k.byte; work = work_of k.after.work }

module _ (q0 : ℕ) (t : Travel) (at : Point) (r : ℕ) (j : BlockInWork) where
  abbrev before : BookBench
  before = bench_of at false r (InWork.working j)

  abbrev here : Work
  here = work_of (InWork.working j)

  cycle_is : JobSound q0 t at j → (f : Fed)
      → record { at = (cycle_of at here).at; remainder = f.remainder; byte = (cycle_of at here).byte; work = (cycle_of at here).work }
      ≡ advance_told (cycle_tick before j f.remainder)
  unfolding cycle_tick block_point block_cycles
  cycle_is sound f = rw (cycle_along_lem t at j j.block.path sound.point (job_here sound), ending _ (InWork.working (onward j)))

  fed_is : JobSound q0 t at j → (f : Fed) → advance_by at here f ≡ advance_told (fed_tick before j f)
  fed_is sound f = by f.cycle refl
    where
      by : (c : Bool) → f.cycle ≡ c → advance_by at here f ≡ advance_told (fed_tick before j f)
      by true e = rw e (cycle_is sound f)
      by false e = rw e

  charge_is : JobSound q0 t at j → charge_of at here ≡ block_charge j.start j.block j.done
  unfolding block_charge block_point
  charge_is sound = charge_along at j j.block.path sound.point

  pub advance_is : JobSound q0 t at j → advance_of q0 at r here ≡ advance_told (bench_tick q0 before)
  unfolding advance_of bench_tick
  advance_is sound =
      ap₂ (λ (c f : ℕ). advance_by at here (fed_of (c * q0) (added_at f) r)) (charge_is sound) (feed_along j j.block.path)
      ∙ fed_is sound (fed_of (cycle_due q0 j) (added_by j.block) r)

  pub mark_kept : (bench_tick q0 before).after.mark ≡ false
  unfolding bench_tick cycle_tick
  mark_kept = by (fed_of (cycle_due q0 j) (added_by j.block) r) (fed_of (cycle_due q0 j) (added_by j.block) r).cycle refl
    where
      by : (f : Fed) (c : Bool) → f.cycle ≡ c → (fed_tick before j f).after.mark ≡ false
      by f true e = rw e
      by f false e = rw e

module _ (s : Settings) where
  abbrev q : ℕ
  q = capacity_of s

  abbrev told : Ticked → BenchTicked
  told k = ticks (Ok k.byte) (bench_told s k.after)

  tick_parts : (at : Point) (mark : Bool) (r : ℕ) (w : InWork)
      → (let k = bench_of at mark r w in
      BenchSound q s.travel k → sound_of (bench_told s k) ≡ true → tick_of (bench_told s k) ≡ told (bench_tick q k))
  unfolding tick_of bench_tick moved_of
  tick_parts at true r InWork.nothing i e = rw e
  tick_parts at false r InWork.nothing i e = rw e
  tick_parts at true r (InWork.working j) i e = rw e
  tick_parts at false r (InWork.working j) i e =
      rw (e, always_working j j.block.path, advance_is q s.travel at r j i.work, mark_kept q s.travel at r j)

  pub tick_is : (k : BookBench) → BenchSound q s.travel k → sound_of (bench_told s k) ≡ true
      → tick_of (bench_told s k) ≡ told (bench_tick q k)
  tick_is k i e = tick_parts k.at k.mark k.remainder k.work i e
