-- A run from cycle to cycle: its n bytes are cleared before, and each turn writes one cycle's byte.
use Rattle.std.specs.Prelude.{◌≡◌, refl, Bool, true, List, ℕ, suc, ◌+◌, ◌-◌, ◌*◌, ◌≤◌, ◌<◌, min, length, set}
use Rattle.std.proofs.Common.{sym, ◌∙◌, mul-le-mul_left, arith}
use Rattle.std.proofs.Math.Path.{ap}
use Rattle.std.proofs.Math.Bool.{false}
use Rattle.plane.specs.declared.point.Point.{Point}
use Rattle.divider.specs.computed.Divider.{last_tick}
use Rattle.work.specs.declared.Work.{Work}
use Rattle.work.specs.declared.Cycle.{Cycle}
use Rattle.work.specs.laws.Charge.{due_range}
use Rattle.work.specs.laws.Left.{nothing_is}
use Rattle.work.specs.Work.{is_nothing, feed_of, cycles_left, charges_left, added_of, end_of}
use Rattle.work.specs.computed.Work.{cycle_of, due_of, advance_of}
use Rattle.run.specs.declared.gap.Gap.{Gap}
use Rattle.run.specs.computed.Run.{Strip, strip_of, SoundIn}
use Rattle.run.specs.computed.Gap.{gap_of, later, next_gap, remainder_at, Before, cleared_of}
use Rattle.run.specs.laws.Going.{Going, Answer, going_start, going_on_lem, going_end, going_out}
use Rattle.run.specs.laws.Sound.{waiting, still_sound}
use Rattle.run.specs.laws.Gap.{DueGap, gap_due, gap_sound}
use Rattle.run.specs.laws.Left.{Left, left_start, left_some, left_turn, left_out, left_end}
use Rattle.run.specs.laws.Keep.{cycles_over, ran_left}
use Rattle.run.specs.laws.Cycles.{in_work_lem, cycle_counts, cycle_pays, each_pays, none_pays, added_some}
use Rattle.run.specs.laws.Cycles.{feed_due, due_most, end_range, same_feed, same_end}
use Rattle.run.specs.laws.Idle.{cycle_tick_lem, cleared_length, cleared_twice, going_idle, answer_old}

-- `done` ticks are done, up to a cycle, which left the remainder `rest`; the count of cycles went from `from` to c; g is the gap to the
-- next; in out₀ the n bytes are cleared
pub record Cycling (q0 f most : ℕ) (all : Strip) (out₀ out : List ℕ) (last n from c : ℕ) (at : Point) (w : Work) (g : Gap) : Type 0 where
  pub done : ℕ
  pub rest : ℕ
  pub going : Going q0 most all out₀ out done at rest w
  pub cleared : out₀ ≡ cleared_of n out₀
  pub left : Left (added_of w) most last n done (charges_left at w * q0) (cycles_left at w) rest
  pub few : n ≤ 9400000 * q0
  pub work : SoundIn q0 at rest w
  pub feed : feed_of w ≡ f
  pub gap : g ≡ later done (gap_of (due_of q0 at w) (added_of w) rest)
  pub since : from ≤ c
  pub counted : cycles_over all ≡ c - from + cycles_left at w
  pub countable : cycles_over all ≤ 8000000

pub cycling_start : {q0 : ℕ} {at : Point} {r : ℕ} {w : Work} {last n : ℕ} {g : Gap} (most : ℕ) (old : List ℕ) {out : List ℕ}
    → SoundIn q0 at r w → most ≤ length old
    → last ≡ min most (last_tick (charges_left at w * q0) (added_of w) r (cycles_left at w) - 1)
    → n ≡ min most (last_tick (charges_left at w * q0) (added_of w) r (cycles_left at w))
    → out ≡ cleared_of n old → g ≡ gap_of (due_of q0 at w) (added_of w) r
    → (from : ℕ) → Cycling q0 (feed_of w) most (strip_of q0 most at r w) out out last n from from at w g
cycling_start {q0} {at} {r} {w} {last} {n} {g} most old {out} i room before e clear gap from =
    let l : Left (added_of w) most last n 0 (charges_left at w * q0) (cycles_left at w) r =
    rw (before, e) (left_start (added_of w) most (charges_left at w * q0) r (cycles_left at w) (added_some i) (in_work_lem i).some) in
    record {
      done = 0;
      rest = r;
      going = going_start q0 most out at r w (omega (arith, ap length clear, cleared_length n old (omega (arith, l.short))));
      cleared = clear ∙ sym (cleared_twice n old) ∙ ap (cleared_of n) (sym clear);
      left = l;
      few = omega (arith, (end_range i).1);
      work = i;
      feed = refl;
      gap = gap ∙ ap (λ (t : ℕ). record { ticks = t; remainder = (gap_of (due_of q0 at w) (added_of w) r).remainder }) (omega arith);
      since = omega arith;
      counted = omega (arith, ran_left i most);
      countable = omega (arith, ran_left i most, (in_work_lem i).few);
    }

-- the buffer keeps its length
pub cleared_long : (most : ℕ) (old : List ℕ) {out : List ℕ} {n : ℕ} → most ≤ length old → n ≤ most → out ≡ cleared_of n old
    → length out ≡ length old
cleared_long most old room short clear = ap length clear ∙ cleared_length _ old (omega arith)

pub some_left : (at : Point) (w : Work) → 1 ≤ cycles_left at w → is_nothing w ≡ false
some_left at Work.Nothing h = absurd (omega arith)
some_left at (Work.Line l) h = refl
some_left at (Work.Arc a) h = refl

module _ {q0 f most : ℕ} {all : Strip} {out₀ out : List ℕ} {last n from c : ℕ} {at : Point} {w : Work} {g : Gap}
    (s : Cycling q0 f most all out₀ out last n from c at w g) where
  -- the buffer keeps its length
  pub cycling_long : (old : List ℕ) → most ≤ length old → out₀ ≡ cleared_of n old → length out ≡ length old
  cycling_long old room clear = s.going.long ∙ cleared_long most old room s.left.short clear

  -- the gap, counted from the last cycle
  abbrev ahead : Gap
  ahead = gap_of (due_of q0 at w) (added_of w) s.rest

  ticks_are : g.ticks ≡ s.done + ahead.ticks
  ticks_are = ap (λ (x : Gap). x.ticks) s.gap

  due : DueGap (due_of q0 at w) (added_of w) s.rest ahead
  due = gap_due (due_of q0 at w) (added_of w) s.rest (added_some s.work)

  remainder_is : due_of q0 at w + g.remainder ≡ s.rest + ahead.ticks * added_of w + added_of w
  remainder_is = ap (λ (x : Gap). due_of q0 at w + x.remainder) s.gap ∙ due.leaves

  sound : (s.rest + ahead.ticks * added_of w < 1414 * q0) × (ahead.remainder < 1414 * q0)
  sound = let d = due_range q0 at w in gap_sound (1414 * q0) (feed_due s.work).most d.1 s.work.below due

  -- what the code of the next gap asks
  pub gap_left : g.remainder ≤ 1696800000000
  gap_left = omega (arith, ap (λ (x : Gap). x.remainder) s.gap, sound.1, s.work.capacity)

  waits : SoundIn q0 at (s.rest + ahead.ticks * added_of w) w
  waits = waiting s.work (s.rest + ahead.ticks * added_of w) sound.0

  -- the next cycle's due, and those of the cycles after it
  parted : Left (added_of w) most last n s.done (due_of q0 at w + charges_left (cycle_of at w).at (cycle_of at w).work * q0)
      (suc (cycles_left (cycle_of at w).at (cycle_of at w).work)) s.rest
  parted = rw (cycle_pays s.work, cycle_counts s.work) at s.left

  module _ {k : Cycle} (e : k ≡ cycle_of at w) where
    tick : record { at = k.at; remainder = ahead.remainder; byte = k.byte; work = k.work }
        ≡ advance_of q0 at (s.rest + ahead.ticks * added_of w) w
    tick = cycle_tick_lem q0 at (s.rest + ahead.ticks * added_of w) w due.leaves e

    before : s.done + ahead.ticks ≤ n → Going q0 most all out₀ out (s.done + ahead.ticks) at (s.rest + ahead.ticks * added_of w) w
    before h = going_idle s.cleared s.going s.work.busy s.left.short ahead.ticks h due.before

  -- before the tick `last` no cycle ends the block
  pub goes_on : g.ticks < last → is_nothing (cycle_of at w).work ≡ false
  goes_on h =
      some_left (cycle_of at w).at (cycle_of at w).work
      (left_some (added_some s.work) due (each_pays s.work) (none_pays s.work) parted (omega (arith, ticks_are)))

  -- the count of cycles stays small
  pub count_few : c - from < 8000000
  count_few = omega (arith, s.counted, s.countable, (in_work_lem s.work).some)

  -- a cycle more
  counts_on : {k : Cycle} → k ≡ cycle_of at w → (from ≤ c + 1) × (cycles_over all ≡ c + 1 - from + cycles_left k.at k.work)
  counts_on e = rw e (omega (arith, s.since), omega (arith, s.since, s.counted, cycle_counts s.work))

  pub cycling_on : g.ticks < last → {k : Cycle} → k ≡ cycle_of at w
      → {next : Gap} → next ≡ next_gap (due_of q0 k.at k.work) (1000 * f) g
      → Cycling q0 f most all out₀ (set out g.ticks k.byte) last n from (c + 1) k.at k.work next
  unfolding next_gap
  cycling_on h {k} e {next} gap =
      let more : is_nothing k.work ≡ false = rw e (goes_on h) in
      let early : s.done + ahead.ticks < last = omega (arith, ticks_are) in
      let feed = ap (λ (x : Cycle). feed_of x.work) e ∙ same_feed at w (goes_on h) in
      let l : Left (added_of k.work) most last n (s.done + ahead.ticks + 1) (charges_left k.at k.work * q0)
      (cycles_left k.at k.work) ahead.remainder =
      rw feed (rw e (left_turn (added_some s.work) due (each_pays s.work) (none_pays s.work) parted early)) in
      record {
        done = s.done + ahead.ticks + 1;
        rest = ahead.remainder;
        going = rw s.gap (going_on_lem (before e (omega (arith, s.left.low))) (omega (arith, s.left.low, s.left.short)) (tick e) more);
        cleared = s.cleared;
        left = l;
        few = s.few;
        work = still_sound waits (tick e) more;
        feed = feed ∙ s.feed;
        gap =
            gap
            ∙ ap (λ (a : ℕ). later (g.ticks + 1) (gap_of (due_of q0 k.at k.work) (1000 * a) g.remainder)) (sym (feed ∙ s.feed))
            ∙ ap (λ (x : Gap). later (x.ticks + 1) (gap_of (due_of q0 k.at k.work) (added_of k.work) x.remainder)) s.gap;
        since = (counts_on e).0;
        counted = (counts_on e).1;
        countable = s.countable;
      }

  -- the tick that ends it, where there is one
  module _ (m : last < n) (h : last ≤ g.ticks) where
    last_tick_lem : (s.done + ahead.ticks ≡ last) × (s.done + ahead.ticks + 1 ≡ n)
        × (cycles_left (cycle_of at w).at (cycle_of at w).work ≡ 0)
    last_tick_lem = left_end (added_some s.work) due (each_pays s.work) (none_pays s.work) parted m (omega (arith, ticks_are))

    pub ends_now : is_nothing (cycle_of at w).work ≡ true
    ends_now = by (is_nothing (cycle_of at w).work) refl
      where
        by : (b : Bool) → is_nothing (cycle_of at w).work ≡ b → is_nothing (cycle_of at w).work ≡ true
        by true e = e
        by false e = absurd (omega (arith, (in_work_lem (still_sound waits (tick refl) e)).some, last_tick_lem.2))

    pub cycling_end : {byte : ℕ} → byte ≡ (cycle_of at w).byte → {old : List ℕ} → out₀ ≡ cleared_of n old
        → Answer all old (set out last byte)
        (record { ticks = n; cycles = c + 1 - from; ended = true; at = end_of at w; remainder = g.remainder; work = Work.Nothing })
    cycling_end {byte} e clear =
        let nothing = nothing_is (cycle_of at w).work ends_now in
        let there = ap (end_of (cycle_of at w).at) (sym nothing) ∙ same_end s.work in
        let k : record { at = end_of at w; byte = byte; work = Work.Nothing } ≡ cycle_of at w =
        λ i. record { at = sym there i; byte = e i; work = sym nothing i } in
        let short = last_tick_lem.1 in
        let end = going_end (before k (omega (arith, short))) (omega (arith, short, s.left.short)) (tick k) refl (counts_on k).1 in
        rw s.gap (rw (last_tick_lem.1, last_tick_lem.0) at (answer_old clear end last_tick_lem.1))

  -- with no cycle before n the ticks are used up there
  module _ (m : n ≤ last) (h : last ≤ g.ticks) where
    out_of : (n ≡ most) × (1 ≤ n - s.done → s.rest + (n - s.done) * added_of w < due_of q0 at w)
    out_of = left_out (added_some s.work) due (each_pays s.work) (none_pays s.work) parted m (omega (arith, ticks_are))

    -- what ticks add to the next cycle
    ticks : (g.ticks + 1 - n) * added_of w + (n - s.done) * added_of w ≡ ahead.ticks * added_of w + added_of w
    ticks =
        let sum : g.ticks + 1 - n + (n - s.done) ≡ ahead.ticks + 1 = omega (arith, ticks_are, s.left.here, s.left.low) in
        omega (arith, ap (λ (x : ℕ). x * added_of w) sum)

    pub out_asks : Before (due_of q0 at w) (added_of w) g n
    out_asks = record {
      within = omega (arith, s.left.low);
      early = omega (
        arith,
        ticks_are,
        s.left.here,
        s.left.low,
        s.few,
        mul-le-mul_left 9400000 s.work.capacity,
        s.work.capacity,
        sound.0,
        mul-le-mul_left ahead.ticks (added_some s.work),
      );
      small = omega (arith, gap_left, due_most s.work);
      off = omega (arith, ticks, remainder_is);
    }

    pub cycling_out : {old : List ℕ} → out₀ ≡ cleared_of n old
        → Answer all old out
        (record {
          ticks = n;
          cycles = c - from;
          ended = false;
          at = at;
          remainder = remainder_at (due_of q0 at w) (added_of w) g n;
          work = w;
        })
    unfolding remainder_at
    cycling_out clear =
        let all_done : s.done + (n - s.done) ≡ n = omega (arith, s.left.here, s.left.low) in
        let rest : g.remainder + due_of q0 at w - (g.ticks + 1 - n) * added_of w ≡ s.rest + (n - s.done) * added_of w =
        omega (arith, ticks, remainder_is) in
        let idle = going_idle s.cleared s.going s.work.busy s.left.short (n - s.done) (omega arith) out_of.1 in
        rw rest (answer_old clear (rw all_done at (going_out idle (omega (arith, out_of.0)) s.counted)) refl)
