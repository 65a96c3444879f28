-- A run without its bytes: what its code asks, and what it answers.
use Rattle.std.specs.Prelude.{◌≡◌, refl, true, false, ℕ, suc, ◌+◌, ◌-◌, ◌*◌, ◌/◌, ◌^◌, ◌≤◌, ◌<◌, min}
use Rattle.std.proofs.Common.{sym, ◌∙◌, mul-le-mul_right, lt_of_mul-lt-mul_right, div-lt_iff_lt-mul, arith}
use Rattle.std.proofs.Math.Path.{ap}
use Rattle.std.proofs.Math.Nat.{lt-div-mul-add}
use Rattle.plane.specs.declared.point.Point.{Point}
use Rattle.plane.specs.Byte.{cycles_marked}
use Rattle.plane.specs.laws.Travel.{inside}
use Rattle.divider.specs.declared.End.{End}
use Rattle.divider.specs.declared.Gone.{Gone}
use Rattle.divider.specs.computed.Divider.{ending_of, gone_of}
use Rattle.divider.specs.laws.Ticks.{ticked, counts}
use Rattle.divider.specs.laws.Last.{last_most}
use Rattle.line.specs.declared.line.Line.{Line}
use Rattle.line.specs.Line.{line_point}
use Rattle.line.specs.computed.Line.{drawn_of}
use Rattle.line.specs.laws.Work.{drawn_test}
use Rattle.charges.specs.laws.Paid.{Most}
use Rattle.arc.specs.declared.arc.Arc.{Arc}
use Rattle.charges.specs.declared.Paid.{Paid}
use Rattle.arc.specs.computed.Arc.{arc_after, arc_cycles}
use Rattle.arc.specs.computed.Charge.{arc_charges_in, arc_paid_of}
use Rattle.arc.specs.laws.Charge.{arc_paid_unique}
use Rattle.work.specs.declared.Work.{Work}
use Rattle.work.specs.declared.rest.Left.{Left}
use Rattle.work.specs.computed.Work.{work_sound, last_tick_for}
use Rattle.work.specs.Work.{added_of, cycles_left, charges_left}
use Rattle.work.specs.computed.Rest.{left_of, Countable}
use Rattle.work.specs.laws.Sound.{line_work}
use Rattle.work.specs.laws.Rest.{line_on, Reached, reached_of, dues_of, countable, dues_for}
use Rattle.run.specs.computed.Run.{strip_of, ran_of, SoundIn}
use Rattle.run.specs.laws.Keep.{ran_left}
use Rattle.run.specs.laws.Cycles.{in_work_lem, added_some, all_pays, end_fits}
use Rattle.run.specs.laws.Strip.{strip_ends, end_tick_lem, each_due, cycles_fewer, strip_early}

module _ {q0 : ℕ} {at : Point} {r : ℕ} {w : Work} (i : SoundIn q0 at r w) where
  pub skip_counts : Countable at w
  skip_counts = countable q0 i.travel at w i.wide (inside i.inside) i.sound

  -- ---- to the end

  module _ {l : Left} (left : l ≡ left_of at w) where
    pub end_asks : (1 ≤ 1000 * l.feed) × (l.cycles * (1000 * l.feed) ≤ l.charges * q0) × (l.charges * q0 + 1000 * l.feed + r < 2 ^ 64)
    end_asks = rw left (added_some i, all_pays i, end_fits i)

    module _ {e : End} (last : e ≡ ending_of (l.charges * q0) (1000 * l.feed) r l.cycles) where
      pub ends_skip : (t : ℕ) → e.tick ≤ t
          → record { ticks = e.tick; cycles = l.cycles; ended = true; at = l.end; remainder = e.remainder; work = Work.Nothing }
          ≡ ran_of (strip_of q0 t at r w)
      ends_skip t h =
          let s = strip_ends t (last_tick_for q0 at r w) i (end_tick_lem i) (rw (last, left) at h) in
          let done : cycles_marked (strip_of q0 t at r w).bytes ≡ cycles_left at w =
          omega (arith, ran_left i t, ap (cycles_left (strip_of q0 t at r w).at) s.idle) in
          let D = charges_left at w * q0 in
          let rest : (strip_of q0 t at r w).remainder ≡ (ending_of D (added_of w) r (cycles_left at w)).remainder =
          omega (arith, s.adds_up) in
          rw (last, left, s.ended, s.ticks, s.reached, rest, s.idle, done)

      -- the ticks end before the block
      pub skip_early : (t : ℕ) → t < e.tick → t < last_tick_for q0 at r w
      skip_early t h = rw (last, left) at h

  -- ---- before the end

  module _ (t : ℕ) (early : t < last_tick_for q0 at r w) where
    -- what the ticks add fits
    pub sum_fits : r + t * added_of w < 2 ^ 64
    sum_fits =
        let most = last_most (charges_left at w * q0) (added_of w) r (cycles_left at w) (added_some i) (all_pays i) in
        let less : t ≤ last_tick_for q0 at r w = omega arith in
        omega (arith, most, mul-le-mul_right (added_of w) less, end_fits i)

    -- the run's answer by what the ticks have done
    pub ran_short : (let g = gone_of (dues_of q0 at w) (added_of w) r t in let s = reached_of at w g.cycles in
        record { ticks = t; cycles = g.cycles; ended = false; at = s.at; remainder = g.remainder; work = s.work }
        ≡ ran_of (strip_of q0 t at r w))
    ran_short =
        let s = strip_early i t early in
        let g = gone_of (dues_of q0 at w) (added_of w) r t in
        rw (s.ended, s.ticks, s.cycles, s.left_over)
        (ap (λ (x : Reached). record { ticks = t; cycles = g.cycles; ended = false; at = x.at; remainder = g.remainder; work = x.work })
        (sym s.reached))

-- ---- a line

module _ {q0 : ℕ} {at : Point} {r : ℕ} (l : Line) (i : SoundIn q0 at r (Work.Line l))
    (t : ℕ) (early : t < last_tick_for q0 at r (Work.Line l)) where
  pub line_on_asks : (1 ≤ 1000 * l.feed) × (1000 * l.feed ≤ 1000 * q0) × (r + t * (1000 * l.feed) < 2 ^ 64)
  line_on_asks = (added_some i, omega (arith, (in_work_lem i).feed.most), sum_fits i t early)

  module _ {g : Gone} (gone : g ≡ gone_of (λ c. 1000 * q0) (1000 * l.feed) r t) where
    -- a line's cycles have one due
    same_dues : g ≡ gone_of (dues_of q0 at (Work.Line l)) (1000 * l.feed) r t
    unfolding reached_of
    same_dues = gone

    fewer : l.done + g.cycles < l.cycles
    fewer = let h = cycles_fewer i t early in omega (arith, h, ap (λ (x : Gone). x.cycles) same_dues)

    pub line_on_drawn : drawn_of (line_on l g.cycles) ≡ true
    unfolding work_sound
    line_on_drawn =
        let d = (line_work i.sound).line.drawing in
        drawn_test (record { short_x = d.short_x; short_y = d.short_y; own = d.own; due = fewer })

    pub line_on_ran : record {
      ticks = t;
      cycles = g.cycles;
      ended = false;
      at = line_point l.start l.end (l.done + g.cycles);
      remainder = g.remainder;
      work = Work.Line (line_on l g.cycles);
    } ≡ ran_of (strip_of q0 t at r (Work.Line l))
    unfolding reached_of
    line_on_ran = rw gone (ran_short i t early)

-- ---- an arc

module _ {q0 : ℕ} {at : Point} {r : ℕ} (a : Arc) (i : SoundIn q0 at r (Work.Arc a)) (t : ℕ)
    (early : t < last_tick_for q0 at r (Work.Arc a)) where
  abbrev sum : ℕ
  sum = r + t * (1000 * a.feed)

  abbrev done : ℕ
  done = (gone_of (dues_of q0 at (Work.Arc a)) (1000 * a.feed) r t).cycles

  some : 1 ≤ q0
  some = omega (arith, (in_work_lem i).feed)

  -- the cycles done are the most that whole charges of the sum pay
  pays : Most (arc_charges_in a at) (sum / q0) (min t (arc_cycles a at - 1)) done
  pays =
      let d = dues_of q0 at (Work.Arc a) in
      let c = counts d (1000 * a.feed) (added_some i) (each_due i) r t in
      record {
        within = omega (arith, c.most, cycles_fewer i t early);
        pays = holds (arc_charges_in a at done) (omega (arith, c.paid, dues_for q0 at (Work.Arc a) refl done));
        stops = λ h. (div-lt_iff_lt-mul some).1 (omega (arith, c.no_more (omega arith), dues_for q0 at (Work.Arc a) refl (suc done)));
      }
    where
      holds : (x : ℕ) → x * q0 ≤ sum → x ≤ sum / q0
      holds x h =
          let z : x < sum / q0 + 1 = lt_of_mul-lt-mul_right q0 {m = x} {n = sum / q0 + 1} (omega (arith, lt-div-mul-add {a = sum} some)) in
          omega arith

  module _ {p : Paid Point} (paid : p ≡ arc_paid_of a at (min t (arc_cycles a at - 1)) (sum / q0)) where
    paid_is : p ≡ record { cycles = done; charges = arc_charges_in a at done; at = arc_after a at done }
    unfolding arc_paid_of
    paid_is =
        let c = arc_paid_unique a at _ _ done pays in
        paid ∙ ap (λ (n : ℕ). record { cycles = n; charges = arc_charges_in a at n; at = arc_after a at n }) (sym c)

    adds_up : p.charges * q0 + (gone_of (dues_of q0 at (Work.Arc a)) (1000 * a.feed) r t).remainder ≡ sum
    adds_up =
        let d = dues_of q0 at (Work.Arc a) in
        let e = (ticked d (1000 * a.feed) (added_some i) (each_due i) r t).adds_up in
        omega (arith, e, dues_for q0 at (Work.Arc a) refl done, ap (λ (x : Paid Point). x.charges * q0) paid_is)

    pub paid_fits : p.charges * q0 ≤ sum
    paid_fits = omega (arith, adds_up)

    pub arc_on_ran :
        record { ticks = t; cycles = p.cycles; ended = false; at = p.at; remainder = sum - p.charges * q0; work = Work.Arc a }
        ≡ ran_of (strip_of q0 t at r (Work.Arc a))
    unfolding reached_of
    arc_on_ran =
        let rest : sum - p.charges * q0 ≡ (gone_of (dues_of q0 at (Work.Arc a)) (1000 * a.feed) r t).remainder = omega (arith, adds_up) in
        rw (rest, paid_is) (ran_short i t early)
