-- What the ticks of a run come to: on the end tick the block's end, before it as many cycles as the sum pays, at most one a tick.
use Rattle.std.specs.Prelude.{◌≡◌, Bool, true, false, leb, length}
use Rattle.std.proofs.Math.Path.{refl, sym, ap}
use Rattle.std.proofs.Common.{◌∙◌, le_of_suc-le-suc, arith, leb-true, leb-false}
use Prim.Native.Nat.{ℕ, zero, suc, ◌+◌, ◌-◌, ◌*◌, ◌≤◌, ◌<◌}
use Rattle.std.proofs.Math.Decide.{dec_le}
use Rattle.plane.specs.declared.point.Point.{Point}
use Rattle.plane.specs.Byte.{cycles_marked}
use Rattle.divider.specs.declared.Gone.{Gone}
use Rattle.divider.specs.computed.Divider.{gone_of, last_tick}
use Rattle.divider.specs.laws.Ticks.{total, Ticked, ticked}
use Rattle.divider.specs.laws.Front.{ticked_none, ticked_idle, ticked_cycle}
use Rattle.divider.specs.laws.Last.{EndsAt, last_tick_lem, not_before}
use Rattle.work.specs.declared.Work.{Work}
use Rattle.work.specs.Work.{is_nothing, added_of, cycles_left, charges_left, end_of}
use Rattle.work.specs.computed.Work.{cycle_of, due_of}
use Rattle.work.specs.laws.Charge.{due_range}
use Rattle.work.specs.laws.Rest.{reached_of, dues_of, reached_none, reached_next, dues_first, dues_next, dues_for}
use Rattle.work.specs.laws.Left.{nothing_is}
use Rattle.run.specs.computed.Run.{Strip, strip_of, SoundIn}
use Rattle.run.specs.laws.Sound.{waiting, still_sound}
use Rattle.run.specs.laws.Cycles.{in_work_lem, cycle_counts, cycle_pays, each_pays, none_pays, added_some, same_feed, same_end}
use Rattle.run.specs.laws.Keep.{marked}
use Rattle.run.specs.laws.Idle.{idle_tick, cycle_tick_lem}

-- ---- to the block's end

-- what a run of t ticks to the end is
pub record Ended (q0 : ℕ) (at : Point) (r : ℕ) (w : Work) (t : ℕ) (s : Strip) : Type 0 where
  pub ticks : length s.bytes ≡ t
  pub reached : s.at ≡ end_of at w
  pub adds_up : charges_left at w * q0 + s.remainder ≡ r + t * added_of w
  pub idle : s.work ≡ Work.Nothing
  pub ended : s.ended ≡ true

-- the end tick, one tick later: the next cycle has the due d, and the j after it together D
module _ (d D a r j t : ℕ) (each : j * a ≤ D) (e : EndsAt (d + D) a r (suc j) (suc t)) where
  ends_idle : r + a < d → EndsAt (d + D) a (r + a) (suc j) t
  ends_idle low =
      record {
        enough = by (dec_le (suc j) t);
        reached = omega (arith, e.reached);
        first = λ s k h. le_of_suc-le-suc (e.first (suc s) (omega arith) (omega arith));
      }
    where
      by : Dec (suc j ≤ t) → suc j ≤ t
      by (yes h) = h
      by (no f) = let same : j ≡ t = omega (arith, e.enough) in absurd (omega (arith, e.reached, ap (λ (n : ℕ). n * a) same))

  module _ (rest : ℕ) (fed : d + rest ≡ r + a) where
    ends_cycle : EndsAt D a rest j t
    ends_cycle = record {
      enough = omega (arith, e.enough);
      reached = omega (arith, e.reached);
      first = λ s k h. le_of_suc-le-suc (e.first (suc s) (omega arith) (omega arith));
    }

    ends_now : j ≡ 0 → D ≡ 0 → t ≡ 0
    ends_now none nothing_due = omega (arith, e.first 1 (omega arith) (omega arith))

-- ---- as far as the ticks go

-- what a run of t ticks that do c cycles is
pub record Short (at : Point) (w : Work) (t c rest : ℕ) (s : Strip) : Type 0 where
  pub ticks : length s.bytes ≡ t
  pub cycles : cycles_marked s.bytes ≡ c
  pub reached : record { at = s.at; work = s.work } ≡ reached_of at w c
  pub left_over : s.remainder ≡ rest
  pub ended : s.ended ≡ false

-- ---- a tick in front

module _ {q0 : ℕ} {at : Point} {r : ℕ} {w : Work} (i : SoundIn q0 at r w) (n t : ℕ) where
  -- a tick without a cycle, and the rest
  ended_idle : r + added_of w < due_of q0 at w → Ended q0 at (r + added_of w) w t (strip_of q0 n at (r + added_of w) w)
      → Ended q0 at r w (suc t) (strip_of q0 (suc n) at r w)
  unfolding strip_of
  ended_idle h s =
      rw (idle_tick q0 at r w h, i.busy)
      (record { ticks = ap suc s.ticks; reached = s.reached; adds_up = omega (arith, s.adds_up); idle = s.idle; ended = s.ended })

  short_idle : (c rest : ℕ) → r + added_of w < due_of q0 at w → Short at w t c rest (strip_of q0 n at (r + added_of w) w)
      → Short at w (suc t) c rest (strip_of q0 (suc n) at r w)
  unfolding strip_of
  short_idle c rest h s =
      rw (idle_tick q0 at r w h, i.busy)
      (record {
        ticks = ap suc s.ticks;
        cycles = omega (arith, s.cycles);
        reached = s.reached;
        left_over = s.left_over;
        ended = s.ended;
      })

  module _ (now : ℕ) (fed : due_of q0 at w + now ≡ r + added_of w) where
    -- a tick with a cycle that is not the last, and the rest
    ended_cycle : (let c = cycle_of at w in
        is_nothing c.work ≡ false → Ended q0 c.at now c.work t (strip_of q0 n c.at now c.work)
        → Ended q0 at r w (suc t) (strip_of q0 (suc n) at r w))
    unfolding strip_of
    ended_cycle more s =
        let feed = same_feed at w more in
        rw (← cycle_tick_lem q0 at r w {rest = now} {c = cycle_of at w} fed refl, more)
        (record {
          ticks = ap suc s.ticks;
          reached = s.reached ∙ same_end i;
          adds_up = omega (arith, s.adds_up, cycle_pays i, ap (λ (f : ℕ). t * (1000 * f)) feed);
          idle = s.idle;
          ended = s.ended;
        })

    short_cycle : (c rest : ℕ) → (let d = cycle_of at w in
        is_nothing d.work ≡ false → Short d.at d.work t c rest (strip_of q0 n d.at now d.work)
        → Short at w (suc t) (suc c) rest (strip_of q0 (suc n) at r w))
    unfolding strip_of
    short_cycle c rest more s =
        rw (← cycle_tick_lem q0 at r w {rest = now} {c = cycle_of at w} fed refl, more)
        (record {
          ticks = ap suc s.ticks;
          cycles = omega (arith, s.cycles, marked at w i.busy);
          reached = s.reached ∙ reached_next at w c more;
          left_over = s.left_over;
          ended = s.ended;
        })

    -- the tick with the last cycle
    only_cycle : (let c = cycle_of at w in is_nothing c.work ≡ true → t ≡ 0 → Ended q0 at r w (suc t) (strip_of q0 (suc n) at r w))
    unfolding strip_of
    only_cycle none at_once =
        let c = cycle_of at w in
        let gone = nothing_is c.work none in
        let paid = cycle_pays i ∙ ap (λ (v : Work). due_of q0 at w + charges_left c.at v * q0) gone in
        rw (← cycle_tick_lem q0 at r w {rest = now} {c = c} fed refl, none)
        (record {
          ticks = ap suc (sym at_once);
          reached = sym (ap (end_of c.at) gone) ∙ same_end i;
          adds_up = omega (arith, paid, ap (λ (j : ℕ). j * added_of w) at_once);
          idle = gone;
          ended = refl;
        })

-- ---- all ticks

-- the charges left, parted: those of the next cycle and of the cycles after it
parted : {q0 : ℕ} {at : Point} {r : ℕ} {w : Work} (i : SoundIn q0 at r w) {t : ℕ} → (let c = cycle_of at w in
    EndsAt (charges_left at w * q0) (added_of w) r (cycles_left at w) t
    → EndsAt (due_of q0 at w + charges_left c.at c.work * q0) (added_of w) r (suc (cycles_left c.at c.work)) t)
parted i e = rw (cycle_pays i, cycle_counts i) at e

pub strip_ends : {q0 : ℕ} (n t : ℕ) {at : Point} {r : ℕ} {w : Work} → SoundIn q0 at r w
    → EndsAt (charges_left at w * q0) (added_of w) r (cycles_left at w) t → t ≤ n → Ended q0 at r w t (strip_of q0 n at r w)
strip_ends n zero i e h = absurd (omega (arith, e.enough, (in_work_lem i).some))
strip_ends zero (suc t) i e h = absurd (omega arith)
strip_ends {q0} (suc n) (suc t) {at} {r} {w} i e h =
    by (leb (due_of q0 at w) (r + added_of w)) refl (is_nothing (cycle_of at w).work) refl
    (λ at r w i e. strip_ends n t {at = at} {r = r} {w = w} i e (le_of_suc-le-suc h))
  where
    by : (due : Bool) → leb (due_of q0 at w) (r + added_of w) ≡ due → (last : Bool) → is_nothing (cycle_of at w).work ≡ last
        → ((at : Point) (r : ℕ) (w : Work) → SoundIn q0 at r w → EndsAt (charges_left at w * q0) (added_of w) r (cycles_left at w) t
        → Ended q0 at r w t (strip_of q0 n at r w))
        → Ended q0 at r w (suc t) (strip_of q0 (suc n) at r w)
    by false late last is rest =
        let below = leb-false (due_of q0 at w) (r + added_of w) late in
        let sound : r + added_of w < 1414 * q0 = omega (arith, (due_range q0 at w).1) in
        let left = ends_idle _ _ _ _ _ _ (each_pays i) (parted i e) below in
        ended_idle i n t below (rest at (r + added_of w) w (waiting i (r + added_of w) sound) (rw (cycle_pays i, cycle_counts i) left))
    by true due false more rest =
        let over = leb-true (due_of q0 at w) (r + added_of w) due in
        let c = cycle_of at w in
        let now = r + added_of w - due_of q0 at w in
        let fed : due_of q0 at w + now ≡ r + added_of w = omega arith in
        let next = still_sound i (cycle_tick_lem q0 at r w fed refl) more in
        ended_cycle i n t now fed more
        (rest c.at now c.work next (rw (same_feed at w more) (ends_cycle _ _ _ _ _ _ (each_pays i) (parted i e) now fed)))
    by true due true none rest =
        let over = leb-true (due_of q0 at w) (r + added_of w) due in
        let c = cycle_of at w in
        let now = r + added_of w - due_of q0 at w in
        let fed : due_of q0 at w + now ≡ r + added_of w = omega arith in
        let gone : cycles_left c.at c.work ≡ 0 = ap (cycles_left c.at) (nothing_is c.work none) in
        only_cycle i n t now fed none (ends_now _ _ _ _ _ _ (each_pays i) (parted i e) now fed gone (none_pays i gone))

-- ---- before the end, by the divider's count

-- a tick adds no more than any due
pub each_due : {q0 : ℕ} {at : Point} {r : ℕ} {w : Work} → SoundIn q0 at r w → (c : ℕ) → added_of w ≤ dues_of q0 at w c
each_due {q0} {at} {w = w} i c =
    omega (arith, (in_work_lem i).feed.most, (due_range q0 (reached_of at w c).at (reached_of at w c).work).0)

abbrev TicksOf : (q0 : ℕ) (at : Point) (r : ℕ) (w : Work) → SoundIn q0 at r w → (t : ℕ) → Gone → Type 0
TicksOf q0 at r w i t g = Ticked (dues_of q0 at w) (added_of w) (added_some i) (each_due i) r t g

pub strip_short : {q0 : ℕ} (t : ℕ) (g : Gone) {at : Point} {r : ℕ} {w : Work} (i : SoundIn q0 at r w) → TicksOf q0 at r w i t g
    → g.cycles < cycles_left at w → Short at w t g.cycles g.remainder (strip_of q0 t at r w)
unfolding strip_of total
strip_short {q0} zero g {at} {r} {w} i p h =
    let none = ticked_none (dues_of q0 at w) (added_of w) (added_some i) (each_due i) p in
    let there = sym (ap (reached_of at w) none.0 ∙ reached_none q0 i.travel at w i.sound) in
    record { ticks = refl; cycles = sym none.0; reached = there; left_over = sym none.1; ended = refl }
strip_short {q0} (suc t) g {at} {r} {w} i p h =
    by (leb (due_of q0 at w) (r + added_of w)) refl (is_nothing (cycle_of at w).work) refl
    (λ g at r w i p h. strip_short t g {at = at} {r = r} {w = w} i p h)
  where
    first : dues_of q0 at w 0 ≡ due_of q0 at w
    first = dues_first q0 at i.travel w i.sound

    by : (due : Bool) → leb (due_of q0 at w) (r + added_of w) ≡ due → (last : Bool) → is_nothing (cycle_of at w).work ≡ last
        → ((g : Gone) (at : Point) (r : ℕ) (w : Work) (i : SoundIn q0 at r w) → TicksOf q0 at r w i t g → g.cycles < cycles_left at w
        → Short at w t g.cycles g.remainder (strip_of q0 t at r w))
        → Short at w (suc t) g.cycles g.remainder (strip_of q0 (suc t) at r w)
    by false late last is more =
        let below = leb-false (due_of q0 at w) (r + added_of w) late in
        let sound : r + added_of w < 1414 * q0 = omega (arith, (due_range q0 at w).1) in
        let q = ticked_idle (dues_of q0 at w) (added_of w) (added_some i) (each_due i) p (omega (arith, first)) in
        let same : TicksOf q0 at (r + added_of w) w (waiting i (r + added_of w) sound) t g =
        record { most = q.most; adds_up = q.adds_up; below = q.below } in
        short_idle i t t g.cycles g.remainder below (more g at (r + added_of w) w (waiting i (r + added_of w) sound) same h)
    by true due false goes more =
        let over = leb-true (due_of q0 at w) (r + added_of w) due in
        let d = cycle_of at w in
        let now = r + added_of w - due_of q0 at w in
        let fed : due_of q0 at w + now ≡ r + added_of w = omega arith in
        let next = still_sound i (cycle_tick_lem q0 at r w fed refl) goes in
        let feed = same_feed at w goes in
        let same : added_of d.work ≡ added_of w = ap (λ (f : ℕ). 1000 * f) feed in
        let least : (c : ℕ) → added_of w ≤ dues_of q0 d.at d.work c = λ c. omega (arith, same, each_due next c) in
        let q =
        ticked_cycle (dues_of q0 at w) (added_of w) (added_some i) (each_due i) (dues_of q0 d.at d.work) least
        (dues_next q0 at w goes) {now = now} p (omega (arith, first)) in
        let rest : Gone = record { cycles = g.cycles - 1; remainder = g.remainder } in
        let ticks : TicksOf q0 d.at now d.work next t rest =
        record { most = q.1.most; adds_up = omega (arith, q.1.adds_up, ap (λ (x : ℕ). t * x) same); below = q.1.below } in
        let one : suc (g.cycles - 1) ≡ g.cycles = omega (arith, q.0) in
        let onward = more rest d.at now d.work next ticks (omega (arith, h, cycle_counts i, one)) in
        rw one at (short_cycle i t t now fed (g.cycles - 1) g.remainder goes onward)
    by true due true none more =
        let d = cycle_of at w in
        let over = leb-true (due_of q0 at w) (r + added_of w) due in
        let left = cycle_counts i ∙ ap (λ (v : Work). suc (cycles_left d.at v)) (nothing_is d.work none) in
        absurd (some_cycle over g.cycles (omega (arith, h, left)) p.adds_up p.below)
      where
        -- the due is reached, so there is a cycle
        some_cycle : due_of q0 at w ≤ r + added_of w → (c : ℕ) → c < 1 → total (dues_of q0 at w) c + g.remainder ≡ r + suc t * added_of w
            → (c < suc t → g.remainder < dues_of q0 at w c) → ⊥
        some_cycle over zero l e b = omega (arith, b (omega arith), first)
        some_cycle over (suc c) l e b = omega arith

-- ---- by the end tick and the divider's sums

module _ {q0 : ℕ} {at : Point} {r : ℕ} {w : Work} (i : SoundIn q0 at r w) where
  abbrev last : ℕ
  last = last_tick (charges_left at w * q0) (added_of w) r (cycles_left at w)

  pub end_tick_lem : EndsAt (charges_left at w * q0) (added_of w) r (cycles_left at w) last
  end_tick_lem = last_tick_lem (charges_left at w * q0) (added_of w) r (cycles_left at w) (added_some i)

  -- ticks before the last
  module _ (t : ℕ) (early : t < last) where
    pub cycles_fewer : (gone_of (dues_of q0 at w) (added_of w) r t).cycles < cycles_left at w
    cycles_fewer =
        let d = dues_of q0 at w in
        not_before d (added_of w) (added_some i) (each_due i) r (cycles_left at w) (in_work_lem i).some t
        (rw (dues_for q0 at w i.busy (cycles_left at w)) early)

    pub strip_early : (let g = gone_of (dues_of q0 at w) (added_of w) r t in Short at w t g.cycles g.remainder (strip_of q0 t at r w))
    strip_early =
        let d = dues_of q0 at w in
        strip_short t (gone_of d (added_of w) r t) i (ticked d (added_of w) (added_some i) (each_due i) r t) cycles_fewer
