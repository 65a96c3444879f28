-- A stretch of working ticks on one block: what they add to the point, to the charges and to the remainder. A tick is one, and so is a run.
use Rattle.std.specs.Prelude.{◌≡◌, Bool, cond, List, [], ◌∷◌, eqb, ℤ, ◌+ℤ◌, length}
use Rattle.std.proofs.Math.Path.{refl, ap}
use Rattle.std.proofs.Common.{sym, ap₂, subst, ◌∙◌, true≢false, arith, eqb-true}
use Rattle.std.proofs.Math.Bool.{true, false}
use Prim.Native.Nat.{ℕ, zero, suc, ◌+◌, ◌*◌, ◌≤◌, ◌<◌}
use Rattle.std.proofs.Math.IntN.{+ℤ_idr}
use Rattle.std.proofs.lemmas.Bool.{eqb-false}
use Rattle.plane.specs.declared.point.Point.{Point}
use Rattle.plane.specs.declared.travel.Travel.{Travel}
use Rattle.plane.specs.Pulse.{pulse_of, shifted_of, pulses_between}
use Rattle.plane.specs.Byte.{cycle_byte, code_x, code_y, cycle_mark}
use Rattle.plane.specs.laws.Byte.{told}
use Rattle.divider.specs.declared.Fed.{Fed}
use Rattle.divider.specs.laws.Ticks.{Tick, does_one, does_none, tick}
use Rattle.block.specs.declared.Block.{Block}
use Rattle.block.specs.Block.{block_cycles, block_point}
use Rattle.block.specs.Charge.{charge_by, charges_to, block_charges}
use Rattle.block.proofs.laws.Charge.{charge_is, charges_suc}
use Rattle.book.specs.Bench.{BlockInWork, InWork, Bench, Ticked, TicksDone, is_nothing, added_by, cycle_due}
use Rattle.book.specs.Bench.{cycle_tick, fed_tick, bench_tick, in_front, ticks_done}
use Rattle.book.specs.Sums.{pulses_in, charge_marked, charges_marked}
use Rattle.book.proofs.laws.Byte.{sent_one, onward, Silent, zero_silent, none_silent}
use Rattle.book.proofs.laws.Sound.{bench_of, JobSound, WorkSound, BenchSound, job_charge, job_paid, job_charges, Below, below_due}
use Rattle.book.proofs.laws.Sound.{job_way, job_inside}

-- the block goes on, or its last cycle was done: then the remainder is less than a tick adds, for the tick before had not reached the due
pub record Going (j : BlockInWork) (charges : ℕ) (next : BlockInWork) : Type 0 where
  pub block : next.block ≡ j.block
  pub start : next.start ≡ j.start
  pub paid : job_paid next ≡ job_paid j + charges

pub record Over (j : BlockInWork) (charges : ℕ) (at : Point) (r : ℕ) : Type 0 where
  pub reached : at ≡ j.block.end
  pub paid : job_paid j + charges ≡ job_charges j
  pub early : r < added_by j.block

abbrev pub Left : BlockInWork → (charges : ℕ) → Point → ℕ → InWork → Type 0
Left j charges at r InWork.nothing = Over j charges at r
Left j charges at r (InWork.working next) = Going j charges next

-- what the bytes of a stretch are charged
abbrev pub stretch_charges : BlockInWork → (bytes : List ℕ) → ℕ
stretch_charges j bytes = charges_marked j.block.path bytes

pub record Stretch (q0 : ℕ) (t : Travel) (at : Point) (r : ℕ) (j : BlockInWork) (bytes : List ℕ) (after : Bench) : Type 0 where
  pub x : after.at.x ≡ at.x +ℤ pulses_in code_x bytes
  pub y : after.at.y ≡ at.y +ℤ pulses_in code_y bytes
  pub feeds : stretch_charges j bytes * q0 + after.remainder ≡ r + length bytes * added_by j.block
  pub free : after.mark ≡ false
  pub sound : BenchSound q0 t after
  pub left : Left j (stretch_charges j bytes) after.at after.remainder after.work

module _ (q0 : ℕ) (t : Travel) where
  abbrev TickStretch : Point → ℕ → BlockInWork → Ticked → Type 0
  TickStretch at r j k = Stretch q0 t at r j (k.byte ∷ []) k.after

  -- ---- one tick

  -- without a cycle only the remainder grows
  standing : {bytes : List ℕ} → Silent bytes → (at : Point) (r : ℕ) (j : BlockInWork) → JobSound q0 t at j
      → (r' : ℕ) → r' ≡ r + length bytes * added_by j.block → r' < cycle_due q0 j
      → Stretch q0 t at r j bytes (bench_of at false r' (InWork.working j))
  standing silent at r j s r' adds below =
      let none = silent.charges j.block.path in
      record {
        x = sym (rw silent.x (+ℤ_idr at.x));
        y = sym (rw silent.y (+ℤ_idr at.y));
        feeds = rw none (omega arith);
        free = refl;
        sound = record { below = below; inside = job_inside s; work = s };
        left = record { block = refl; start = refl; paid = rw none (omega arith) };
      }

  one_cycle : (at : Point) (r : ℕ) (j : BlockInWork) → JobSound q0 t at j → r < cycle_due q0 j
      → (r' : ℕ) → cycle_due q0 j + r' ≡ r + added_by j.block
      → TickStretch at r j (cycle_tick (bench_of at false r (InWork.working j)) j r')
  unfolding cycle_tick
  one_cycle at r j s low r' adds = by (eqb (j.done + 1) (block_cycles j.start j.block)) refl
    where
      next : Point
      next = block_point j.start j.block (j.done + 1)

      shifted : next ≡ shifted_of at (pulses_between at next)
      shifted = rw s.point ((job_way s).pulses j.done)

      here : charge_by j.block.path (pulses_between at next) ≡ job_charge j
      here = charge_is j.start j.block j.done s.point

      -- the byte tells the charge
      charged : (byte : ℕ) (last : Bool) → byte ≡ cycle_byte (pulses_between at next) last
          → stretch_charges j (byte ∷ []) ≡ job_charge j
      charged byte last is =
          let k = told at next last in
          let one : cycle_mark byte ≡ 1 = ap cycle_mark is ∙ k.cycle in
          let codes = ap₂ (λ (u v : ℕ). charge_by j.block.path (record { x = u; y = v })) (ap code_x is ∙ k.x) (ap code_y is ∙ k.y) in
          rw one (omega (arith, codes, here))

      -- and with those before it, those of one cycle more
      paid : (byte : ℕ) (last : Bool) → byte ≡ cycle_byte (pulses_between at next) last
          → job_paid j + stretch_charges j (byte ∷ []) ≡ charges_to j.start j.block (j.done + 1)
      paid byte last is = ap (λ (c : ℕ). job_paid j + c) (charged byte last is) ∙ charges_suc j.start j.block j.done

      -- whatever is in work after it
      with_work : (byte : ℕ) (last : Bool) → byte ≡ cycle_byte (pulses_between at next) last → (w : InWork) → Below q0 w r'
          → WorkSound q0 t next w → Left j (stretch_charges j (byte ∷ [])) next r' w
          → Stretch q0 t at r j (byte ∷ []) (bench_of next false r' w)
      with_work byte last is w below sound left =
          let k = told at next last in
          record {
            x = sent_one code_x byte at.x (ap code_x is ∙ k.x) (ap (λ (p : Point). p.x) shifted);
            y = sent_one code_y byte at.y (ap code_y is ∙ k.y) (ap (λ (p : Point). p.y) shifted);
            feeds = omega (arith, ap (λ (c : ℕ). c * q0) (charged byte last is));
            free = refl;
            sound = record { below = below; inside = (job_way s).inside (j.done + 1) (omega (arith, s.more)); work = sound };
            left = left;
          }

      small : r' < added_by j.block
      small = omega arith

      by : (last : Bool) → eqb (j.done + 1) (block_cycles j.start j.block) ≡ last
          → Stretch q0 t at r j (cycle_byte (pulses_between at next) last ∷ [])
          (bench_of next false r'
          (cond last InWork.nothing (InWork.working (record { block = j.block; start = j.start; done = j.done + 1 }))))
      by true e =
          let last = eqb-true (j.done + 1) (block_cycles j.start j.block) e in
          with_work _ true refl InWork.nothing (omega (arith, small, s.short)) tt (record {
            reached = ap (block_point j.start j.block) last ∙ (job_way s).ends;
            paid = paid _ true refl ∙ ap (charges_to j.start j.block) last;
            early = small;
          })
      by false e =
          let more = eqb-false (j.done + 1) (block_cycles j.start j.block) e in
          let job : BlockInWork = record { block = j.block; start = j.start; done = j.done + 1 } in
          with_work _ false refl (InWork.working job) (below_due q0 job (omega (arith, small, s.short)))
          (record { some = s.some; short = s.short; more = omega (arith, s.more, more); point = refl; start = s.start; path = s.path })
          (record { block = refl; start = refl; paid = sym (paid _ false refl) })

  pub one_tick : (at : Point) (r : ℕ) (j : BlockInWork) → JobSound q0 t at j → r < cycle_due q0 j
      → TickStretch at r j (bench_tick q0 (bench_of at false r (InWork.working j)))
  unfolding bench_tick
  one_tick at r j s low = by (tick (cycle_due q0 j) (added_by j.block) r)
    where
      by : {f : Fed} → Tick (cycle_due q0 j) (added_by j.block) r f
          → TickStretch at r j (fed_tick (bench_of at false r (InWork.working j)) j f)
      by (does_one {rest} e) = one_cycle at r j s low rest e
      by (does_none {rest} l e) = standing zero_silent at r j s rest (omega arith) l

  -- ---- one tick, and a stretch after it

  module _ (at : Point) (r : ℕ) (j : BlockInWork) (byte : ℕ) (mid : Point) (r' : ℕ) (next : BlockInWork) (bytes : List ℕ) where
    joined_axis : (code : ℕ → ℕ) (u v w : ℤ) → v ≡ u +ℤ pulses_in code (byte ∷ []) → w ≡ v +ℤ pulses_in code bytes
        → w ≡ u +ℤ pulses_in code (byte ∷ bytes)
    joined_axis code u v w e f =
        onward u (pulse_of (code byte)) (pulses_in code bytes) (e ∙ ap (λ (z : ℤ). u +ℤ z) (+ℤ_idr (pulse_of (code byte)))) f

    joined_left : Going j (stretch_charges j (byte ∷ [])) next → (p : Point) (r'' : ℕ) (w : InWork)
        → Left next (stretch_charges next bytes) p r'' w → Left j (stretch_charges j (byte ∷ bytes)) p r'' w
    joined_left g p r'' w h = by w h
      where
        same : stretch_charges next bytes ≡ stretch_charges j bytes
        same = ap (λ (k : Block). charges_marked k.path bytes) g.block

        by : (w : InWork) → Left next (stretch_charges next bytes) p r'' w → Left j (stretch_charges j (byte ∷ bytes)) p r'' w
        by InWork.nothing o =
            record {
              reached = o.reached ∙ ap (λ (k : Block). k.end) g.block;
              paid = omega (arith, g.paid, o.paid, same, ap₂ (λ (s : Point) (k : Block). block_charges s k) g.start g.block);
              early = omega (arith, o.early, ap (λ (k : Block). k.feed) g.block);
            }
        by (InWork.working k) h =
            record { block = h.block ∙ g.block; start = h.start ∙ g.start; paid = omega (arith, g.paid, h.paid, same) }

    joined : {after : Bench} → Stretch q0 t at r j (byte ∷ []) (bench_of mid false r' (InWork.working next))
        → Stretch q0 t mid r' next bytes after → Stretch q0 t at r j (byte ∷ bytes) after
    joined {after} a b =
        record {
          x = joined_axis code_x at.x mid.x after.at.x a.x b.x;
          y = joined_axis code_y at.y mid.y after.at.y a.y b.y;
          feeds = sum (charge_marked j.block.path byte) (stretch_charges j bytes) (length bytes) after.remainder a.feeds later;
          free = b.free;
          sound = b.sound;
          left = joined_left a.left after.at after.remainder after.work b.left;
        }
      where
        later : stretch_charges j bytes * q0 + after.remainder ≡ r' + length bytes * added_by j.block
        later =
            subst (λ (k : Block). charges_marked k.path bytes * q0 + after.remainder ≡ r' + length bytes * added_by k) a.left.block
            b.feeds

        sum : (m c n r'' : ℕ) → (m + 0) * q0 + r' ≡ r + 1 * added_by j.block → c * q0 + r'' ≡ r' + n * added_by j.block
            → (m + c) * q0 + r'' ≡ r + suc n * added_by j.block
        sum m c n r'' e f = omega arith

  -- ---- a run's ticks

  pub record Stripped (most : ℕ) (at : Point) (r : ℕ) (j : BlockInWork) (s : TicksDone) : Type 0 where
    pub stretch : Stretch q0 t at r j s.bytes s.last
    pub ended : s.ended ≡ is_nothing s.last.work
    pub within : length s.bytes ≤ most
    -- where the block has not ended
    pub used_up_lem : s.ended ≡ false → length s.bytes ≡ most

  pub strip_stretch : (most : ℕ) (at : Point) (r : ℕ) (j : BlockInWork) → JobSound q0 t at j → r < cycle_due q0 j
      → Stripped most at r j (ticks_done q0 most (bench_of at false r (InWork.working j)))
  unfolding ticks_done
  strip_stretch zero at r j s low =
      record {
        stretch = standing none_silent at r j s r (omega arith) low;
        ended = refl;
        within = omega arith;
        used_up_lem = λ e. refl;
      }
  strip_stretch (suc n) at r j s low =
      let k = bench_tick q0 (bench_of at false r (InWork.working j)) in
      by k.byte k.after.at k.after.mark k.after.remainder k.after.work (one_tick at r j s low) (strip_stretch n)
    where
      by : (byte : ℕ) (mid : Point) (mark : Bool) (r' : ℕ) (w : InWork) → Stretch q0 t at r j (byte ∷ []) (bench_of mid mark r' w)
          → ((at : Point) (r : ℕ) (j : BlockInWork) → JobSound q0 t at j → r < cycle_due q0 j
          → Stripped n at r j (ticks_done q0 n (bench_of at false r (InWork.working j))))
          → (let first : Ticked = record { byte = byte; after = bench_of mid mark r' w } in
          Stripped (suc n) at r j (in_front (is_nothing w) first (ticks_done q0 n (bench_of mid mark r' w))))
      by byte mid true r' w a rest = absurd (true≢false a.free)
      by byte mid false r' InWork.nothing a rest =
          record { stretch = a; ended = refl; within = omega arith; used_up_lem = λ e. absurd (true≢false e) }
      by byte mid false r' (InWork.working next) a rest =
          let b = rest mid r' next a.sound.work a.sound.below in
          record {
            stretch = joined at r j byte mid r' next _ a b.stretch;
            ended = b.ended;
            within = omega (arith, b.within);
            used_up_lem = λ e. ap suc (b.used_up_lem e);
          }
