-- Ticks leave the end of the block where it was, and its root as it was, and take as many off the cycles left as their bytes mark.
use Rattle.std.specs.Prelude.{◌≡◌, Bool, ℕ, zero, suc, ◌+◌, T, eqb, ltb}
use Rattle.std.proofs.Math.Path.{refl}
use Rattle.std.proofs.Common.{subst, ◌∙◌, le-ltb}
use Rattle.std.proofs.Math.Bool.{true, false, cond}
use native.Mathlib.Omega.{arith}
use Rattle.plane.specs.declared.point.Point.{Point}
use Rattle.plane.specs.declared.travel.Travel.{Travel}
use Rattle.plane.specs.Point.{equal_point}
use Rattle.plane.specs.Byte.{cycle_mark, cycles_marked}
use Rattle.plane.specs.laws.Byte.{told}
use Rattle.plane.specs.laws.Travel.{inside}
use Rattle.line.specs.Line.{line_point}
use Rattle.line.specs.computed.Line.{stepped_of}
use Rattle.arc.specs.computed.Arc.{arc_after, arc_stepped}
use Rattle.divider.specs.Divider.{fed_of}
use Rattle.work.specs.declared.Work.{Work}
use Rattle.work.specs.Work.{is_nothing, following}
use Rattle.work.specs.computed.Work.{work_sound, line_cycle, arc_cycle, cycle_of}
use Rattle.work.specs.Work.{cycles_left, end_of, added_of}
use Rattle.work.specs.computed.Work.{due_of, advance_by, advance_of}
use Rattle.work.specs.Work.{root_in}
use Rattle.work.specs.laws.Keep.{SoundAt, keeps_sound}
use Rattle.run.specs.computed.Run.{Strip, in_front, strip_of, SoundIn}
use Rattle.run.specs.laws.Cycles.{counts, ends}

-- ---- a cycle

pub marked : (at : Point) (w : Work) → is_nothing w ≡ false → cycle_mark (cycle_of at w).byte ≡ 1
unfolding cycle_of line_cycle arc_cycle stepped_of arc_stepped
marked at Work.Nothing busy = absurd (subst T busy tt)
marked at (Work.Line l) busy =
    let on = line_point l.start l.end in (told (on l.done) (on (l.done + 1)) (eqb (l.done + 1) l.cycles)).cycle
marked at (Work.Arc a) busy = (told at (arc_after a at 1) (equal_point (arc_after a at 1) a.end)).cycle

-- so it is 16 or more
not_low : (b : ℕ) → cycle_mark b ≡ 1 → ltb b 16 ≡ false
not_low b e = le-ltb b 16 (omega arith)

same_root : (at : Point) (w : Work) → is_nothing (cycle_of at w).work ≡ false → root_in (cycle_of at w).work ≡ root_in w
unfolding cycle_of line_cycle arc_cycle stepped_of
same_root at Work.Nothing more = refl
same_root at (Work.Line l) more = by (eqb (l.done + 1) l.cycles) more
  where
    by : (ended : Bool) → is_nothing (following ended (Work.Line (stepped_of l).line)) ≡ false
        → root_in (following ended (Work.Line (stepped_of l).line)) ≡ l.cycles
    by true m = absurd (subst T m tt)
    by false m = refl
same_root at (Work.Arc a) more = by (equal_point (arc_stepped a at).at a.end) more
  where
    by : (ended : Bool) → is_nothing (following ended (Work.Arc a)) ≡ false → root_in (following ended (Work.Arc a)) ≡ root_in (Work.Arc a)
    by true m = absurd (subst T m tt)
    by false m = refl

-- ---- a working tick

pub advance_root : (q0 : ℕ) (at : Point) (r : ℕ) (w : Work) → is_nothing (advance_of q0 at r w).work ≡ false
    → root_in (advance_of q0 at r w).work ≡ root_in w
unfolding advance_of
advance_root q0 at r w = let f = fed_of (due_of q0 at w) (added_of w) r in by f.cycle f.remainder
  where
    by : (cycle : Bool) (rest : ℕ) → (let a = advance_by at w (record { remainder = rest; cycle = cycle }) in
        is_nothing a.work ≡ false → root_in a.work ≡ root_in w)
    by true rest more = same_root at w more
    by false rest more = refl

module _ (q0 : ℕ) (t : Travel) (at : Point) (r : ℕ) (w : Work) (sound : work_sound q0 t at w ≡ true) where
  -- after the last cycle the point is at the end
  pub advance_end : end_of (advance_of q0 at r w).at (advance_of q0 at r w).work ≡ end_of at w
  unfolding advance_of
  advance_end = let f = fed_of (due_of q0 at w) (added_of w) r in by f.cycle f.remainder
    where
      by : (cycle : Bool) (rest : ℕ)
          → (let a = advance_by at w (record { remainder = rest; cycle = cycle }) in end_of a.at a.work ≡ end_of at w)
      by true rest = ends q0 t at w sound
      by false rest = refl

  pub advance_left : is_nothing w ≡ false
      → (let a = advance_of q0 at r w in cycles_left at w ≡ cycles_left a.at a.work + cond (ltb a.byte 16) 0 1)
  unfolding advance_of
  advance_left busy = let f = fed_of (due_of q0 at w) (added_of w) r in by f.cycle f.remainder
    where
      by : (cycle : Bool) (rest : ℕ) → (let a = advance_by at w (record { remainder = rest; cycle = cycle }) in
          cycles_left at w ≡ cycles_left a.at a.work + cond (ltb a.byte 16) 0 1)
      by true rest = rw (not_low (cycle_of at w).byte (marked at w busy)) (omega (arith, counts q0 t at w sound busy))
      by false rest = omega arith

-- a tick's byte is below 16, or it marks a cycle
advance_marks : (q0 : ℕ) (at : Point) (r : ℕ) (w : Work) → is_nothing w ≡ false
    → (let byte = (advance_of q0 at r w).byte in cycle_mark byte ≡ cond (ltb byte 16) 0 1)
unfolding advance_of
advance_marks q0 at r w busy = let f = fed_of (due_of q0 at w) (added_of w) r in by f.cycle f.remainder
  where
    by : (cycle : Bool) (rest : ℕ)
        → (let byte = (advance_by at w (record { remainder = rest; cycle = cycle })).byte in cycle_mark byte ≡ cond (ltb byte 16) 0 1)
    by true rest = rw (not_low (cycle_of at w).byte (marked at w busy)) (marked at w busy)
    by false rest = refl

-- ---- a run

-- the cycles of a run's ticks and those that are left after them
abbrev pub cycles_over : Strip → ℕ
cycles_over s = cycles_marked s.bytes + cycles_left s.at s.work

pub strip_left : (q0 : ℕ) (t : Travel) (n : ℕ) (at : Point) (r : ℕ) (w : Work) → SoundAt q0 t at r w → is_nothing w ≡ false
    → cycles_over (strip_of q0 n at r w) ≡ cycles_left at w
unfolding strip_of
strip_left q0 t zero at r w i busy = omega arith
strip_left q0 t (suc n) at r w i busy =
    let a = advance_of q0 at r w in
    by (is_nothing a.work) refl (strip_of q0 n a.at a.remainder a.work)
    (strip_left q0 t n a.at a.remainder a.work (keeps_sound q0 t w i))
  where
    by : (ended : Bool) → is_nothing (advance_of q0 at r w).work ≡ ended → (s : Strip)
        → (is_nothing (advance_of q0 at r w).work ≡ false
        → cycles_over s ≡ cycles_left (advance_of q0 at r w).at (advance_of q0 at r w).work)
        → cycles_over (in_front ended (advance_of q0 at r w) s) ≡ cycles_left at w
    by true e s rest = omega (arith, advance_left q0 t at r w i.sound busy, advance_marks q0 at r w busy)
    by false e s rest = omega (arith, advance_left q0 t at r w i.sound busy, advance_marks q0 at r w busy, rest e)

-- a run of n ticks
pub ran_left : {q0 : ℕ} {at : Point} {r : ℕ} {w : Work} → SoundIn q0 at r w → (n : ℕ)
    → cycles_over (strip_of q0 n at r w) ≡ cycles_left at w
ran_left {q0} {at} {r} {w} i n =
    strip_left q0 i.travel n at r w (record { inside = inside i.inside; below = i.below; sound = i.sound }) i.busy

pub strip_root : (q0 n : ℕ) (at : Point) (r : ℕ) (w : Work) → is_nothing (strip_of q0 n at r w).work ≡ false
    → root_in (strip_of q0 n at r w).work ≡ root_in w
unfolding strip_of
strip_root q0 zero at r w more = refl
strip_root q0 (suc n) at r w more =
    let a = advance_of q0 at r w in
    by (is_nothing a.work) refl (strip_of q0 n a.at a.remainder a.work) (strip_root q0 n a.at a.remainder a.work) more
  where
    by : (ended : Bool) → is_nothing (advance_of q0 at r w).work ≡ ended
        → (s : Strip) → (is_nothing s.work ≡ false → root_in s.work ≡ root_in (advance_of q0 at r w).work)
        → (let f = in_front ended (advance_of q0 at r w) s in is_nothing f.work ≡ false → root_in f.work ≡ root_in w)
    by true e s rest m = advance_root q0 at r w m
    by false e s rest m = rest m ∙ advance_root q0 at r w e

pub strip_end : (q0 : ℕ) (t : Travel) (n : ℕ) (at : Point) (r : ℕ) (w : Work) → SoundAt q0 t at r w
    → end_of (strip_of q0 n at r w).at (strip_of q0 n at r w).work ≡ end_of at w
unfolding strip_of
strip_end q0 t zero at r w i = refl
strip_end q0 t (suc n) at r w i =
    let a = advance_of q0 at r w in
    by (is_nothing a.work) (strip_of q0 n a.at a.remainder a.work)
    (strip_end q0 t n a.at a.remainder a.work (keeps_sound q0 t w i))
  where
    by : (ended : Bool) (s : Strip) → (let a = advance_of q0 at r w in end_of s.at s.work ≡ end_of a.at a.work)
        → (let f = in_front ended (advance_of q0 at r w) s in end_of f.at f.work ≡ end_of at w)
    by true s e = advance_end q0 t at r w i.sound
    by false s e = e ∙ advance_end q0 t at r w i.sound
