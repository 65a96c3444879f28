-- What is left to do of what is sound in work, and of a block newly in work.
use Rattle.std.specs.Prelude.{◌≡◌, refl, true, false, ℕ, ◌-◌, ◌≤◌, T, leb, nat_abs}
use Rattle.std.proofs.Common.{sym, subst, leb-true}
use native.Mathlib.Omega.{arith}
use Rattle.whole.specs.laws.Test.{both}
use Rattle.plane.specs.declared.point.Point.{Point}
use Rattle.plane.specs.declared.travel.Travel.{Travel}
use Rattle.plane.specs.laws.Travel.{Bounded}
use Rattle.circle.proofs.laws.Circle.{on_circle_to}
use Rattle.line.specs.Line.{increment_x, increment_y, line_cycles}
use Rattle.line.specs.laws.Cycles.{cycles_bound}
use Rattle.arc.specs.Centre.{seen_from}
use Rattle.arc.specs.laws.Work.{end_inside as arc_end_inside}
use Rattle.arc.specs.laws.Step.{cycles_bounds}
use Rattle.block.specs.declared.Block.{Block}
use Rattle.block.specs.declared.Path.{Path}
use Rattle.block.specs.Block.{arc_of, cycles_along, block_cycles}
use Rattle.block.specs.Chain.{root_along, root_of}
use Rattle.block.specs.computed.Chain.{Accepted}
use Rattle.block.proofs.laws.Accepted.{path_ready, Ready}
use Rattle.work.specs.declared.Work.{Work}
use Rattle.work.specs.Work.{is_nothing, cycles_left, end_of, work_along, begun_of}
use Rattle.work.specs.computed.Work.{work_sound}
use Rattle.work.specs.computed.Asked.{Loadable}
use Rattle.work.specs.computed.Rest.{Countable, Rooted}
use Rattle.work.specs.Work.{root_in}
use Rattle.work.specs.laws.Sound.{line_work, arc_work}

pub nothing_is : (w : Work) → is_nothing w ≡ true → w ≡ Work.Nothing
nothing_is Work.Nothing e = refl
nothing_is (Work.Line l) e = absurd (subst T (sym e) tt)
nothing_is (Work.Arc a) e = absurd (subst T (sym e) tt)

-- the N of an arc at its point is small
pub rooted : (at : Point) (w : Work) → Countable at w → Rooted w
rooted at Work.Nothing c = tt
rooted at (Work.Line l) c = tt
rooted at (Work.Arc a) c = (on_circle_to a.square (seen_from a.centre at) c.on).bound

module _ (q0 : ℕ) (t : Travel) (at : Point) where
  pub end_inside : (w : Work) → Bounded t at → work_sound q0 t at w ≡ true → Bounded t (end_of at w)
  unfolding work_sound
  end_inside Work.Nothing here e = here
  end_inside (Work.Line l) here e = (line_work e).end
  end_inside (Work.Arc a) here e = arc_end_inside (arc_work e).arc

  pub left_most : (w : Work) → work_sound q0 t at w ≡ true → cycles_left at w ≤ 8000000
  unfolding work_sound
  left_most Work.Nothing e = omega arith
  left_most (Work.Line l) e =
      let d = (line_work e).line.drawing in
      omega (arith, d.own, cycles_bound l.start l.end d.short_x d.short_y)
  left_most (Work.Arc a) e = let w = (arc_work e).arc in (cycles_bounds a at (record { on = w.on; end_on = w.end_on })).1

-- ---- a block newly in work

along_left : (start : Point) (b : Block) (p : Path) → cycles_left start (work_along start b p) ≡ cycles_along start b p
along_left start b Path.Line = by (line_cycles start b.end)
  where
    by : (n : ℕ) → n - 0 ≡ n
    by n = omega arith
along_left start b (Path.Arc turn centre) = refl

along_end : (start : Point) (b : Block) (p : Path) → end_of start (work_along start b p) ≡ b.end
unfolding arc_of
along_end start b Path.Line = refl
along_end start b (Path.Arc turn centre) = refl

along_root : (start : Point) (b : Block) (p : Path) → root_in (work_along start b p) ≡ root_along start b p
unfolding arc_of
along_root start b Path.Line = refl
along_root start b (Path.Arc turn centre) = refl

along_busy : (start : Point) (b : Block) (p : Path) → is_nothing (work_along start b p) ≡ false
along_busy start b Path.Line = refl
along_busy start b (Path.Arc turn centre) = refl

module _ (start : Point) (b : Block) where
  pub begun_left : cycles_left start (begun_of start b).work ≡ block_cycles start b
  unfolding begun_of block_cycles
  begun_left = along_left start b b.path

  pub begun_end : end_of start (begun_of start b).work ≡ b.end
  unfolding begun_of
  begun_end = along_end start b b.path

  pub begun_root : root_in (begun_of start b).work ≡ root_of start b
  unfolding begun_of root_of
  begun_root = along_root start b b.path

  pub begun_busy : is_nothing (begun_of start b).work ≡ false
  unfolding begun_of
  begun_busy = along_busy start b b.path

-- what the code asks of an accepted block
module _ {start : Point} {b : Block} (a : Accepted start b) where
  abbrev Asked : Path → Type 0
  Asked p = Loadable start b p × Countable start (work_along start b p)

  asked : Asked b.path
  asked = by b.path (path_ready a)
    where
      by : (p : Path) → Ready start b p → Asked p
      by Path.Line r =
          let x = nat_abs (increment_x start b.end) in
          let y = nat_abs (increment_y start b.end) in
          let s = both {a = leb x 2000000} {b = leb y 2000000} r in
          let most = cycles_bound start b.end (leb-true x 2000000 s.0) (leb-true y 2000000 s.1) in
          (r, (omega arith, omega (arith, most)))
      by (Path.Arc turn centre) r = ((r.0, r.1), r.2)

  pub accepted_loadable : Loadable start b b.path
  accepted_loadable = asked.0

  pub begun_countable : Countable start (begun_of start b).work
  unfolding begun_of
  begun_countable = asked.1
