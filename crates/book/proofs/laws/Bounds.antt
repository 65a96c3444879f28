-- Demand 3's bounds hold at every sound book.
use Rattle.std.specs.Prelude.{List, ℕ}
use Rattle.plane.specs.declared.point.Point.{Point}
use Rattle.plane.specs.declared.travel.Travel.{Travel}
use Rattle.line.specs.laws.Cycles.{cycles_some}
use Rattle.line.specs.laws.Bounds.{half_pulse_x, half_pulse_y, near}
use Rattle.arc.specs.laws.Step.{after_within}
use Rattle.block.specs.declared.Path.{Path}
use Rattle.block.specs.Block.{arc_of, point_along, block_point}
use Rattle.book.specs.Bench.{BlockInWork, InWork}
use Rattle.book.specs.Book.{Book, Call, fresh_book, closing}
use Rattle.book.specs.Bounds.{OnPath, OnWork}
use Rattle.book.proofs.laws.Settings.{SettingsRight}
use Rattle.book.proofs.laws.Way.{PathRight}
use Rattle.book.proofs.laws.Sound.{JobSound, WorkSound, Sound}
use Rattle.book.proofs.laws.Call.{history_sound}
use Rattle.book.proofs.laws.Counts.{counted_along}

abbrev pub InBounds : Book → Type 0
InBounds b = OnWork b.bench.at b.bench.work

module _ (q0 : ℕ) (t : Travel) where
  path_bounds : (j : BlockInWork) (p : Path) → PathRight t j.start j.block p
      → OnPath j (point_along j.start j.block p j.done) p
  unfolding arc_of
  path_bounds j Path.Line r =
      let start = j.start in
      let end = j.block.end in
      let some = cycles_some start end r.apart in
      record {
        half_x = half_pulse_x start end some j.done;
        half_y = half_pulse_y start end some j.done;
        near =
            near start end some j.done;
      }
  path_bounds j (Path.Arc turn centre) r =
      let a = arc_of j.start j.block turn centre in
      let counted = counted_along t j.start j.block (Path.Arc turn centre) r in
      record {
        near = after_within a j.start (record { on = r.at.on; end_on = r.at.end_on }) j.done;
        walk = counted.walk j.done;
        ends = counted.ends;
      }

  job_bounds : (at : Point) (j : BlockInWork) → JobSound q0 t at j → OnPath j at j.block.path
  unfolding block_point
  job_bounds at j s = rw s.point (path_bounds j j.block.path s.path)

  work_bounds : (at : Point) (w : InWork) → WorkSound q0 t at w → OnWork at w
  work_bounds at InWork.nothing s = tt
  work_bounds at (InWork.working j) s = job_bounds at j s

  pub in_bounds : (b : Book) → Sound q0 t b → InBounds b
  in_bounds b s = work_bounds b.bench.at b.bench.work s.bench.work

  pub history_bounds : SettingsRight q0 t → (cs : List Call) → InBounds (closing q0 t fresh_book cs)
  history_bounds settings cs = in_bounds (closing q0 t fresh_book cs) (history_sound q0 t settings cs)
