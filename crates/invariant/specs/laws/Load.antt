-- A block that no question refuses is sound in work where it starts.
use Rattle.std.specs.Prelude.{◌≡◌, refl, true, ℕ}
use Rattle.std.proofs.Math.Path.{sym}
use borrow.Author.Tests.{leb-true}
use Rattle.whole.specs.laws.Test.{both}
use Rattle.plane.specs.declared.point.Point.{Point}
use Rattle.plane.specs.declared.travel.Travel.{Travel}
use Rattle.plane.specs.Travel.{inside_of}
use Rattle.plane.specs.computed.Travel.{Wide}
use Rattle.plane.specs.laws.Travel.{inside}
use Rattle.arc.specs.laws.Work.{centre_inside}
use Rattle.line.specs.laws.Cycles.{cycles_some, differ_apart}
use Rattle.line.specs.laws.Points.{point_start}
use Rattle.block.specs.declared.Block.{Block}
use Rattle.block.specs.declared.Path.{Path}
use Rattle.block.specs.Block.{arc_of}
use Rattle.block.specs.Questions.{offset_right}
use Rattle.block.specs.computed.Questions.{path_no}
use Rattle.question.specs.declared.Question.{Question}
use Rattle.question.specs.laws.Ask.{answered}
use Rattle.block.proofs.laws.Begin.{begins}
use Rattle.work.specs.computed.Work.{work_sound}
use Rattle.work.specs.Work.{work_along}
use Rattle.work.specs.computed.Asked.{Loadable}
use Rattle.work.specs.computed.Sound.{Feed}
use Rattle.work.specs.laws.Sound.{line_sound_lem, arc_sound_lem}

module _ {t : Travel} {q0 : ℕ} (start : Point) (b : Block) (wide : Wide t) (here : inside_of t start ≡ true) (feed : Feed q0 b.feed)
    (end : inside_of t b.end ≡ true) where
  pub begun_sound : (p : Path) → Loadable start b p → path_no t start b p ≡ 0 → work_sound q0 t start (work_along start b p) ≡ true
  unfolding work_sound arc_of
  begun_sound Path.Line short asked =
      let s = both short in
      let some = cycles_some start b.end (differ_apart start b.end (answered Question.Moves _ asked).0) in
      line_sound_lem (record {
        start = inside here;
        end = inside end;
        feed = feed;
        line = record {
          drawing = record { short_x = leb-true _ _ s.0; short_y = leb-true _ _ s.1; own = refl; due = some };
          reached = sym (point_start start b.end some);
        };
      })
  begun_sound (Path.Arc turn centre) right asked =
      let offset = answered {yes = offset_right centre} Question.Centre _ asked in
      let ends = answered Question.EndOnCircle _ offset.1 in
      let g = begins start b turn centre wide here end right.1 in
      arc_sound_lem (record {
        feed = feed;
        arc = record {
          centre = centre_inside (arc_of start b turn centre).centre g.centre;
          on = g.on;
          end_on = ends.0;
          stays =
              (answered Question.VisitsInTravel _ ends.1).0;
        };
      })
