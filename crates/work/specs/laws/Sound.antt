-- What the tests of a line and of an arc in work say, and back.
use Rattle.std.specs.Prelude.{◌≡◌, true, ◌&&◌, ℕ}
use Rattle.std.proofs.Common.{leb-true, le-leb}
use Rattle.whole.specs.laws.Test.{both, joined, same_test}
use Rattle.plane.specs.declared.point.Point.{Point}
use Rattle.plane.specs.declared.travel.Travel.{Travel}
use Rattle.plane.specs.Travel.{inside_of}
use Rattle.plane.specs.laws.Travel.{Bounded, inside, inside_test_lem}
use Rattle.line.specs.declared.line.Line.{Line}
use Rattle.line.specs.Line.{differ}
use Rattle.line.specs.computed.Line.{line_at}
use Rattle.block.specs.Questions.{feed_right}
use Rattle.line.specs.laws.Cycles.{apart_differ, cycles_apart}
use Rattle.line.specs.laws.Work.{LineAt, line_at_lem, line_test, some_cycle}
use Rattle.arc.specs.declared.arc.Arc.{Arc}
use Rattle.arc.specs.laws.Work.{ArcAt, arc_at_lem, arc_test}
use Rattle.work.specs.computed.Work.{line_sound, arc_sound}
use Rattle.work.specs.computed.Sound.{Feed}

pub record LineWork (q0 : ℕ) (t : Travel) (at : Point) (l : Line) : Type 0 where
  pub start : Bounded t l.start
  pub end : Bounded t l.end
  pub feed : Feed q0 l.feed
  pub line : LineAt l at

pub line_work : {q0 : ℕ} {t : Travel} {at : Point} {l : Line} → line_sound q0 t at l ≡ true → LineWork q0 t at l
unfolding line_sound
line_work {l = l} e =
    let ends = both e in
    let travel = both ends.0 in
    let apart = both {a = differ l.start l.end} ends.1 in
    let rest = both apart.1 in
    let feed = both rest.0 in
    record {
      start = inside travel.0;
      end = inside travel.1;
      feed = record { some = leb-true _ _ feed.0; most = leb-true _ _ feed.1 };
      line = line_at_lem rest.1;
    }

-- start and end differ where the line takes a cycle
pub line_sound_lem : {q0 : ℕ} {t : Travel} {at : Point} {l : Line} → LineWork q0 t at l → line_sound q0 t at l ≡ true
unfolding line_sound
line_sound_lem {l = l} w =
    joined (joined (inside_test_lem w.start) (inside_test_lem w.end))
    (joined (apart_differ l.start l.end (cycles_apart l.start l.end (some_cycle l w.line.drawing)))
    (joined (joined (le-leb _ _ w.feed.some) (le-leb _ _ w.feed.most)) (line_test w.line)))

-- the code asks no more than that: what the cycles say of start and end it need not ask again
pub line_tests : (q0 : ℕ) (t : Travel) (at : Point) (l : Line)
    → line_sound q0 t at l ≡ (((inside_of t l.start && inside_of t l.end) && feed_right q0 l.feed) && line_at l at)
unfolding line_sound
line_tests q0 t at l =
    same_test
    (λ e. let b = both e in let r = both (both {a = differ l.start l.end} b.1).1 in joined (joined b.0 r.0) r.1)
    (λ e. let b = both e in let r = both b.0 in
    joined r.0 (joined (apart_differ l.start l.end (cycles_apart l.start l.end (some_cycle l (line_at_lem b.1).drawing)))
    (joined r.1 b.1)))

pub record ArcWork (q0 : ℕ) (t : Travel) (at : Point) (a : Arc) : Type 0 where
  pub feed : Feed q0 a.feed
  pub arc : ArcAt t a at

pub arc_work : {q0 : ℕ} {t : Travel} {at : Point} {a : Arc} → arc_sound q0 t at a ≡ true → ArcWork q0 t at a
unfolding arc_sound
arc_work e =
    let b = both e in
    let feed = both b.0 in
    record { feed = record { some = leb-true _ _ feed.0; most = leb-true _ _ feed.1 }; arc = arc_at_lem b.1 }

pub arc_sound_lem : {q0 : ℕ} {t : Travel} {at : Point} {a : Arc} → ArcWork q0 t at a → arc_sound q0 t at a ≡ true
unfolding arc_sound
arc_sound_lem w = joined (joined (le-leb _ _ w.feed.some) (le-leb _ _ w.feed.most)) (arc_test w.arc)
