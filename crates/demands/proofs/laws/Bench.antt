-- A bench is sound by the code's test exactly where it is by the paper's list; the test of short increments refuses nothing else.
use Rattle.std.specs.Prelude.{◌≡◌, refl, true, ◌↔◌, ◌≢◌, ℕ, ◌≤◌}
use Rattle.std.proofs.Common.{arith, leb-true, le-leb}
use Rattle.question.specs.declared.Question.{Question}
use Rattle.whole.specs.laws.Order.{from_≤ℤ, to_≤ℤ, abs_sub}
use Rattle.whole.specs.laws.Test.{both, joined}
use Rattle.plane.specs.declared.point.Point.{Point}
use Rattle.plane.specs.declared.travel.Range.{Range}
use Rattle.plane.specs.declared.travel.Travel.{Travel}
use Rattle.plane.specs.Travel.{inside_of, visits_inside}
use Rattle.plane.specs.computed.Travel.{Wide}
use Rattle.plane.specs.laws.Travel.{Bounded, within, within_test, inside, inside_test_lem, visits, visits_test, travel_near}
use Rattle.circle.specs.Circle.{Circle}
use Rattle.circle.proofs.laws.Circle.{on_circle_to, on_circle_of}
use Rattle.circle.proofs.laws.Walk.{walk_of, walk_to, ends, ends_cycles}
use Rattle.line.specs.declared.line.Line.{Line}
use Rattle.line.specs.Line.{differ}
use Rattle.line.specs.laws.Cycles.{cycles_apart, apart_differ, differ_apart}
use Rattle.line.specs.laws.Work.{some_cycle}
use Rattle.arc.specs.declared.arc.Arc.{Arc}
use Rattle.arc.specs.Centre.{seen_from}
use Rattle.arc.specs.computed.Arc.{arc_after, arc_cycles}
use Rattle.arc.specs.laws.Work.{centre_near, centre_inside}
use Rattle.work.specs.declared.Work.{Work}
use Rattle.work.specs.computed.Work.{work_sound}
use Rattle.work.specs.laws.Sound.{line_work, line_sound_lem, arc_work, arc_sound_lem}
use Rattle.settings.specs.declared.Settings.{Settings}
use Rattle.settings.specs.computed.Settings.{in_range, axis_right, travel_right, settings_no, ask_settings}
use Rattle.settings.specs.Settings.{capacity_of}
use Rattle.settings.specs.laws.Right.{settings_right}
use Rattle.bench.specs.declared.Bench.{Bench}
use Rattle.bench.specs.computed.Bench.{sound_of}
use Rattle.bench.specs.laws.Sound.{sound, sound_test}
use Rattle.demands.specs.Asked.{AllYes}
use Rattle.demands.specs.Bench.{AxisRight, TravelRight, settings_questions, InTravel, VisitsInTravel}
use Rattle.demands.specs.Bench.{LineSound, ArcSound, WorkSound, BenchSound}
use Rattle.demands.proofs.laws.Asked.{Verdict, questioned, none_asked, passed}

-- ---- settings

pub in_range_lem : (low high v : ℕ) → (in_range low high v ≡ true) ↔ ((low ≤ v) × (v ≤ high))
in_range_lem low high v = (
  λ e. let b =
      both {a = _} e in (leb-true low v b.0, leb-true v high b.1),
  λ h. joined (le-leb low v h.0) (le-leb v high h.1),
)

axis_right_lem : (axis : Range) → (axis_right axis ≡ true) ↔ AxisRight axis
unfolding axis_right
axis_right_lem axis = (
  λ e.
      let b = both e in
      let l = within b.0 in
      let u = within b.1 in
      record { lowest = to_≤ℤ _ _ l.above; lower = to_≤ℤ _ _ l.below; upper = to_≤ℤ _ _ u.above; highest = to_≤ℤ _ _ u.below },
  λ r.
      joined
      (within_test (record { above = from_≤ℤ r.lowest; below = from_≤ℤ r.lower }))
      (within_test (record { above = from_≤ℤ r.upper; below = from_≤ℤ r.highest })),
)

travel_right_lem : (s : Settings) → (travel_right s.travel ≡ true) ↔ TravelRight s
unfolding travel_right
travel_right_lem s = (
  λ e. let b = both e in ((axis_right_lem s.travel.x).0 b.0, (axis_right_lem s.travel.y).0 b.1),
  λ r. joined ((axis_right_lem s.travel.x).1 r.0) ((axis_right_lem s.travel.y).1 r.1),
)

pub settings_verdict : (s : Settings) → Verdict (settings_questions s) (settings_no s)
unfolding ask_settings
settings_verdict s =
    questioned (in_range 1 1000 s.scale) Question.Scale _ (in_range_lem 1 1000 s.scale) (λ _.
    questioned (in_range 1000 20000 s.clock) Question.Clock _ (in_range_lem 1000 20000 s.clock) (λ _.
    questioned (travel_right s.travel) Question.Travel _ (travel_right_lem s) (λ _. none_asked)))

pub settings_pass : (s : Settings) → (settings_no s ≡ 0) ↔ AllYes (settings_questions s)
settings_pass s = passed (settings_verdict s)

-- ---- travel

pub travel_inside : {t : Travel} {p : Point} → InTravel t p → Bounded t p
travel_inside i =
    record {
      x = record { above = from_≤ℤ i.left; below = from_≤ℤ i.right };
      y =
          record { above = from_≤ℤ i.down; below = from_≤ℤ i.up };
    }

pub inside_travel : {t : Travel} {p : Point} → Bounded t p → InTravel t p
inside_travel i =
    record { left = to_≤ℤ _ _ i.x.above; right = to_≤ℤ _ _ i.x.below; down = to_≤ℤ _ _ i.y.above; up = to_≤ℤ _ _ i.y.below }

pub in_travel : (t : Travel) (p : Point) → (inside_of t p ≡ true) ↔ InTravel t p
in_travel t p = (λ e. inside_travel (inside e), λ i. inside_test_lem (travel_inside i))

-- every visited point, by the paper's walk and by the count
pub visits_is : (t : Travel) (a : Arc) (at : Point) → Circle a.square (seen_from a.centre at)
    → Circle a.square (seen_from a.centre a.end)
    → (visits_inside t (arc_after a at) (arc_cycles a at) ≡ true) ↔ VisitsInTravel t a at
unfolding arc_after arc_cycles
visits_is t a at here there = (
  λ e p v.
      let most = (ends_cycles a.turn (seen_from a.centre at) (seen_from a.centre a.end) v.cycles here there).0 v.ends in
      let same = walk_to a.turn (seen_from a.centre at) v.cycle p here v.walk in
      rw same (inside_travel (visits t _ _ e v.cycle v.begun (omega (arith, v.within, most)))),
  λ f.
      visits_test t _ _ (λ c some most. travel_inside (f _
      (record {
        cycles = _;
        ends = ends a.turn (seen_from a.centre a.end) there (seen_from a.centre at) here;
        cycle = c;
        begun =
            some;
        within = most;
        walk = walk_of a.turn (seen_from a.centre at) c here;
      }))),
)

-- ---- what is in work

pub line_differs : (start end : Point) → (differ start end ≡ true) ↔ (start ≢ end)
line_differs start end = (differ_apart start end, apart_differ start end)

module _ (q0 : ℕ) (t : Travel) (wide : Wide t) (at : Point) where
  line_is : (l : Line) → (work_sound q0 t at (Work.Line l) ≡ true) ↔ LineSound q0 t at l
  unfolding work_sound
  line_is l = (
    λ e.
        let w = line_work e in
        let d = w.line.drawing in
        record {
          start = inside_travel w.start;
          end = inside_travel w.end;
          different = cycles_apart l.start l.end (some_cycle l d);
          feed = (w.feed.some, w.feed.most);
          done = omega (arith, d.due, d.own);
          point = w.line.reached;
          cycles = d.own;
        },
    λ s.
        let here = travel_near wide (travel_inside s.start) in
        let there = travel_near wide (travel_inside s.end) in
        line_sound_lem (record {
          start = travel_inside s.start;
          end = travel_inside s.end;
          feed = record { some = s.feed.0; most = s.feed.1 };
          line = record {
            drawing = record {
              short_x = omega (arith, abs_sub l.end.x l.start.x, here.x, there.x);
              short_y = omega (arith, abs_sub l.end.y l.start.y, here.y, there.y);
              own = s.cycles;
              due = omega (arith, s.done, s.cycles);
            };
            reached = s.point;
          };
        }),
  )

  arc_is : (a : Arc) → (work_sound q0 t at (Work.Arc a) ≡ true) ↔ ArcSound q0 t at a
  unfolding work_sound
  arc_is a = (
    λ e.
        let w = arc_work e in
        let here = on_circle_to _ _ w.arc.on in
        let there = on_circle_to _ _ w.arc.end_on in
        record {
          feed = (w.feed.some, w.feed.most);
          square = (here.some, here.bound);
          point = here.circle;
          end = there.circle;
          centre = centre_near w.arc.centre;
          visits = (visits_is t a at here.circle there.circle).0 w.arc.stays;
        },
    λ s.
        arc_sound_lem (record {
          feed = record { some = s.feed.0; most = s.feed.1 };
          arc = record {
            centre = centre_inside a.centre s.centre;
            on = on_circle_of _ _ (record { some = s.square.0; bound = s.square.1; circle = s.point });
            end_on = on_circle_of _ _ (record { some = s.square.0; bound = s.square.1; circle = s.end });
            stays = (visits_is t a at s.point s.end).1 s.visits;
          };
        }),
  )

  work_is : (w : Work) → (work_sound q0 t at w ≡ true) ↔ WorkSound q0 t at w
  unfolding work_sound
  work_is Work.Nothing = (λ e. tt, λ u. refl)
  work_is (Work.Line l) = line_is l
  work_is (Work.Arc a) = arc_is a

-- ---- the bench

pub bench_is : (m : Bench) → (sound_of m ≡ true) ↔ BenchSound m
bench_is m = (
  λ e.
      let s = sound e in
      let wide = (settings_right m.settings s.settings).wide in
      record {
        settings = (settings_pass m.settings).0 s.settings;
        point = (in_travel m.settings.travel m.at).0 s.in_travel;
        remainder = omega (arith, s.below);
        work = (work_is (capacity_of m.settings) m.settings.travel wide m.at m.work).0 s.work;
      },
  λ s.
      let pass = (settings_pass m.settings).1 s.settings in
      let wide = (settings_right m.settings pass).wide in
      sound_test (record {
        settings = pass;
        in_travel = (in_travel m.settings.travel m.at).1 s.point;
        below = omega (arith, s.remainder);
        work = (work_is (capacity_of m.settings) m.settings.travel wide m.at m.work).1 s.work;
      }),
)
