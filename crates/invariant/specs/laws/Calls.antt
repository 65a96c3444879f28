-- Each call on a sound record leaves a sound one.
use Rattle.std.specs.Prelude.{◌≡◌, Bool, cond, ◌||◌, ℕ, zero, suc, min, Ok, Result, Err, ⊤}
use Rattle.std.proofs.Math.Path.{refl}
use Rattle.std.proofs.Math.Bool.{true, false}
use Rattle.std.proofs.Common.{arith, ap}
use borrow.Author.Tests.{leb-true}
use Rattle.question.specs.Question.{number_told}
use Rattle.whole.specs.laws.Test.{both}
use Rattle.plane.specs.declared.point.Point.{Point}
use Rattle.plane.specs.declared.travel.Travel.{Travel}
use Rattle.plane.specs.laws.Travel.{inside, inside_test_lem}
use Rattle.block.specs.declared.Block.{Block}
use Rattle.block.specs.Questions.{feed_right, load_no, ask_load}
use Rattle.question.specs.declared.Question.{Question}
use Rattle.question.specs.laws.Ask.{answered}
use Rattle.work.specs.declared.Work.{Work}
use Rattle.work.specs.Work.{is_nothing, begun_of}
use Rattle.work.specs.computed.Work.{work_sound, advance_of}
use Rattle.work.specs.laws.Keep.{SoundAt, keeps_sound}
use Rattle.run.specs.computed.Run.{Strip, strip_of}
use Rattle.bench.specs.declared.Bench.{Bench}
use Rattle.settings.specs.Settings.{capacity_of}
use Rattle.bench.specs.computed.Bench.{sound_of}
use Rattle.bench.specs.Bench.{moved_of}
use Rattle.bench.specs.computed.Calls.{load_with, load_of, ticks, working, tick_of}
use Rattle.bench.specs.computed.Run.{ran_over, no_tick, run_of}
use Rattle.bench.specs.declared.Report.{Report}
use Rattle.settings.specs.laws.Right.{Right, settings_right}
use Rattle.bench.specs.laws.Sound.{Sound, sound, sound_test, loadable}
use Rattle.invariant.specs.laws.Load.{begun_sound}
use Rattle.invariant.specs.laws.Run.{strip_keeps}

module _ (m : Bench) (e : sound_of m ≡ true) where
  abbrev q0 : ℕ
  q0 = capacity_of m.settings

  abbrev t : Travel
  t = m.settings.travel

  parts : Sound m.settings m.at m.remainder m.work
  parts = sound e

  right : Right m.settings
  right = settings_right m.settings parts.settings

  here : SoundAt q0 t m.at m.remainder m.work
  here = record { inside = inside parts.in_travel; below = parts.below; sound = parts.work }

  moved : {at : Point} {r : ℕ} {w : Work} → SoundAt q0 t at r w → sound_of (moved_of m at r w) ≡ true
  unfolding moved_of
  moved s = sound_test (record { settings = parts.settings; in_travel = inside_test_lem s.inside; below = s.below; work = s.sound })

  -- with nothing in work and no remainder, as after a stop
  pub stopped_sound : sound_of (moved_of m m.at 0 Work.Nothing) ≡ true
  unfolding work_sound
  stopped_sound = moved (record { inside = inside parts.in_travel; below = omega (arith, right.clock_some); sound = refl })

  pub load_keeps : (b : Block) → sound_of (load_of m b).bench ≡ true
  unfolding load_of ask_load begun_of
  load_keeps b = rw e (by (ask_load q0 t (is_nothing m.work) m.at b) refl)
    where
      loaded : load_no q0 t (is_nothing m.work) m.at b ≡ 0 → work_sound q0 t m.at (begun_of m.at b).work ≡ true
      loaded none =
          let feed = answered {yes = feed_right q0 b.feed} Question.Feed _ (answered {yes = is_nothing m.work} Question.Room _ none).1 in
          let end = answered Question.EndInTravel _ feed.1 in
          let f = both feed.0 in
          begun_sound m.at b right.wide parts.in_travel
          (record { some = leb-true 1 b.feed f.0; most = leb-true b.feed q0 f.1 }) end.0 b.path
          (loadable m.at right.wide parts.in_travel b q0 (is_nothing m.work) none)
          end.1

      by : (r : Result ⊤ Question) → ask_load q0 t (is_nothing m.work) m.at b ≡ r → sound_of (load_with m b r).bench ≡ true
      by (Ok passed) asked = moved (record { inside = inside parts.in_travel; below = parts.below; sound = loaded (ap number_told asked) })
      by (Err q) refused = e

  pub tick_keeps : sound_of (tick_of m).bench ≡ true
  unfolding tick_of
  tick_keeps = rw e (by (m.held || is_nothing m.work))
    where
      by : (still : Bool) → sound_of (cond still (ticks (Ok 0) m) (working m (advance_of q0 m.at m.remainder m.work))).bench
          ≡ true
      by true = e
      by false = moved (keeps_sound q0 t m.work here)

  pub run_keeps : (budget buffer : ℕ) → sound_of (run_of m budget buffer).ran.bench ≡ true
  unfolding run_of
  run_keeps budget buffer = rw e (by (is_nothing m.work) m.held)
    where
      strip : Strip
      strip = strip_of q0 (min budget buffer) m.at m.remainder m.work

      by : (idle held : Bool) → sound_of (cond idle (no_tick m (Ok Report.Idle))
          (cond held (no_tick m (Ok Report.Held)) (ran_over m budget strip))).ran.bench ≡ true
      by true held = e
      by false true = e
      by false false = moved (strip_keeps q0 t (min budget buffer) m.at m.remainder m.work here)
