-- What a sound bench has, and what its ticks leave of its block.
use Rattle.std.specs.Prelude.{◌≡◌, Bool, cond, ◌||◌, ℕ, ◌+◌, ◌≤◌, ◌<◌, min, T, Result, Ok, Err}
use Rattle.std.proofs.Math.Path.{refl}
use Rattle.std.proofs.Common.{subst, lt-ltb, le-ltb}
use Rattle.std.proofs.Math.Bool.{true, false}
use native.Mathlib.Omega.{arith}
use Rattle.question.specs.declared.Question.{Question}
use Rattle.plane.specs.declared.travel.Travel.{Travel}
use Rattle.plane.specs.Travel.{inside_of}
use Rattle.plane.specs.computed.Travel.{Wide}
use Rattle.plane.specs.laws.Travel.{inside, inside_test_lem}
use Rattle.work.specs.Work.{is_nothing, cycles_left, end_of}
use Rattle.work.specs.computed.Work.{advance_of}
use Rattle.work.specs.computed.Rest.{Countable}
use Rattle.work.specs.Work.{root_in}
use Rattle.work.specs.laws.Rest.{countable}
use Rattle.work.specs.laws.Left.{end_inside, left_most}
use Rattle.work.specs.laws.Keep.{SoundAt}
use Rattle.run.specs.computed.Run.{Strip, strip_of}
use Rattle.run.specs.laws.Keep.{advance_end, advance_left, advance_root, strip_end, strip_left, strip_root}
use Rattle.settings.specs.Settings.{capacity_of}
use Rattle.settings.specs.laws.Right.{settings_right}
use Rattle.bench.specs.declared.Bench.{Bench}
use Rattle.bench.specs.declared.Ticked.{Ticked}
use Rattle.bench.specs.declared.Report.{Report}
use Rattle.bench.specs.declared.Ran.{Ran as BenchRan}
use Rattle.bench.specs.computed.Bench.{sound_of}
use Rattle.bench.specs.Bench.{moved_of}
use Rattle.bench.specs.computed.Calls.{ticks, working, tick_of}
use Rattle.bench.specs.computed.Run.{Run, ran_over, no_tick, run_of}
use Rattle.bench.specs.laws.Sound.{Sound, sound}
use Rattle.invariant.specs.laws.Calls.{tick_keeps, run_keeps}
use Rattle.machine.specs.computed.Asked.{cycles_told}

-- ---- the cycles that a tick's answer marks

pub told_none : {tick : Result ℕ Question} {b : ℕ} → tick ≡ Ok b → b < 16 → cycles_told tick ≡ 0
told_none {b = b} e h = rw (e, lt-ltb b 16 h) refl

pub told_one : {tick : Result ℕ Question} {b : ℕ} → tick ≡ Ok b → 16 ≤ b → cycles_told tick ≡ 1
told_one {b = b} e h = rw (e, le-ltb b 16 h) refl

pub told_refused : {tick : Result ℕ Question} {q : Question} → tick ≡ Err q → cycles_told tick ≡ 0
told_refused e = rw e refl

-- ticks led from the bench k to k'
pub record Onward (k k' : Bench) : Type 0 where
  pub settings : k'.settings ≡ k.settings
  pub sound : sound_of k' ≡ true
  -- after the last cycle of a block the point is its end
  pub end : end_of k'.at k'.work ≡ end_of k.at k.work
  pub root : is_nothing k'.work ≡ false → root_in k'.work ≡ root_in k.work

module _ (k : Bench) (e : sound_of k ≡ true) where
  abbrev q0 : ℕ
  q0 = capacity_of k.settings

  abbrev t : Travel
  t = k.settings.travel

  parts : Sound k.settings k.at k.remainder k.work
  parts = sound e

  here : SoundAt q0 t k.at k.remainder k.work
  here = record { inside = inside parts.in_travel; below = parts.below; sound = parts.work }

  pub wide : Wide t
  wide = (settings_right k.settings parts.settings).wide

  pub here_inside : inside_of t k.at ≡ true
  here_inside = parts.in_travel

  pub work_countable : Countable k.at k.work
  work_countable = countable q0 t k.at k.work wide (inside parts.in_travel) parts.work

  pub work_end_inside : inside_of t (end_of k.at k.work) ≡ true
  work_end_inside = inside_test_lem (end_inside q0 t k.at k.work (inside parts.in_travel) parts.work)

  pub work_left_most : cycles_left k.at k.work ≤ 8000000
  work_left_most = left_most q0 t k.at k.work parts.work

  -- ---- a tick

  busy : (held idle : Bool) → (held || idle) ≡ false → idle ≡ false
  busy true idle f = absurd (subst T f tt)
  busy false idle f = f

  record Told (t : Ticked) : Type 0 where
    same : t.bench.settings ≡ k.settings
    end : end_of t.bench.at t.bench.work ≡ end_of k.at k.work
    root : is_nothing t.bench.work ≡ false → root_in t.bench.work ≡ root_in k.work
    left : cycles_left k.at k.work ≡ cycles_left t.bench.at t.bench.work + cycles_told t.tick

  told : Told (tick_of k)
  unfolding tick_of moved_of
  told = rw e (by (k.held || is_nothing k.work) refl)
    where
      by : (still : Bool) → (k.held || is_nothing k.work) ≡ still
          → Told (cond still (ticks (Ok 0) k) (working k (advance_of q0 k.at k.remainder k.work)))
      by true f = record { same = refl; end = refl; root = λ more. refl; left = omega arith }
      by false f =
          record {
            same = refl;
            end = advance_end q0 t k.at k.remainder k.work parts.work;
            root = advance_root q0 k.at k.remainder k.work;
            left = advance_left q0 t k.at k.remainder k.work parts.work (busy k.held (is_nothing k.work) f);
          }

  module _ {r : Ticked} (is : r ≡ tick_of k) where
    pub tick_onward : Onward k r.bench
    tick_onward = rw is (record { settings = told.same; sound = tick_keeps k e; end = told.end; root = told.root })

    -- its byte marks the cycle that it takes off what is left to do
    pub tick_left : cycles_left k.at k.work ≡ cycles_left r.bench.at r.bench.work + cycles_told r.tick
    tick_left = rw is told.left

  -- ---- a run

  module _ (budget buffer : ℕ) where
    abbrev strip : Strip
    strip = strip_of q0 (min budget buffer) k.at k.remainder k.work

    record Ran (r : Run) : Type 0 where
      same : r.ran.bench.settings ≡ k.settings
      end : end_of r.ran.bench.at r.ran.bench.work ≡ end_of k.at k.work
      root : is_nothing r.ran.bench.work ≡ false → root_in r.ran.bench.work ≡ root_in k.work
      left : cycles_left k.at k.work ≡ cycles_left r.ran.bench.at r.ran.bench.work + r.ran.cycles

    ran : Ran (run_of k budget buffer)
    unfolding run_of moved_of
    ran = rw e (by (is_nothing k.work) refl k.held)
      where
        by : (idle : Bool) → is_nothing k.work ≡ idle → (held : Bool)
            → Ran (cond idle (no_tick k (Ok Report.Idle)) (cond held (no_tick k (Ok Report.Held)) (ran_over k budget strip)))
        by true f held = record { same = refl; end = refl; root = λ more. refl; left = omega arith }
        by false f true = record { same = refl; end = refl; root = λ more. refl; left = omega arith }
        by false f false =
            record {
              same = refl;
              end = strip_end q0 t (min budget buffer) k.at k.remainder k.work here;
              root = strip_root q0 (min budget buffer) k.at k.remainder k.work;
              left = omega (arith, strip_left q0 t (min budget buffer) k.at k.remainder k.work here f);
            }

    module _ {r : BenchRan} (is : r ≡ (run_of k budget buffer).ran) where
      pub run_onward : Onward k r.bench
      run_onward = rw is (record { settings = ran.same; sound = run_keeps k e budget buffer; end = ran.end; root = ran.root })

      -- its bytes mark the cycles that it takes off what is left to do
      pub run_left : cycles_left k.at k.work ≡ cycles_left r.bench.at r.bench.work + r.cycles
      run_left = rw is ran.left
