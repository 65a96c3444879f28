-- Each call on a sound record leaves a sound one.
use Rattle.std.specs.Prelude.{◌≡◌, Bool, cond, Result, Ok, Err, ⊤}
use Rattle.std.proofs.Math.Path.{refl, subst}
use Rattle.std.proofs.Common.{sym, ◌∙◌, true≢false, arith, ltb-true, ap}
use Rattle.std.proofs.Math.Bool.{true, false}
use Prim.Native.Nat.{ℕ, zero, suc}
use Rattle.std.proofs.Math.Dec.{ltb}
use Rattle.question.specs.Question.{number_told}
use Rattle.plane.specs.declared.point.Point.{Point}
use Rattle.plane.specs.declared.travel.Travel.{Travel}
use Rattle.block.specs.declared.Block.{Block}
use Rattle.block.specs.Questions.{load_no, ask_load}
use Rattle.block.specs.Chain.{chain_end}
use Rattle.question.specs.declared.Question.{Question}
use Rattle.question.specs.laws.Ask.{answered, passed}
use Rattle.queue.specs.declared.Queue.{Queue}
use Rattle.queue.specs.Queue.{empty_queue, first_of, popped_of}
use Rattle.queue.specs.laws.Sound.{QueueSound, queue_sound_lem, empty_sound, none_sound, push_sound, first_sound}
use Rattle.queue.specs.laws.Waiting.{none_waits}
use Rattle.work.specs.Work.{is_nothing, end_of, begun_of}
use Rattle.work.specs.laws.Left.{nothing_is, begun_end, begun_busy}
use Rattle.settings.specs.declared.Settings.{Settings}
use Rattle.settings.specs.Settings.{capacity_of, standard_settings}
use Rattle.settings.specs.computed.Settings.{settings_no, ask_settings}
use Rattle.settings.specs.laws.Right.{standard_passes}
use Rattle.bench.specs.declared.Bench.{Bench}
use Rattle.bench.specs.computed.Bench.{sound_of as bench_sound}
use Rattle.bench.specs.Bench.{fresh_of as fresh_bench, moved_of}
use Rattle.bench.specs.computed.Calls.{load_of as bench_load}
use Rattle.invariant.specs.laws.Make.{fresh_sound as fresh_bench_lem}
use Rattle.invariant.specs.laws.Calls.{load_keeps as bench_load_keeps, stopped_sound}
use Rattle.machine.specs.declared.Machine.{Machine}
use Rattle.machine.specs.computed.Machine.{sound_of}
use Rattle.machine.specs.Machine.{machine_of, fresh_of, start_of}
use Rattle.machine.specs.computed.Calls.{make_with, make_of, takes, load_with}
use Rattle.machine.specs.Calls.{beginning, first_in, next_of}
use Rattle.machine.specs.computed.Calls.{load_of, tick_of, hold_of, release_of, stop_of}
use Rattle.machine.specs.computed.Run.{run_of}
use Rattle.machine.specs.laws.Right.{Sound, sound, sound_test, marked_record}
use Rattle.machine.specs.laws.Onward.{Onward, tick_onward, run_onward}
use Rattle.machine.specs.laws.Next.{coming}

-- the blocks of q may wait behind the bench k
abbrev pub Behind : Bench → Queue → Type 0
Behind k q = QueueSound (capacity_of k.settings) k.settings.travel (end_of k.at k.work) q

-- root and figure are right by definition
pub record_sound : (k : Bench) (q : Queue) → bench_sound k ≡ true → (is_nothing k.work ≡ true → q.len ≡ 0) → Behind k q
    → sound_of (machine_of k q) ≡ true
unfolding machine_of
record_sound k q bench none behind =
    sound_test (machine_of k q) (record { bench = bench; right = record { root_is = refl; none = none; queue = behind; left_is = refl } })

-- ---- a block comes into work

module _ (k : Bench) (b : Block) (bench : bench_sound k ≡ true) (idle : is_nothing k.work ≡ true)
    (asked : load_no (capacity_of k.settings) k.settings.travel true k.at b ≡ 0) where
  begun_bench : bench_sound (beginning k (begun_of k.at b).work) ≡ true
  unfolding bench_load
  begun_bench = subst (λ (k' : Bench). bench_sound k' ≡ true) loaded (bench_load_keeps k bench b)
    where
      loaded : (bench_load k b).bench ≡ beginning k (begun_of k.at b).work
      loaded = rw (bench, idle, passed (ask_load (capacity_of k.settings) k.settings.travel true k.at b) asked) refl

  begun_sound : (q : Queue) → QueueSound (capacity_of k.settings) k.settings.travel b.end q
      → sound_of (machine_of (beginning k (begun_of k.at b).work) q) ≡ true
  unfolding moved_of
  begun_sound q behind =
      record_sound (beginning k (begun_of k.at b).work) q begun_bench
      (λ none. absurd (true≢false (sym none ∙ begun_busy k.at b)))
      (subst (λ (p : Point). QueueSound (capacity_of k.settings) k.settings.travel p q) (sym (begun_end k.at b)) behind)

-- with nothing in work the next block starts at the point
at_point : (k : Bench) (q : Queue) → is_nothing k.work ≡ true → Behind k q
    → QueueSound (capacity_of k.settings) k.settings.travel k.at q
at_point k q idle behind = rw (nothing_is k.work idle) at behind

pub next_sound : (k : Bench) (q : Queue) → bench_sound k ≡ true → Behind k q → sound_of (next_of k q) ≡ true
unfolding next_of
next_sound k q bench behind = by (is_nothing k.work) refl
  where
    first : is_nothing k.work ≡ true → (n : ℕ) → q.len ≡ n → sound_of (first_in k q n) ≡ true
    first idle zero none = record_sound k q bench (λ i. none) behind
    first idle (suc n) some =
        let f = first_sound (capacity_of k.settings) k.settings.travel k.at q (at_point k q idle behind) (omega (arith, some)) in
        begun_sound k (first_of q).block bench idle f.asked (popped_of q) f.rest

    by : (idle : Bool) → is_nothing k.work ≡ idle → sound_of (cond idle (first_in k q q.len) (machine_of k q)) ≡ true
    by true idle = first idle q.len refl
    by false busy = record_sound k q bench (λ idle. absurd (true≢false (sym idle ∙ busy))) behind

-- ---- the calls

module _ (m : Machine) (e : sound_of m ≡ true) where
  parts : Sound m
  parts = sound m e

  onward_sound : {k : Bench} → Onward m.bench k → sound_of (next_of k m.queue) ≡ true
  onward_sound {k} o =
      next_sound k m.queue o.sound (queue_sound_lem (coming parts.right o {root' = m.root} refl refl).queue)

  pub tick_keeps : sound_of (tick_of m).machine ≡ true
  unfolding tick_of
  tick_keeps = rw e (onward_sound (tick_onward m.bench parts.bench refl))

  pub run_keeps : (budget buffer : ℕ) → sound_of (run_of m budget buffer).ran.machine ≡ true
  unfolding run_of
  run_keeps budget buffer = rw e (onward_sound (run_onward m.bench parts.bench budget buffer refl))

  pub hold_keeps : sound_of (hold_of m).machine ≡ true
  unfolding hold_of
  hold_keeps = rw e (subst (λ (n : Machine). sound_of n ≡ true) (marked_record m true parts) e)

  pub release_keeps : sound_of (release_of m).machine ≡ true
  unfolding release_of
  release_keeps = rw e (subst (λ (n : Machine). sound_of n ≡ true) (marked_record m false parts) e)

  pub stop_keeps : sound_of (stop_of m).machine ≡ true
  unfolding stop_of empty_queue
  stop_keeps = rw e (record_sound _ _ (stopped_sound m.bench parts.bench) (λ idle. refl) (empty_sound _ _ _))

  module _ (b : Block) where
    abbrev q0 : ℕ
    q0 = capacity_of m.bench.settings

    abbrev t : Travel
    t = m.bench.settings.travel

    abbrev start : Point
    start = start_of m.bench m.queue

    -- in work where nothing is, else behind the others
    taken_sound : load_no q0 t (ltb m.queue.len 16) start b ≡ 0 → (idle : Bool) → is_nothing m.bench.work ≡ idle
        → sound_of (takes m b idle (begun_of start b)) ≡ true
    unfolding ask_load chain_end
    taken_sound asked true idle =
        let none = none_waits m.queue (parts.right.none idle) in
        let here : start ≡ m.bench.at = rw (none, nothing_is m.bench.work idle) refl in
        rw here
        (begun_sound m.bench b parts.bench idle (rw (here, parts.right.none idle) at asked) m.queue
        (none_sound q0 t b.end m.queue parts.right.queue.sixteen (parts.right.none idle)))
    taken_sound asked false busy =
        let room = (answered {yes = ltb m.queue.len 16} Question.Room _ asked).0 in
        record_sound m.bench _ parts.bench (λ idle. absurd (true≢false (sym idle ∙ busy)))
        (push_sound q0 t (end_of m.bench.at m.bench.work) m.queue b parts.right.queue (ltb-true _ 16 room) (rw room at asked))

    pub load_keeps : sound_of (load_of m b).machine ≡ true
    unfolding load_of
    load_keeps = rw e (by (ask_load q0 t (ltb m.queue.len 16) start b) refl)
      where
        by : (r : Result ⊤ Question) → ask_load q0 t (ltb m.queue.len 16) start b ≡ r → sound_of (load_with m b r).machine ≡ true
        by (Ok passed) asked = taken_sound (ap number_told asked) (is_nothing m.bench.work) refl
        by (Err q) refused = e

-- ---- make

pub fresh_sound : (s : Settings) → settings_no s ≡ 0 → sound_of (fresh_of s) ≡ true
unfolding empty_queue
fresh_sound s passed = record_sound (fresh_bench s) empty_queue (fresh_bench_lem s passed) (λ idle. refl) (empty_sound _ _ _)

-- refused or not
pub make_keeps : (s : Settings) → sound_of (make_of s).machine ≡ true
unfolding make_of
make_keeps s = by (ask_settings s) refl
  where
    by : (r : Result ⊤ Question) → ask_settings s ≡ r → sound_of (make_with s r).machine ≡ true
    by (Ok passed) asked = fresh_sound s (ap number_told asked)
    by (Err q) refused = fresh_sound standard_settings standard_passes
