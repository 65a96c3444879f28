-- Each call answers by the first no of its questions.
use Rattle.std.specs.Prelude.{◌≡◌, Bool, ◌||◌, ◌↔◌, List, ℕ, min, leb, ltb, length, Ok, Err, Result, ⊤}
use Rattle.std.proofs.Math.Path.{refl}
use Rattle.std.proofs.Common.{◌∙◌, leb-true, le-leb, ltb-true, lt-ltb}
use Rattle.std.proofs.Math.Bool.{true, false, cond}
use Rattle.std.proofs.Math.ListN.{take}
use Rattle.std.specs.Borrow.{MutBor}
use contract.Lifetimes.{Lfts}
use Rattle.question.specs.declared.Question.{Question}
use Rattle.block.specs.declared.Block.{Block}
use Rattle.question.specs.Question.{ask, number_of, number_told}
use Rattle.question.specs.laws.Number.{number_some}
use Rattle.block.specs.Questions.{ask_load}
use Rattle.queue.specs.Queue.{empty_queue}
use Rattle.work.specs.declared.Work.{Work}
use Rattle.work.specs.Work.{is_nothing}
use Rattle.work.specs.computed.Work.{advance_of}
use Rattle.run.specs.computed.Run.{Strip, strip_of, written}
use Rattle.settings.specs.declared.Settings.{Settings}
use Rattle.settings.specs.Settings.{feed_unit, capacity_of, standard_settings}
use Rattle.settings.specs.computed.Settings.{settings_no, ask_settings}
use Rattle.bench.specs.declared.Bench.{Bench}
use Rattle.bench.specs.declared.Answer.{Answer}
use Rattle.bench.specs.declared.Report.{Report}
use Rattle.bench.specs.computed.Bench.{sound_of as bench_sound}
use Rattle.bench.specs.Bench.{moved_of}
use Rattle.bench.specs.computed.Calls.{ticks as bench_ticks, working, tick_of as bench_tick}
use Rattle.bench.specs.computed.Run.{report_of, ran_over, no_tick as bench_no_tick, run_of as bench_run}
use Rattle.machine.specs.declared.Machine.{Machine}
use Rattle.machine.specs.declared.Answered.{Answered}
use Rattle.machine.specs.declared.Ticked.{Ticked}
use Rattle.machine.specs.declared.Ran.{Ran}
use Rattle.machine.specs.computed.Machine.{sound_of}
use Rattle.machine.specs.Machine.{machine_of, fresh_of}
use Rattle.machine.specs.Calls.{answers, ticks, mark_of}
use Rattle.machine.specs.computed.Calls.{make_with, make_of, load_with, load_of, tick_of, hold_of, release_of, stop_of}
use Rattle.machine.specs.computed.Run.{ran_on, no_tick, run_of}
use Rattle.machine.specs.laws.Right.{sound}
use Rattle.book.specs.Book.{Reply}
use Rattle.look.specs.declared.Ahead.{Ahead}
use Rattle.look.specs.computed.Look.{ticking_of, looked, refusing, ahead_of}
use Rattle.history.specs.Reply.{answer_reply, tick_reply, run_reply}
use Rattle.history.specs.CallContracts.{Makes, Loads, Ticks, Runs, Holds, Releases, Stops, Looks}
use Rattle.demands.specs.Asked.{none, AsAsked}
use Rattle.demands.specs.Bench.{settings_questions}
use Rattle.demands.specs.Answers.{ran_reply, Unlooked}
use Rattle.demands.specs.Questions.{sound_question, look_questions, FewerWaiting, next_start, load_questions}
use Rattle.demands.proofs.laws.Asked.{Verdict, questioned, none_asked, is_refused, Says, says_some, judged}
use Rattle.demands.proofs.laws.Bench.{settings_verdict}
use Rattle.demands.proofs.laws.Load.{block_verdict}
use Rattle.demands.proofs.laws.Sound.{sound_is}

-- ---- make

make_says : (s : Settings) (asked : Result ⊤ Question) → Says (number_told asked) (answer_reply (make_with s asked).answer)
make_says s (Ok passed) = refl
make_says s (Err q) = says_some (number_of q) (number_some q)

make_kept : (s : Settings) (asked : Result ⊤ Question) → (number_told asked ≡ 0 → ⊥)
    → (make_with s asked).machine ≡ fresh_of standard_settings
make_kept s (Ok passed) some = absurd (some refl)
make_kept s (Err q) some = refl

pub make_answers : (s : Settings) (r : Answered) → Makes s r
    → AsAsked (settings_questions s) (answer_reply r.answer) (r.machine ≡ fresh_of standard_settings)
unfolding make_of
make_answers s r e =
    let asked = ask_settings s in
    rw e (judged (settings_no s) (settings_verdict s) (make_says s asked) (make_kept s asked))

-- ---- load

pub fewer_is : (m : Machine) → (ltb m.queue.len 16 ≡ true) ↔ FewerWaiting m
fewer_is m = (ltb-true m.queue.len 16, lt-ltb m.queue.len 16)

module _ (m : Machine) (b : Block) where
  load_says : (asked : Result ⊤ Question) → Says (number_told asked) (answer_reply (load_with m b asked).answer)
  load_says (Ok passed) = refl
  load_says (Err q) = says_some (number_of q) (number_some q)

  load_kept : (asked : Result ⊤ Question) → (number_told asked ≡ 0 → ⊥) → (load_with m b asked).machine ≡ m
  load_kept (Ok passed) some = absurd (some refl)
  load_kept (Err q) some = refl

  abbrev block_asked : Result ⊤ Question
  block_asked = ask_load (capacity_of m.bench.settings) m.bench.settings.travel (ltb m.queue.len 16) (next_start m) b

  abbrev pub load_asked : Result ⊤ Question
  load_asked = ask (sound_of m) block_asked Question.Sound

  pub load_verdict : Verdict (load_questions m b) (number_told load_asked)
  load_verdict =
      questioned (sound_of m) Question.Sound _ (sound_is m)
      (λ _. block_verdict m.bench.settings (next_start m) b feed_unit (ltb m.queue.len 16) (fewer_is m))

  load_by : (sound : Bool) (asked : Result ⊤ Question)
      → cond sound (load_with m b asked) (answers (Err Question.Sound) m) ≡ load_with m b (ask sound asked Question.Sound)
  load_by true asked = refl
  load_by false asked = refl

  pub load_is : load_of m b ≡ load_with m b load_asked
  unfolding load_of
  load_is = load_by (sound_of m) block_asked

  pub load_answers : (r : Answered) → Loads m b r → AsAsked (load_questions m b) (answer_reply r.answer) (r.machine ≡ m)
  load_answers r e = rw (e ∙ load_is) (judged (number_told load_asked) load_verdict (load_says load_asked) (load_kept load_asked))

-- ---- the other calls on a record

-- a tick and a run of a sound bench are not refused
tick_given : (k : Bench) → bench_sound k ≡ true → is_refused (tick_reply (bench_tick k).tick) ≡ false
unfolding bench_tick
tick_given k e = rw e (by (k.held || is_nothing k.work))
  where
    by : (still : Bool)
        → is_refused
        (tick_reply
        (cond still (bench_ticks (Ok 0) k)
        (working k (advance_of (capacity_of k.settings) k.at k.remainder k.work))).tick) ≡ false
    by true = refl
    by false = refl

run_given : (k : Bench) → bench_sound k ≡ true → (budget buffer : ℕ) (told : ℕ → List ℕ → List ℕ)
    → (let r = bench_run k budget buffer in is_refused (run_reply r.ran.report r.ran.ticks (told r.ran.ticks r.bytes)) ≡ false)
unfolding bench_run
run_given k e budget buffer told = rw e (by (is_nothing k.work) k.held)
  where
    strip : Strip
    strip = strip_of (capacity_of k.settings) (min budget buffer) k.at k.remainder k.work

    ran : (ended spent : Bool) (n : ℕ) (bytes : List ℕ) → is_refused (run_reply (Ok (report_of ended spent)) n bytes) ≡ false
    ran true spent n bytes = refl
    ran false true n bytes = refl
    ran false false n bytes = refl

    by : (idle held : Bool)
        → (let r = cond idle (bench_no_tick k (Ok Report.Idle)) (cond held (bench_no_tick k (Ok Report.Held)) (ran_over k budget strip)) in
        is_refused (run_reply r.ran.report r.ran.ticks (told r.ran.ticks r.bytes)) ≡ false)
    by true held = refl
    by false true = refl
    by false false = ran strip.ended _ _ _

module _ (m : Machine) where
  sound_verdict : Verdict (sound_question m none) (number_told (ask (sound_of m) (Ok tt) Question.Sound))
  sound_verdict = questioned (sound_of m) Question.Sound _ (sound_is m) (λ _. none_asked)

  -- a call that answers 9 where the record is not sound, and else no refusal
  by_sound : {A : Type 0} (reply : A → Reply) (Kept : A → Type 0) (accepted refused : A)
      → (sound_of m ≡ true → is_refused (reply accepted) ≡ false)
      → reply refused ≡ Reply.refused 9 → Kept refused
      → (r : A) → r ≡ cond (sound_of m) accepted refused → AsAsked (sound_question m none) (reply r) (Kept r)
  by_sound reply Kept accepted refused yes_says no_says same r e = rw e (by (sound_of m) refl sound_verdict)
    where
      by : (sound : Bool) → sound_of m ≡ sound → Verdict (sound_question m none) (number_told (ask sound (Ok tt) Question.Sound))
          → (let r = cond sound accepted refused in AsAsked (sound_question m none) (reply r) (Kept r))
      by true s v = judged 0 v (yes_says s) (λ some. absurd (some refl))
      by false s v = judged 9 v no_says (λ some. same)

  abbrev Same : Answered → Type 0
  Same r = r.machine ≡ m

  abbrev says : Answered → Reply
  says r = answer_reply r.answer

  pub hold_answers : (r : Answered) → Holds m r → AsAsked (sound_question m none) (answer_reply r.answer) (r.machine ≡ m)
  unfolding hold_of
  hold_answers r e = by_sound says Same (answers (Ok Answer.Done) (mark_of m true)) (answers (Err Question.Sound) m)
      (λ s. refl) refl refl r e

  pub release_answers : (r : Answered) → Releases m r → AsAsked (sound_question m none) (answer_reply r.answer) (r.machine ≡ m)
  unfolding release_of
  release_answers r e = by_sound says Same (answers (Ok Answer.Done) (mark_of m false)) (answers (Err Question.Sound) m)
      (λ s. refl) refl refl r e

  pub stop_answers : (r : Answered) → Stops m r → AsAsked (sound_question m none) (answer_reply r.answer) (r.machine ≡ m)
  unfolding stop_of
  stop_answers r e =
      by_sound says Same (answers (Ok Answer.Done) (machine_of (moved_of m.bench m.bench.at 0 Work.Nothing) empty_queue))
      (answers (Err Question.Sound) m) (λ s. refl) refl refl r e

  -- a sound machine's bench refuses nothing
  pub tick_answers : (r : Ticked) → Ticks m r → AsAsked (sound_question m none) (tick_reply r.tick) (r.machine ≡ m)
  unfolding tick_of
  tick_answers r e =
      by_sound (λ r. tick_reply r.tick) (λ r. r.machine ≡ m) _ (ticks (Err Question.Sound) m)
      (λ e. tick_given m.bench (sound m e).bench) refl refl r e

  pub run_answers : (κs : Lfts 1) (budget : ℕ) (out out' : MutBor (List ℕ)) (r : Ran) → Runs κs m budget out out' r
      → AsAsked (sound_question m none) (ran_reply r out'.now) ((r.machine ≡ m) × (r.ticks ≡ 0) × (out'.now ≡ out.now))
  unfolding run_of written
  run_answers κs budget out out' r h =
      rw (h.1, h.0)
      (by_sound
      (λ k. run_reply k.ran.report k.ran.ticks (take k.ran.ticks (written k.bytes out.now)))
      (λ k. (k.ran.machine ≡ m) × (k.ran.ticks ≡ 0) × (written k.bytes out.now ≡ out.now))
      (ran_on m (bench_run m.bench budget (length out.now)))
      (no_tick m (Err Question.Sound))
      (λ e. run_given m.bench (sound m e).bench budget (length out.now) (λ n bytes. take n (written bytes out.now))) refl
      (refl, refl, refl) (run_of m budget (length out.now)) refl)

-- ---- a look-ahead

module _ (m : Machine) (ticks : ℕ) where
  abbrev look_asked : (sound most : Bool) → Result ⊤ Question
  look_asked sound most = ask sound (ask most (Ok tt) Question.LookLength) Question.Sound

  look_verdict : Verdict (look_questions m ticks) (number_told (look_asked (sound_of m) (leb ticks 1000000)))
  look_verdict =
      questioned (sound_of m) Question.Sound _ (sound_is m) (λ _.
      questioned (leb ticks 1000000) Question.LookLength _ (leb-true ticks 1000000, le-leb ticks 1000000) (λ _. none_asked))

  pub look_answers : (r : Ahead) → Looks m ticks r → AsAsked (look_questions m ticks) (answer_reply r.answer) (Unlooked m r)
  unfolding ahead_of
  look_answers r e = rw e (by (sound_of m) (leb ticks 1000000) look_verdict)
    where
      by : (sound most : Bool) → Verdict (look_questions m ticks) (number_told (look_asked sound most))
          → (let a = cond sound (cond most (looked m (ticking_of ticks m)) (refusing m Question.LookLength)) (refusing m Question.Sound) in
          AsAsked (look_questions m ticks) (answer_reply a.answer) (Unlooked m a))
      by true true v = judged 0 v refl (λ some. absurd (some refl))
      by true false v = judged 38 v refl (λ some. (refl, refl, refl))
      by false most v = judged 9 v refl (λ some. (refl, refl, refl))
