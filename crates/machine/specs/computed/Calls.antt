-- What each call answers and the record that it hands back, for any record whatever.
use Rattle.std.specs.Prelude.{Bool, true, false, cond, ltb, Ok, Err, ⊤, Result}
use Rattle.question.specs.declared.Question.{Question}
use Rattle.block.specs.declared.Block.{Block}
use Rattle.block.specs.Questions.{ask_load}
use Rattle.queue.specs.Queue.{empty_queue, pushed_of, waiting_at}
use Rattle.work.specs.declared.Work.{Work}
use Rattle.work.specs.declared.Begun.{Begun}
use Rattle.work.specs.Work.{is_nothing, begun_of}
use Rattle.settings.specs.declared.Settings.{Settings}
use Rattle.settings.specs.Settings.{capacity_of, standard_settings}
use Rattle.settings.specs.computed.Settings.{ask_settings}
use Rattle.bench.specs.declared.Answer.{Answer}
use Rattle.bench.specs.Bench.{moved_of}
use Rattle.bench.specs.computed.Calls.{tick_of as bench_tick}
use Rattle.machine.specs.declared.Machine.{Machine}
use Rattle.machine.specs.declared.Answered.{Answered}
use Rattle.machine.specs.declared.Ticked.{Ticked}
use Rattle.machine.specs.computed.Machine.{sound_of}
use Rattle.machine.specs.Machine.{machine_of, fresh_of, start_of}
use Rattle.machine.specs.Calls.{answers, beginning, ticks, going_on, mark_of}

-- 01: "Any call on a record: is it sound? 9." A refusal hands the record back as it was.
abbrev pub if_sound : Machine → Answered → Answered
if_sound m a = cond (sound_of m) a (answers (Err Question.Sound) m)

-- ---- make

-- 01: "A refused make answers the number and the fresh machine with p 50, w 5,000 and the widest travel."
abbrev pub make_with : Settings → (asked : Result ⊤ Question) → Answered
make_with s (Ok passed) = answers (Ok Answer.Done) (fresh_of s)
make_with s (Err q) = answers (Err q) (fresh_of standard_settings)

unfoldable pub make_of : Settings → Answered
make_of s = make_with s (ask_settings s)

-- ---- load

-- "hold up to 16 blocks after the one in work": with nothing in work the block comes into work, else it waits
abbrev pub takes : Machine → Block → (idle : Bool) → Begun → Machine
takes m b true g = machine_of (beginning m.bench g.work) m.queue
takes m b false g = machine_of m.bench (pushed_of m.queue (waiting_at (start_of m.bench m.queue) b))

abbrev pub taking : Machine → Block → Begun → Answered
taking m b g = answers (Ok (Answer.Width g.width)) (takes m b (is_nothing m.bench.work) g)

abbrev pub load_with : Machine → Block → (asked : Result ⊤ Question) → Answered
load_with m b (Ok passed) = taking m b (begun_of (start_of m.bench m.queue) b)
load_with m b (Err q) = answers (Err q) m

-- "Question 10 becomes: are fewer than 16 waiting? The other load questions .. start from the end of the last waiting block, ..": start_of
unfoldable pub load_of : Machine → Block → Answered
load_of m b =
    let s = m.bench.settings in
    if_sound m (load_with m b (ask_load (capacity_of s) s.travel (ltb m.queue.len 16) (start_of m.bench m.queue) b))

-- ---- tick

unfoldable pub tick_of : Machine → Ticked
tick_of m = cond (sound_of m) (going_on m (bench_tick m.bench)) (ticks (Err Question.Sound) m)

-- ---- hold, release, stop

unfoldable pub hold_of : Machine → Answered
hold_of m = if_sound m (answers (Ok Answer.Done) (mark_of m true))

unfoldable pub release_of : Machine → Answered
release_of m = if_sound m (answers (Ok Answer.Done) (mark_of m false))

-- 01: "Stop drops the block in work, keeps the point and the mark and sets the remainder to 0, also when idle." 02 §3: "Stop empties the
-- queue"
unfoldable pub stop_of : Machine → Answered
stop_of m = if_sound m (answers (Ok Answer.Done) (machine_of (moved_of m.bench m.bench.at 0 Work.Nothing) empty_queue))
