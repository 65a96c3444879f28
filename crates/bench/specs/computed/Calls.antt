-- What make, load and tick answer and the record that they hand back, for any record whatever.
use Rattle.std.specs.Prelude.{cond, ◌||◌, ℕ, Result, Ok, Err, ⊤}
use Rattle.question.specs.declared.Question.{Question}
use Rattle.block.specs.declared.Block.{Block}
use Rattle.block.specs.Questions.{ask_load}
use Rattle.work.specs.declared.Advance.{Advance}
use Rattle.work.specs.declared.Begun.{Begun}
use Rattle.work.specs.Work.{is_nothing, begun_of}
use Rattle.work.specs.computed.Work.{advance_of}
use Rattle.settings.specs.declared.Settings.{Settings}
use Rattle.bench.specs.declared.Bench.{Bench}
use Rattle.bench.specs.declared.Answer.{Answer}
use Rattle.bench.specs.declared.Answered.{Answered}
use Rattle.bench.specs.declared.Ticked.{Ticked}
use Rattle.settings.specs.Settings.{capacity_of, standard_settings}
use Rattle.settings.specs.computed.Settings.{ask_settings}
use Rattle.bench.specs.computed.Bench.{sound_of}
use Rattle.bench.specs.Bench.{fresh_of, moved_of}

abbrev pub answers : Result Answer Question → Bench → Answered
answers a m = record { answer = a; bench = m }

-- "Any call on a record: is it sound? 9." A refusal hands the record back as it was.
abbrev pub if_sound : Bench → Answered → Answered
if_sound m a = cond (sound_of m) a (answers (Err Question.Sound) m)

-- ---- make

-- "A refused make answers the number and the fresh machine with p 50, w 5,000 and the widest travel."
abbrev pub make_with : Settings → (asked : Result ⊤ Question) → Answered
make_with s (Ok passed) = answers (Ok Answer.Done) (fresh_of s)
make_with s (Err q) = answers (Err q) (fresh_of standard_settings)

unfoldable pub make_of : Settings → Answered
make_of s = make_with s (ask_settings s)

-- ---- load

abbrev pub taking : Bench → Begun → Answered
taking m g = answers (Ok (Answer.Width g.width)) (moved_of m m.at m.remainder g.work)

abbrev pub load_with : Bench → Block → (asked : Result ⊤ Question) → Answered
load_with m b (Ok passed) = taking m (begun_of m.at b)
load_with m b (Err q) = answers (Err q) m

-- "is nothing in work? 10.": at a bench alone no block waits
unfoldable pub load_of : Bench → Block → Answered
load_of m b = if_sound m (load_with m b (ask_load (capacity_of m.settings) m.settings.travel (is_nothing m.work) m.at b))

-- ---- tick

abbrev pub ticks : Result ℕ Question → Bench → Ticked
ticks t m = record { tick = t; bench = m }

abbrev pub working : Bench → Advance → Ticked
working m a = ticks (Ok a.byte) (moved_of m a.at a.remainder a.work)

-- 01, Ticks and runs: "Idle or held gives 0 and changes nothing."
unfoldable pub tick_of : Bench → Ticked
tick_of m =
    cond (sound_of m)
    (cond (m.held || is_nothing m.work) (ticks (Ok 0) m)
    (working m (advance_of (capacity_of m.settings) m.at m.remainder m.work)))
    (ticks (Err Question.Sound) m)
