-- Every history from a machine made fresh goes by the book, and every list of calls has one.
use Rattle.std.specs.Prelude.{◌≡◌, refl, true, List, ◌∷◌, ℕ, zero, suc, length, Result, Ok, Err, ⊤}
use Rattle.std.proofs.Math.Path.{sym, ap}
use Rattle.std.proofs.Common.{subst, ◌∙◌}
use Rattle.question.specs.Question.{number_told}
use Rattle.question.specs.declared.Question.{Question}
use Rattle.queue.specs.Queue.{queue_of, waiting}
use Rattle.queue.specs.laws.Waiting.{queue_waiting, empty_queue_lem}
use Rattle.work.specs.Work.{end_of}
use Rattle.settings.specs.declared.Settings.{Settings}
use Rattle.settings.specs.Settings.{capacity_of}
use Rattle.settings.specs.computed.Settings.{settings_no, ask_settings}
use Rattle.settings.specs.laws.Right.{standard_passes}
use Rattle.bench.specs.Bench.{fresh_of as fresh_bench}
use Rattle.machine.specs.declared.Machine.{Machine}
use Rattle.machine.specs.computed.Machine.{sound_of}
use Rattle.machine.specs.Machine.{machine_of, fresh_of}
use Rattle.machine.specs.computed.Calls.{make_with, make_of}
use Rattle.machine.specs.laws.Keeps.{make_keeps, tick_keeps, run_keeps, load_keeps, hold_keeps, release_keeps, stop_keeps}
use Rattle.book.specs.Bench.{work_end}
use Rattle.book.specs.Book.{Book, Call, Reply, fresh_book, entry, replies, closing}
use Rattle.book.proofs.laws.Sound.{Sound, fresh_sound}
use Rattle.book.proofs.laws.Call.{call_kept, history_sound}
use Rattle.book.proofs.laws.Bounds.{history_bounds}
use Rattle.book.proofs.laws.Ledger.{accounts_right}
use Rattle.book.proofs.laws.Begins.{accounts_below, accounts_given, accounts_accepted}
use Rattle.book.proofs.laws.Counts.{accounts_counted}
use Rattle.book.proofs.laws.Order.{first_come}
use Rattle.book.proofs.laws.Sums.{pulses_are_point, charges_are_feeds}
use Rattle.history.proofs.laws.Record.{record_of}
use Rattle.history.specs.History.{History}
use Rattle.history.specs.Demand.{AsDemanded, EveryHistory, EveryList}
use Rattle.history.proofs.laws.Record.{Follows, same_end, book_settings, figure_is}
use Rattle.history.proofs.laws.Calls.{load_follows, tick_follows, run_follows, hold_follows, release_follows, stop_follows}
use Rattle.history.proofs.laws.Exists.{any_history}

-- the queue of a book's record
module _ (s : Settings) (b : Book) where
  pub told_waiting : waiting (record_of s b).queue ≡ b.waiting
  unfolding machine_of
  told_waiting = queue_waiting (work_end b.bench) b.waiting

  pub told_blank : (let m = record_of s b in m.queue ≡ queue_of (end_of m.bench.at m.bench.work) (waiting m.queue))
  unfolding machine_of
  told_blank = rw (told_waiting, same_end b.bench.at b.bench.work)

module _ (s : Settings) (passed : settings_no s ≡ 0) where
  abbrev q0 : ℕ
  q0 = capacity_of s

  -- the replies and the record are the book's
  record ByBook (b : Book) (cs : List Call) (rs : List Reply) (m : Machine) : Type 0 where
    answers : rs ≡ replies q0 s.travel b cs
    is : m ≡ record_of s (closing q0 s.travel b cs)
    sound : sound_of m ≡ true

  abbrev Onward : List Call → List Reply → Machine → Machine → Type 0
  Onward cs rs m m' = (b : Book) → Sound q0 s.travel b → sound_of m ≡ true → m ≡ record_of s b → ByBook b cs rs m'

  -- one call by the book, and the rest by the book
  one_call : (b : Book) (c : Call) {cs : List Call} {reply : Reply} {rs : List Reply} {m m' : Machine} → Sound q0 s.travel b
      → Follows s (entry q0 s.travel b c) reply m → sound_of m ≡ true → Onward cs rs m m' → ByBook b (c ∷ cs) (reply ∷ rs) m'
  unfolding replies closing
  one_call b c i f keeps rest =
      let r = rest (entry q0 s.travel b c).next (call_kept q0 s.travel (book_settings s passed) b c i) keeps f.leads in
      record { answers = rw (f.says, r.answers); is = r.is; sound = r.sound }

  by_book : {m m' : Machine} {cs : List Call} {rs : List Reply} → History m cs rs m' → Onward cs rs m m'
  unfolding replies closing
  by_book History.ends b i e is = record { answers = refl; is = is; sound = e }
  by_book {m} (History.loads k r h t) b i e is =
      one_call b (Call.load k) i (rw (h, is) (load_follows s b i (rw is at e) k)) (rw h (load_keeps m e k)) (λ b i e is. by_book t b i e is)
  by_book {m} (History.ticks r h t) b i e is =
      one_call b Call.tick i (rw (h, is) (tick_follows s b i (rw is at e))) (rw h (tick_keeps m e)) (λ b i e is. by_book t b i e is)
  by_book {m} (History.runs κs budget out out' r h t) b i e is =
      one_call b (Call.run budget (length out.now)) i (rw (h.1, h.0, is) (run_follows s b i (rw is at e) budget out.now))
      (rw h.0 (run_keeps m e budget (length out.now))) (λ b i e is. by_book t b i e is)
  by_book {m} (History.holds r h t) b i e is =
      one_call b Call.hold i (rw (h, is) (hold_follows s b i (rw is at e))) (rw h (hold_keeps m e)) (λ b i e is. by_book t b i e is)
  by_book {m} (History.releases r h t) b i e is =
      one_call b Call.release i (rw (h, is) (release_follows s b i (rw is at e))) (rw h (release_keeps m e))
      (λ b i e is. by_book t b i e is)
  by_book {m} (History.stops r h t) b i e is =
      one_call b Call.stop i (rw (h, is) (stop_follows s b i (rw is at e))) (rw h (stop_keeps m e)) (λ b i e is. by_book t b i e is)

  demanded : (cs : List Call) (rs : List Reply) (m : Machine) → ByBook fresh_book cs rs m → AsDemanded s cs rs m
  unfolding machine_of
  demanded cs rs m r =
      let right = book_settings s passed in
      let book = closing q0 s.travel fresh_book cs in
      let kept = history_sound q0 s.travel right cs in
      let pulses = pulses_are_point q0 s.travel right cs in
      record {
        answers = r.answers;
        settings = ap (λ (m : Machine). m.bench.settings) r.is;
        point = ap (λ (m : Machine). m.bench.at) r.is;
        mark = ap (λ (m : Machine). m.bench.held) r.is;
        remainder = ap (λ (m : Machine). m.bench.remainder) r.is;
        work = ap (λ (m : Machine). m.bench.work) r.is;
        waiting = ap (λ (m : Machine). waiting m.queue) r.is ∙ told_waiting s book;
        blank = rw r.is (told_blank s book);
        order = rw r.answers (first_come q0 s.travel cs);
        figure = ap (λ (m : Machine). m.left) r.is ∙ figure_is q0 s.travel s book kept;
        sound = sym r.sound;
        bounds = rw r.is (history_bounds q0 s.travel right cs);
        blocks = accounts_right q0 s.travel right cs;
        given = accounts_given q0 s.travel right cs;
        accepted = accounts_accepted q0 s.travel right cs;
        begins = accounts_below q0 s.travel right cs;
        counts = accounts_counted q0 s.travel right cs;
        pulses_x = rw (r.answers, r.is) pulses.0;
        pulses_y = rw (r.answers, r.is) pulses.1;
        feeds = rw (r.answers, r.is) (charges_are_feeds q0 s.travel right cs);
      }

  -- from the fresh record
  fresh_told : fresh_of s ≡ record_of s fresh_book
  unfolding fresh_bench
  fresh_told = ap (machine_of (fresh_bench s)) (empty_queue_lem fresh_book.bench.at)

  from_fresh : (cs : List Call) (rs : List Reply) (m : Machine) → sound_of (fresh_of s) ≡ true → History (fresh_of s) cs rs m
      → AsDemanded s cs rs m
  from_fresh cs rs m e h = demanded cs rs m (by_book h fresh_book (fresh_sound (book_settings s passed)) e fresh_told)

-- ---- the record that make answers, refused or not

record Made (m : Machine) : Type 0 where
  passed : settings_no m.bench.settings ≡ 0
  fresh : m ≡ fresh_of m.bench.settings

made : (s : Settings) (asked : Result ⊤ Question) → ask_settings s ≡ asked → Made (make_with s asked).machine
unfolding fresh_bench machine_of
made s (Ok passed) e = record { passed = ap number_told e; fresh = refl }
made s (Err q) e = record { passed = standard_passes; fresh = refl }

-- ---- the claims

pub every_history : EveryHistory
unfolding make_of
every_history asked answer h cs rs m t =
    let k : Made answer.machine = rw h (made asked (ask_settings asked) refl) in
    let e : sound_of answer.machine ≡ true = rw h (make_keeps asked) in
    from_fresh answer.machine.bench.settings k.passed cs rs m (ap sound_of (sym k.fresh) ∙ e)
    (subst (λ (f : Machine). History f cs rs m) k.fresh t)

pub every_list : EveryList
every_list m cs = any_history m cs

-- every record of a history is sound
pub stays_sound : {m m' : Machine} {cs : List Call} {rs : List Reply} → History m cs rs m' → sound_of m ≡ true → sound_of m' ≡ true
stays_sound History.ends e = e
stays_sound {m} (History.loads k r h t) e = stays_sound t (rw h (load_keeps m e k))
stays_sound {m} (History.ticks r h t) e = stays_sound t (rw h (tick_keeps m e))
stays_sound {m} (History.runs κs budget out out' r h t) e = stays_sound t (rw h.0 (run_keeps m e budget (length out.now)))
stays_sound {m} (History.holds r h t) e = stays_sound t (rw h (hold_keeps m e))
stays_sound {m} (History.releases r h t) e = stays_sound t (rw h (release_keeps m e))
stays_sound {m} (History.stops r h t) e = stays_sound t (rw h (stop_keeps m e))
