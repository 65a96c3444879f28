-- The tick bytes that a stream hands out are those of the book; and with the unit's laws these are those of before.
use Rattle.std.specs.Prelude.{◌≡◌, Bool, cond, ℕ, zero, suc, ◌+◌, ◌*◌, ◌/◌, ◌%◌, ◌≤◌, leb, drop, Result, Ok, Err}
use Rattle.std.proofs.Math.Path.{refl, sym, ap, subst}
use Rattle.std.proofs.Common.{◌∙◌, arith}
use Rattle.std.proofs.Math.Bool.{true, false}
use mathlib.Core.List.{List, [], ◌∷◌, ◌++◌, append_assoc}
use Rattle.std.proofs.Math.IntN.{pos}
use Rattle.std.proofs.Math.ListN.{length}
use Rattle.question.specs.laws.Ask.{passed as all_asked}
use Rattle.question.specs.declared.Question.{Question}
use Rattle.plane.specs.declared.point.Point.{Point}
use Rattle.plane.specs.declared.travel.Travel.{Travel}
use Rattle.block.specs.declared.Block.{Block}
use Rattle.block.specs.Feed.{finer}
use Rattle.words.specs.declared.line.Line.{Line}
use Rattle.words.specs.Meaning.{number, Means}
use Rattle.words.specs.Whole.{NoPoint}
use Rattle.words.specs.computed.Meaning.{meaning_of}
use Rattle.words.specs.laws.Meaning.{meaning_means}
use Rattle.words.specs.laws.Reading.{means_unique}
use Rattle.words.specs.laws.Whole.{line_thousands}
use Rattle.settings.specs.declared.Settings.{Settings}
use Rattle.settings.specs.Settings.{feed_unit, capacity_at, capacity_of}
use Rattle.settings.specs.computed.Settings.{settings_no, ask_settings}
use Rattle.bench.specs.declared.Bench.{Bench}
use Rattle.bench.specs.declared.Answer.{Answer}
use Rattle.bench.specs.declared.Ran.{Ran}
use Rattle.bench.specs.Bench.{fresh_of, moved_of}
use Rattle.bench.specs.computed.Calls.{load_of}
use Rattle.bench.specs.computed.Run.{run_of}
use Rattle.finish.specs.declared.Finished.{Finished}
use Rattle.finish.specs.laws.Record.{AtRest}
use Rattle.finish.specs.laws.Loaded.{loaded_at_work}
use Rattle.machine.specs.declared.Machine.{Machine}
use Rattle.machine.specs.Machine.{machine_of, fresh_of as fresh_machine}
use Rattle.machine.specs.Calls.{answers}
use Rattle.machine.specs.computed.Calls.{make_of}
use Rattle.machine.specs.laws.Alone.{alone, load_alone}
use Rattle.reader.specs.declared.Reader.{Reader}
use Rattle.reader.specs.declared.text_line.ReadLine.{ReadLine}
use Rattle.reader.specs.computed.Reader.{longest_text}
use Rattle.reader.specs.Reader.{WholeKnown, unknown, reader_after}
use Rattle.reader.specs.laws.Feed.{feed_01, feed_fine, reader_whole, block_finer}
use Rattle.book.specs.Book.{Book, Call, Reply, fresh_book, replies, closing}
use Rattle.book.specs.Sums.{tick_bytes}
use Rattle.book.specs.Unit.{finer_call, finer_calls}
use Rattle.book.specs.Ledger.{block_ticks}
use Rattle.book.proofs.laws.Unit.{finer_book, history_finer, closing_fresh, ticks_finer, leaves_finer}
use Rattle.history.specs.Reply.{answer_reply}
use Rattle.history.specs.Demand.{AsDemanded}
use Rattle.history.specs.History.{History}
use Rattle.history.specs.Look.{only_ticks}
use Rattle.history.proofs.laws.Claim.{every_history}
use Rattle.history.proofs.laws.Look.{joined}
use Rattle.job.specs.Text.{lines_of}
use Rattle.job.specs.Job.{Made, End, Job}
use Rattle.job.specs.Listing.{made_ticks, made_leaves, job_listing}
use Rattle.job.specs.Unit.{WholeText, finer_made, finer_blocks}
use Rattle.job.specs.computed.Check.{enough, unless}
use Rattle.job.specs.computed.Job.{Asks, read_on, job_from_at, job_at, job_from, job_of}
use Rattle.job.specs.computed.Listing.{listing_at}
use Rattle.job.specs.laws.Asks.{Read-as, line_asks_lem}
use Rattle.job.specs.laws.Ended.{Accepted, Low, ended_of, ended, ended_rests, ended_run, ended_ticks, ended_left, ended_low}
use Rattle.job.specs.laws.Listing.{fresh_rests, fresh_low}
use Rattle.job.specs.laws.Unit.{capacity_times, job_finer, listing_finer}
use Rattle.stream.specs.computed.Stream.{run_then, is_refused, bytes_from, tick_bytes_of}
use Rattle.stream.specs.laws.Pieces.{still_idle, nothing_left}
use Rattle.demands.specs.Before.{job_calls, bytes_told, book_bytes, AsBefore, EveryWholeFeed}
use Rattle.demands.specs.Questions.{line_block}
use Rattle.demands.specs.Runs.{TicksTo}
use Rattle.demands.specs.Texts.{TextMeans, FrontOf, TellsOver}
use Rattle.demands.proofs.laws.Bench.{settings_pass}
use Rattle.demands.proofs.laws.Texts.{every_text}
use Rattle.demands.proofs.laws.TickBytes.{run_to_end, stream_front}

-- ---- calls of a history, and the tick bytes that they answer

record Cut (m : Machine) (cs : List Call) (bytes : List ℕ) : Type 0 where
  replies : List Reply
  last : Machine
  history : History m cs replies last
  told : bytes_told replies ≡ bytes

record OnlyTicked (m : Machine) (bytes : List ℕ) (m' : Machine) : Type 0 where
  replies : List Reply
  history : History m (only_ticks (length bytes)) replies m'
  told : bytes_told replies ≡ bytes

told_more : (rs ss : List Reply) → bytes_told (rs ++ ss) ≡ bytes_told rs ++ bytes_told ss
unfolding bytes_told
told_more [] ss = refl
told_more (r ∷ rs) ss =
    ap (λ (bs : List ℕ). tick_bytes r ++ bs) (told_more rs ss) ∙ sym (append_assoc (tick_bytes r) (bytes_told rs) (bytes_told ss))

no_byte : (a : Result Answer Question) → tick_bytes (answer_reply a) ≡ []
no_byte (Ok Answer.Done) = refl
no_byte (Ok (Answer.Width bits)) = refl
no_byte (Err number) = refl

only_ticked : {m m' : Machine} {bytes : List ℕ} → TicksTo m bytes m' → OnlyTicked m bytes m'
unfolding bytes_told
only_ticked TicksTo.none = record { replies = []; history = History.ends; told = refl }
only_ticked (TicksTo.one r byte h e later) =
    let o = only_ticked later in
    record { replies = _ ∷ o.replies; history = History.ticks r h o.history; told = rw (e, o.told) }

-- ---- a block, loaded and ticked to its end

module _ (m : Bench) (b : Block) (i : AtRest m) (low : Low m) (ok : Accepted m b) (rest : Bench → List ℕ) where
  block_cut : {cs : List Call} → Cut (alone (ended_of m b).bench) cs (rest (ended_of m b).bench)
      → Cut (alone m) (Call.load b ∷ (only_ticks (block_ticks (capacity_of m.settings) m.remainder m.at b) ++ cs))
      (run_then (load_of m b).bench rest)
  unfolding machine_of moved_of bytes_told
  block_cut {cs} later =
      let loaded = load_of m b in
      let x = run_of loaded.bench enough enough in
      let left : x.ran.bench ≡ (ended_of m b).bench = ap (λ (r : Ran). r.bench) (ended_run m i b ok) in
      let e = run_to_end loaded.bench (loaded_at_work m i b (rw i.idle ok)) in
      let many : length x.bytes ≡ block_ticks (capacity_of m.settings) m.remainder m.at b =
      e.finishes ∙ ap (λ (f : Finished). f.ticks) (ended m i b ok) ∙ ended_ticks m i b ok low in
      let o = only_ticked (subst (λ (k : Bench). TicksTo (alone loaded.bench) x.bytes (alone k)) left e.ticks) in
      let r = answers loaded.answer (alone loaded.bench) in
      rw (left, ← many)
      (record {
        replies = answer_reply r.answer ∷ (o.replies ++ later.replies);
        last = later.last;
        history = History.loads b r (sym (load_alone m b i.idle)) (joined o.history later.history);
        told = rw (no_byte loaded.answer) (told_more o.replies later.replies ∙ rw (o.told, later.told));
      })

-- ---- line by line

abbrev Cuts : List (List ℕ) → Type 0
Cuts ls =
    (n : ℕ) (m : Bench) (k : Reader) → AtRest m → Low m
    → Cut (alone m) (job_calls (capacity_of m.settings) m.remainder (job_from m.settings n m.at k ls).blocks) (bytes_from m k ls)

by_line : (m : Bench) (n : ℕ) (k : Reader) (ls : List (List ℕ)) → AtRest m → Low m → Cuts ls → {a : Asks} {r : ReadLine} → Read-as m k a r
    → Cut (alone m)
    (job_calls (capacity_of m.settings) m.remainder (read_on n m.at a (λ at k'. job_from m.settings (n + 1) at k' ls)).blocks)
    (unless (is_refused r.answer) (run_then r.bench (λ m'. bytes_from m' r.reader ls)))
unfolding moved_of job_calls bytes_told
by_line m n k ls i low rest (Read-as.nothing known) =
    rw (nothing_left m (λ (m' : Bench). bytes_from m' known ls) (still_idle m i.idle)) (rest (n + 1) m known i low)
by_line m n k ls i low rest (Read-as.makes known b ok) =
    let later = rest (n + 1) (ended_of m b).bench known (ended_rests m i b ok) (ended_low m i b ok low) in
    block_cut m b i low ok (λ m'. bytes_from m' known ls)
    (subst (λ (r : ℕ). Cut (alone (ended_of m b).bench)
    (job_calls (capacity_of m.settings) r (job_from m.settings (n + 1) b.end known ls).blocks)
    (bytes_from (ended_of m b).bench known ls)) (ended_left m i b ok low) later)
by_line m n k ls i low rest (Read-as.refuses number) =
    record { replies = []; last = alone m; history = History.ends; told = refl }

lines_cut : (ls : List (List ℕ)) → Cuts ls
unfolding bytes_from job_from_at job_calls bytes_told
lines_cut [] n m k i low = record { replies = []; last = alone m; history = History.ends; told = refl }
lines_cut (l ∷ ls) n m k i low = by_line m n k ls i low (lines_cut ls) (line_asks_lem m k i.sound i.idle l)

module _ (s : Settings) (passed : settings_no s ≡ 0) (text : List ℕ) where
  text_cut : Cut (fresh_machine s) (job_calls (capacity_of s) 0 (job_of s text).blocks) (tick_bytes_of s text)
  unfolding tick_bytes_of job_at fresh_of job_calls bytes_told
  text_cut = by (leb (length text) longest_text)
    where
      by : (short : Bool)
          → Cut (fresh_machine s)
          (job_calls (capacity_of s) 0 (cond short (job_from s 1 (record { x = pos 0; y = pos 0 }) unknown (lines_of text))
          (record { blocks = []; end = End.refused 1 30 })).blocks)
          (cond short (bytes_from (fresh_of s) unknown (lines_of (drop 0 text))) [])
      by true = lines_cut (lines_of text) 1 (fresh_of s) unknown (fresh_rests s passed) (fresh_low s passed)
      by false = record { replies = []; last = fresh_machine s; history = History.ends; told = refl }

  made_fresh : (make_of s).machine ≡ fresh_machine s
  unfolding make_of
  made_fresh = rw (all_asked (ask_settings s) passed)

  -- the book, by 02 §4's unit
  book_bytes_lem : tick_bytes_of s text ≡ book_bytes (capacity_of s) s.travel (job_of s text).blocks
  unfolding fresh_of machine_of
  book_bytes_lem =
      let c = text_cut in
      let cs = job_calls (capacity_of s) 0 (job_of s text).blocks in
      let h = subst (λ (m : Machine). History m cs c.replies c.last) (sym made_fresh) c.history in
      let a = (every_history s (make_of s) refl cs c.replies c.last h).answers in
      sym c.told ∙ ap bytes_told a
      ∙ ap (λ (m : Machine). bytes_told (replies (capacity_of m.bench.settings) m.bench.settings.travel fresh_book cs)) made_fresh

-- ---- the unit

module _ (u : ℕ) (some : 1 ≤ u) (q0 : ℕ) where
  more_calls : (cs ds : List Call) → finer_calls u (cs ++ ds) ≡ finer_calls u cs ++ finer_calls u ds
  more_calls [] ds = refl
  more_calls (c ∷ cs) ds = ap (λ (es : List Call). finer_call u c ∷ es) (more_calls cs ds)

  ticks_stay : (n : ℕ) → finer_calls u (only_ticks n) ≡ only_ticks n
  ticks_stay zero = refl
  ticks_stay (suc n) = ap (λ (es : List Call). Call.tick ∷ es) (ticks_stay n)

  calls_finer : (r : ℕ) (ms : List Made) → job_calls (u * q0) (u * r) (finer_blocks u ms) ≡ finer_calls u (job_calls q0 r ms)
  unfolding job_calls
  calls_finer r [] = refl
  calls_finer r (m ∷ ms) =
      let n = made_ticks q0 r m in
      let later = made_leaves (u * q0) (u * r) (finer_made u m) in
      ap (λ (cs : List Call). Call.load (finer u m.block) ∷ cs)
      (ap (λ (t : ℕ). only_ticks t ++ job_calls (u * q0) later (finer_blocks u ms)) (ticks_finer u some q0 r m.start m.block)
      ∙ ap (λ (l : ℕ). only_ticks n ++ job_calls (u * q0) l (finer_blocks u ms)) (leaves_finer u some q0 r m.start m.block)
      ∙ ap (λ (cs : List Call). only_ticks n ++ cs) (calls_finer (made_leaves q0 r m) ms)
      ∙ ap (λ (cs : List Call). cs ++ finer_calls u (job_calls q0 (made_leaves q0 r m) ms)) (sym (ticks_stay n))
      ∙ sym (more_calls (only_ticks n) (job_calls q0 (made_leaves q0 r m) ms)))

  bytes_finer : (travel : Travel) (ms : List Made) → book_bytes (u * q0) travel (finer_blocks u ms) ≡ book_bytes q0 travel ms
  bytes_finer travel ms =
      ap (λ (cs : List Call). bytes_told (replies (u * q0) travel fresh_book cs))
      (ap (λ (r : ℕ). job_calls (u * q0) r (finer_blocks u ms)) none ∙ calls_finer 0 ms)
      ∙ ap bytes_told (history_finer u some q0 travel (job_calls q0 0 ms))
    where
      none : 0 ≡ u * 0
      none = omega arith

some_unit : 1 ≤ feed_unit
some_unit = omega arith

-- ---- the claim

module _ (s : Settings) (text : List ℕ) (whole : WholeText text) {made : List Made} {end : End} (means : TextMeans 1 s text made end) where
  before : job_at 1 s text ≡ record { blocks = made; end = end }
  before = (every_text.means 1 s text made end).0 means

  after : job_of s text ≡ record { blocks = finer_blocks feed_unit made; end = end }
  after = job_finer feed_unit some_unit s text whole
      ∙ ap (λ (j : Job). record { blocks = finer_blocks feed_unit j.blocks; end = j.end }) before

  -- the listing, as the check hands it out
  listed : listing_at feed_unit s text ≡ job_listing (capacity_at 1 s) (record { blocks = made; end = end })
  unfolding listing_at
  listed = listing_finer feed_unit some_unit s text whole ∙ ap (job_listing (capacity_at 1 s)) before

  -- and the tick bytes
  told : settings_no s ≡ 0 → tick_bytes_of s text ≡ book_bytes (capacity_at 1 s) s.travel made
  told passed =
      book_bytes_lem s passed text
      ∙ ap (λ (j : Job). book_bytes (capacity_of s) s.travel j.blocks) after
      ∙ ap (λ (q : ℕ). book_bytes q s.travel (finer_blocks feed_unit made)) (capacity_times feed_unit s)
      ∙ bytes_finer feed_unit some_unit (capacity_at 1 s) s.travel made

as_before : (s : Settings) (cs : List Call) {rs : List Reply} {m : Machine} → AsDemanded s (finer_calls feed_unit cs) rs m
    → AsBefore feed_unit s cs rs m
as_before s cs d =
    let q0 = capacity_at 1 s in
    let same : closing (capacity_of s) s.travel fresh_book (finer_calls feed_unit cs)
    ≡ finer_book feed_unit (closing q0 s.travel fresh_book cs) =
    ap (λ (q : ℕ). closing q s.travel fresh_book (finer_calls feed_unit cs)) (capacity_times feed_unit s)
    ∙ closing_fresh feed_unit some_unit q0 s.travel cs in
    record {
      answers = d.answers
          ∙ ap (λ (q : ℕ). replies q s.travel fresh_book (finer_calls feed_unit cs)) (capacity_times feed_unit s)
          ∙ history_finer feed_unit some_unit q0 s.travel cs;
      point = d.point ∙ ap (λ (b : Book). b.bench.at) same;
      mark = d.mark ∙ ap (λ (b : Book). b.bench.mark) same;
      remainder = d.remainder ∙ ap (λ (b : Book). b.bench.remainder) same;
    }

digits_known : (n : ℕ) → ((n * 1000 + 0) / 1000 ≡ n) × ((n * 1000 + 0) % 1000 ≡ 0)
digits_known n = (omega arith, omega arith)

line_same : (k : Reader) → WholeKnown k.feed → (scale : ℕ) (start : Point) (bytes : List ℕ) → NoPoint bytes
    → (l : Line) → Means bytes l
    → (line_block feed_unit k scale start l ≡ finer feed_unit (line_block 1 k scale start l)) × WholeKnown (reader_after k l.words).feed
line_same k known scale start bytes whole l means =
    let is = means_unique bytes (meaning_of bytes) l (meaning_means bytes) means in
    let after = reader_whole k l.words known (ap (λ (m : Line). m.words.f.magnitude % 1000) (sym is) ∙ line_thousands bytes whole) in
    (block_finer feed_unit scale (reader_after k l.words) l.words start after, after)

pub every_whole_feed : EveryWholeFeed
unfolding listing_at
every_whole_feed =
    record {
      capacity = λ s. omega arith;
      feed = feed_01;
      capacity_now = λ s. refl;
      feed_now = feed_fine;
      known = λ f digits. rw ((digits_known (number digits)).0, (digits_known (number digits)).1);
      line = line_same;
      job = λ s text whole made end means.
          (every_text.means feed_unit s text (finer_blocks feed_unit made) end).1 (after s text whole means);
      listing = λ s pass text whole made end means c e bytes d rows.
          subst (λ (l : List ℕ). FrontOf l bytes (TellsOver d true))
          (listed s text whole means)
          (every_text.listing s pass c e text bytes d rows);
      bytes = λ s pass text whole made end means t e bytes u out.
          subst (λ (l : List ℕ). FrontOf l bytes (u.over ≡ true))
          (told s text whole means ((settings_pass s).1 pass))
          (stream_front s t e text bytes u out);
      history = λ asked made h cs rs m t.
          as_before made.machine.bench.settings cs (every_history asked made h (finer_calls feed_unit cs) rs m t);
    }
