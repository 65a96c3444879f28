-- The calls from C are the machine's own on the words of a sound record, since words and sound records tell each other.
use Rattle.std.specs.Prelude.{◌≡◌, ◌⊎◌, Bool, cond, ◌&&◌, ℕ, zero, suc, ◌/◌, ◌%◌, ◌^◌, ◌≤◌, ◌<◌, ltb, ℤ, pos, negsuc}
use Rattle.std.specs.Prelude.{length, take, Result, Ok, Err, ⊤}
use Rattle.std.specs.Prelude.{Option, Some, None}
use Rattle.std.proofs.Math.Path.{refl, sym, ap, subst}
use Rattle.std.proofs.Common.{◌∙◌, inl, inr, arith}
use Rattle.std.proofs.Math.Bool.{true, false}
use mathlib.Core.List.{List, []}
use borrow.Author.Tests.{leb-true, leb-false, le-leb, ltb-true}
use Rattle.std.proofs.Math.Dec.{leb}
use denote.Ref.{Bor, MutBor, at_last}
use Rattle.question.specs.Question.{number_of}
use Rattle.question.specs.declared.Question.{Question}
use Rattle.whole.specs.laws.Test.{refuted}
use Rattle.block.specs.declared.Block.{Block}
use Rattle.queue.specs.Queue.{empty_queue}
use Rattle.run.specs.computed.Run.{written}
use Rattle.settings.specs.declared.Settings.{Settings}
use Rattle.settings.specs.Settings.{feed_unit}
use Rattle.settings.specs.computed.Settings.{settings_no, ask_settings}
use Rattle.bench.specs.declared.Answer.{Answer}
use Rattle.bench.specs.declared.Report.{Report}
use Rattle.machine.specs.declared.Machine.{Machine}
use Rattle.machine.specs.declared.Answered.{Answered}
use Rattle.machine.specs.computed.Machine.{sound_of}
use Rattle.machine.specs.Machine.{machine_of}
use Rattle.machine.specs.computed.Calls.{make_with, make_of, load_of, tick_of, hold_of, release_of, stop_of}
use Rattle.machine.specs.computed.Run.{Run, run_of}
use Rattle.machine.specs.laws.Keeps.{make_keeps, load_keeps, run_keeps}
use Rattle.look.specs.declared.Ahead.{Ahead}
use Rattle.look.specs.computed.Look.{ticking_of, sums_of, looked, refusing}
use Rattle.look.specs.Look.{most_ticks}
use Rattle.look.specs.laws.Ahead.{looks, too_far}
use Rattle.book.specs.Book.{Reply}
use Rattle.history.specs.CallContracts.{Looks}
use Rattle.history.specs.Reply.{answer_reply, tick_reply, run_reply}
use Rattle.words.specs.declared.line.Line.{Line}
use Rattle.words.specs.computed.Meaning.{meaning_of}
use Rattle.words.specs.laws.Meaning.{meaning_means}
use Rattle.reader.specs.declared.Feed.{Feed}
use Rattle.reader.specs.Reader.{feed_of}
use Rattle.reader.specs.declared.Reader.{Reader}
use Rattle.reader.specs.declared.text_line.Read.{Read}
use Rattle.textline.specs.declared.ReadLine.{ReadLine}
use Rattle.textline.specs.computed.TextLine.{read_line_of}
use Rattle.textline.specs.laws.TextLine.{read_either}
use Rattle.encoding.specs.Words.{word_of, refusal_of}
use Rattle.encoding.specs.laws.Same.{same_true}
use Rattle.encoding.specs.laws.Number.{word_small}
use Rattle.record.specs.Words.{encode_of, over}
use Rattle.record.specs.computed.Words.{machine_in, sound_words}
use Rattle.record.specs.laws.Write.{told_sound}
use Rattle.record.specs.laws.Again.{Blanks}
use Rattle.calls.specs.Calls.{answer_number, tick_number, report_number, WordCall}
use Rattle.calls.specs.computed.Calls.{Told, tells, call_of, told_of}
use Rattle.calls.specs.computed.Calls.{made_of, ToldRun, tells_run, ran, told_run_of}
use Rattle.calls.specs.laws.Told.{told_call, told_refused, run_refused}
use Rattle.calls.specs.laws.Load.{own_words}
use Rattle.progress.specs.computed.Known.{DecodedKnown}
use Rattle.progress.specs.Known.{encode_known, feed_read, reader_of}
use Rattle.progress.specs.computed.Known.{known_in, decode_known}
use Rattle.progress.specs.laws.Inverse.{known_decode}
use Rattle.cmachine.specs.computed.Looks.{ToldAhead, tells_ahead, ticks_of, told_ahead_of}
use Rattle.cmachine.specs.Looks.{sum_words, no_sums}
use Rattle.cmachine.specs.Texts.{read_number}
use Rattle.cmachine.specs.computed.Texts.{ToldLine, tells_line, line_told, told_line_of}
use Rattle.cmachine.specs.laws.Looks.{ticks_told, ahead_refused, ahead_far}
use Rattle.cmachine.specs.laws.Again.{machine_after, keeps, blanks_kept}
use Rattle.cmachine.specs.laws.Width.{width_word}
use Rattle.demands.specs.Asked.{AllYes}
use Rattle.demands.specs.Questions.{next_start, line_questions, makes_block, line_block}
use Rattle.demands.specs.Answers.{read_reply}
use Rattle.demands.specs.FromC.{Own, Carries, NoRecord, OnWords, RunOnWords, TickedWords, LookOnWords, MadeWords}
use Rattle.demands.specs.FromC.{FeedWritten, NotKnown, LineOnWords, EveryCallFromC}
use Rattle.demands.proofs.laws.Sound.{sound_is}
use Rattle.demands.proofs.laws.Answers.{load_answers, tick_answers, run_answers}
use Rattle.demands.proofs.laws.TextLine.{line_answers, line_taken}
use Rattle.demands.proofs.laws.Carried.{carries_sound, carries_it, carried, carries_told, unsound_words}
use Rattle.demands.proofs.laws.Carried.{run_blanks}
use Rattle.job.specs.computed.Check.{FeedSmall}
use Rattle.job.specs.computed.Listing.{listing_at}
use Rattle.panel.specs.computed.Listing.{panel_listing}
use Rattle.demands.proofs.laws.CheckFromC.{started, from_words, check_fills, no_check_fills}
use Rattle.demands.proofs.laws.PanelFromC.{started as panel_started, from_words as panel_from_words}
use Rattle.demands.proofs.laws.PanelFromC.{panel_reads, no_panel_reads, short_reads, panel_kept, panel_few}

-- ---- the calls

-- what a run tells on the words of a sound record
ran_told : (ws : List ℤ) → sound_words ws ≡ true → (budget : ℕ) (out : List ℕ)
    → told_run_of ws budget out ≡ ran ws (run_of (machine_in ws) budget (length out)) out
unfolding told_run_of
ran_told ws t budget out = rw t

made_blanks : (s : Settings) → Blanks (make_of s).machine.queue
unfolding make_of machine_of empty_queue
made_blanks s = by (ask_settings s)
  where
    by : (asked : Result ⊤ Question) → Blanks (make_with s asked).machine.queue
    by (Ok passed) = refl
    by (Err q) = refl

own_call : (ws : List ℤ) (m : Machine) (call : WordCall)
    → (let t = call_of ws m call in Own call m t.answer (machine_after m call) × (t.words ≡ over (encode_of (machine_after m call)) ws))
unfolding call_of
own_call ws m (WordCall.load b) = ((load_of m b, refl, refl, refl), refl)
own_call ws m WordCall.tick = ((tick_of m, refl, refl, refl), refl)
own_call ws m WordCall.hold = ((hold_of m, refl, refl, refl), refl)
own_call ws m WordCall.release = ((release_of m, refl, refl, refl), refl)
own_call ws m WordCall.stop = ((stop_of m, refl, refl, refl), refl)

-- a call on a sound record that answers a negative number is a load that refused, and left the record as it was
refused_load : (m : Machine) (b : Block) (a : Answered) → a ≡ load_of m b → sound_of m ≡ true
    → (k : ℕ) → answer_number a.answer ≡ negsuc k → a.machine ≡ m
refused_load m b a is sound k = by a.answer refl
  where
    by : (answer : Result Answer Question) → a.answer ≡ answer → answer_number answer ≡ negsuc k → a.machine ≡ m
    by (Ok Answer.Done) at e = cc
    by (Ok (Answer.Width w)) at e = let small = word_small (width_word m sound b (ap (λ (x : Answered). x.answer) (sym is) ∙ at)) in cc
    by (Err q) at e = (load_answers m b a is).kept (number_of q) (ap answer_reply at)

-- a tick and a run of a sound record are never refused
apart : {n k : ℕ} → pos n ≡ negsuc k → ⊥
apart {n} {k} e = let z : ◌≡◌ {A = ℕ} 0 1 = cc in absurd (omega (arith, z))

no_refused_tick : (m : Machine) → sound_of m ≡ true → (k : ℕ) → tick_number (tick_of m).tick ≡ negsuc k → ⊥
no_refused_tick m sound k = by (tick_of m).tick refl
  where
    by : (t : Result ℕ Question) → (tick_of m).tick ≡ t → tick_number t ≡ negsuc k → ⊥
    by (Ok b) at e = apart e
    by (Err q) at e =
        (tick_answers m (tick_of m) refl).accepted.1 ((sound_is m).0 sound, tt) (number_of q) (ap tick_reply at)

no_refused_run : (m : Machine) → sound_of m ≡ true → (budget : ℕ) (out : MutBor (List ℕ)) (k : ℕ)
    → report_number (run_of m budget (length out.now)).ran.report ≡ negsuc k → ⊥
no_refused_run m sound budget out k = by r.ran.report refl
  where
    r : Run
    r = run_of m budget (length out.now)

    out' : MutBor (List ℕ)
    out' = at_last out (written r.bytes out.now)

    by : (report : Result Report Question) → r.ran.report ≡ report → report_number report ≡ negsuc k → ⊥
    by (Ok Report.Idle) at e = apart e
    by (Ok Report.Held) at e = apart e
    by (Ok Report.Ended) at e = apart e
    by (Ok Report.Spent) at e = apart e
    by (Ok Report.Full) at e = apart e
    by (Err q) at e =
        (run_answers m ([], tt) budget out out' r.ran (refl, refl)).accepted.1 ((sound_is m).0 sound, tt) (number_of q)
        (ap (λ (report : Result Report Question). run_reply report r.ran.ticks (take r.ran.ticks out'.now)) at)

refused_call : (ws : List ℤ) (m : Machine) → sound_of m ≡ true → (call : WordCall) (k : ℕ) → (call_of ws m call).answer ≡ negsuc k
    → machine_after m call ≡ m
unfolding call_of hold_of release_of stop_of
refused_call ws m sound (WordCall.load b) k e = refused_load m b (load_of m b) refl sound k e
refused_call ws m sound WordCall.tick k e = absurd (no_refused_tick m sound k e)
refused_call ws m sound WordCall.hold k e = let z = rw sound at e in absurd (apart z)
refused_call ws m sound WordCall.release k e = let z = rw sound at e in absurd (apart z)
refused_call ws m sound WordCall.stop k e = let z = rw sound at e in absurd (apart z)

on_words : (call : WordCall) (before : List ℤ) (n : ℤ) (after : List ℤ) → tells n after ≡ told_of before call → OnWords call before n after
on_words call before n after h =
    record {
      own = λ m c.
          let e = (sound_is m).1 c.sound in
          let own = own_call before m call in
          let same = h ∙ sym (told_call before (carries_sound before m c) call)
          ∙ ap (λ (x : Machine). call_of before x call) (carries_it before m c) in
          let laid = ap (λ (t : Told). t.words) same ∙ own.1 in (
            machine_after m call,
            subst (λ (n : ℤ). Own call m n (machine_after m call)) (sym (ap (λ (t : Told). t.answer) same)) own.0,
            subst (λ (l : List ℤ). Carries l (machine_after m call)) (sym laid)
                (carried (machine_after m call) (keeps m call e) (blanks_kept m e c.blank call) before),
            laid,
          );
      others = λ none.
          let r = h ∙ sym (told_refused before (unsound_words before none) call) in
          (ap (λ (t : Told). t.answer) r, ap (λ (t : Told). t.words) r);
      refused = by (sound_words before) refl;
    }
  where
    by : (sound : Bool) → sound_words before ≡ sound → (k : ℕ) → n ≡ negsuc k → after ≡ before
    by true t k e =
        let m = machine_in before in
        let same = h ∙ sym (told_call before t call) in
        ap (λ (t : Told). t.words) same ∙ (own_call before m call).1
        ∙ ap (λ (x : Machine). over (encode_of x) before)
        (refused_call before m (told_sound before t) call k (sym (ap (λ (t : Told). t.answer) same) ∙ e))
        ∙ own_words before t
    by false t k e = ap (λ (t : Told). t.words) (h ∙ sym (told_refused before t call))

run_on_words : (before : List ℤ) (budget : ℕ) (out out' : MutBor (List ℕ)) (n : ℤ) (ticks : ℕ) (after : List ℤ)
    → tells_run n ticks after out'.now ≡ told_run_of before budget out.now → RunOnWords before budget out out' n ticks after
run_on_words before budget out out' n ticks after h =
    record {
      own = λ m c.
          let e = (sound_is m).1 c.sound in
          let r = run_of m budget (length out.now) in
          let same = h ∙ ran_told before (carries_sound before m c) budget out.now
          ∙ ap (λ (x : Machine). ran before (run_of x budget (length out.now)) out.now) (carries_it before m c) in
          let laid = ap (λ (t : ToldRun). t.words) same in (
            r.ran.machine,
            (
              r.ran,
              λ κs. (refl, ap (λ (t : ToldRun). t.buffer) same),
              ap (λ (t : ToldRun). t.answer) same,
              ap (λ (t : ToldRun). t.ticks) same,
              refl,
            ),
            subst (λ (l : List ℤ). Carries l r.ran.machine) (sym laid)
                (carried r.ran.machine (run_keeps m e budget (length out.now))
                (run_blanks m e c.blank budget (length out.now)) before),
            laid,
          );
      others = λ none. parts (unsound_words before none);
      refused = by (sound_words before) refl;
    }
  where
    parts : sound_words before ≡ false → (n ≡ negsuc 8) × (ticks ≡ 0) × (after ≡ before) × (out'.now ≡ out.now)
    parts t =
        let e = h ∙ sym (run_refused before t budget out.now) in (
          ap (λ (t : ToldRun). t.answer) e,
          ap (λ (t : ToldRun). t.ticks) e,
          ap (λ (t : ToldRun). t.words) e,
          ap (λ (t : ToldRun). t.buffer) e,
        )

    by : (sound : Bool) → sound_words before ≡ sound → (k : ℕ) → n ≡ negsuc k → (ticks ≡ 0) × (after ≡ before) × (out'.now ≡ out.now)
    by true t k e =
        let same = h ∙ ran_told before t budget out.now in
        absurd (no_refused_run (machine_in before) (told_sound before t) budget out k (sym (ap (λ (t : ToldRun). t.answer) same) ∙ e))
    by false t k e = let p = parts t in (p.1, p.2, p.3)

-- ---- a look-ahead

-- ticks on words by vz_tick's own contract
ticked_is : {n : ℕ} {before after : List ℤ} → TickedWords n before after → after ≡ ticks_of n before
unfolding ticks_of
ticked_is TickedWords.none = refl
ticked_is (TickedWords.one {n = n} κs words words' answer h rest) =
    ticked_is rest ∙ ap (ticks_of n) (ap (λ (t : Told). t.words) h)

module _ (before : List ℤ) (ticks : ℕ) (n : ℤ) (then sums : List ℤ) (h : tells_ahead n then sums ≡ told_ahead_of before ticks) where
  look_others : sound_words before ≡ false → (n ≡ negsuc 8) × (then ≡ before) × (sums ≡ no_sums)
  look_others t =
      let e = h ∙ sym (ahead_refused before ticks t) in
      (ap (λ (t : ToldAhead). t.answer) e, ap (λ (t : ToldAhead). t.then) e, ap (λ (t : ToldAhead). t.sums) e)

  -- of a sound record: far enough, or too far
  module _ (t : sound_words before ≡ true) where
    abbrev own : Machine
    own = machine_in before

    near : ticks ≤ most_ticks
        → tells_ahead n then sums ≡ tells_ahead (pos 0) (ticks_of ticks before) (sum_words (sums_of (ticking_of ticks own).bytes))
    unfolding told_ahead_of
    near most = h ∙ rw (t, looks own ticks (told_sound before t) most, le-leb ticks most_ticks most)

    far : most_ticks < ticks → tells_ahead n then sums ≡ tells_ahead (negsuc 37) before no_sums
    far more = h ∙ sym (ahead_far before ticks t more)

    look_own : (r : Ahead) × Looks own ticks r × (n ≡ answer_number r.answer) × Carries then r.then × (sums ≡ sum_words r.sums)
    unfolding refusal_of word_of
    look_own = by (leb ticks most_ticks) refl
      where
        by : (most : Bool) → leb ticks most_ticks ≡ most
            → (r : Ahead) × Looks own ticks r × (n ≡ answer_number r.answer) × Carries then r.then × (sums ≡ sum_words r.sums)
        by true e =
            let most = leb-true ticks most_ticks e in
            let same = near most in
            let told = ticks_told ticks before t in (
              looked own (ticking_of ticks own),
              sym (looks own ticks (told_sound before t) most),
              ap (λ (t : ToldAhead). t.answer) same,
              subst (λ (l : List ℤ). Carries l (ticking_of ticks own).machine) (sym (ap (λ (t : ToldAhead). t.then) same))
                  (subst (Carries (ticks_of ticks before)) told.0 (carries_told (ticks_of ticks before) told.1)),
              ap (λ (t : ToldAhead). t.sums) same,
            )
        by false e =
            let more = leb-false ticks most_ticks e in
            let same = far more in (
              refusing own Question.LookLength,
              sym (too_far own ticks (told_sound before t) more),
              ap (λ (t : ToldAhead). t.answer) same,
              subst (λ (l : List ℤ). Carries l own) (sym (ap (λ (t : ToldAhead). t.then) same)) (carries_told before t),
              ap (λ (t : ToldAhead). t.sums) same,
            )

    look_copy : n ≡ pos 0 → then ≡ ticks_of ticks before
    look_copy e = by (leb ticks most_ticks) refl
      where
        by : (most : Bool) → leb ticks most_ticks ≡ most → then ≡ ticks_of ticks before
        by true l = ap (λ (t : ToldAhead). t.then) (near (leb-true ticks most_ticks l))
        by false l =
            absurd (apart (sym e ∙ ap (λ (t : ToldAhead). t.answer) (far (leb-false ticks most_ticks l))))

    look_refused : (k : ℕ) → n ≡ negsuc k → (then ≡ before) × (sums ≡ no_sums)
    look_refused k e = by (leb ticks most_ticks) refl
      where
        by : (most : Bool) → leb ticks most_ticks ≡ most → (then ≡ before) × (sums ≡ no_sums)
        by true l = absurd (apart (sym (ap (λ (t : ToldAhead). t.answer) (near (leb-true ticks most_ticks l))) ∙ e))
        by false l =
            let same = far (leb-false ticks most_ticks l) in (ap (λ (t : ToldAhead). t.then) same, ap (λ (t : ToldAhead). t.sums) same)

  look_on_words : LookOnWords before ticks n then sums
  look_on_words =
      record {
        own = λ m c.
            subst (λ (x : Machine).
            (r : Ahead) × Looks x ticks r × (n ≡ answer_number r.answer) × Carries then r.then × (sums ≡ sum_words r.sums))
            (carries_it before m c) (look_own (carries_sound before m c));
        copy = λ e ws ticked. copied e ticked (sound_words before) refl;
        others = λ none. look_others (unsound_words before none);
        refused = by (sound_words before) refl;
      }
    where
      copied : n ≡ pos 0 → {ws : List ℤ} → TickedWords ticks before ws → (sound : Bool) → sound_words before ≡ sound → then ≡ ws
      copied e ticked true t = look_copy t e ∙ sym (ticked_is ticked)
      copied e ticked false t = absurd (apart (sym e ∙ (look_others t).0))

      by : (sound : Bool) → sound_words before ≡ sound → (k : ℕ) → n ≡ negsuc k → (then ≡ before) × (sums ≡ no_sums)
      by true t k e = look_refused t k e
      by false t k e = let p = look_others t in (p.1, p.2)

-- ---- make

made_words : (s : Settings) (before : List ℤ) (n : ℤ) (after : List ℤ) → tells n after ≡ made_of before s → MadeWords s before n after
unfolding made_of
made_words s before n after h =
    let laid = ap (λ (t : Told). t.words) h in (
      make_of s,
      refl,
      ap (λ (t : Told). t.answer) h,
      subst (λ (l : List ℤ). Carries l (make_of s).machine) (sym laid) (carried (make_of s).machine (make_keeps s) (made_blanks s) before),
      laid,
    )

-- ---- a line of a job text

-- what is known, and its words
feed_written : (z : ℤ) → FeedWritten (feed_read z)
feed_written (negsuc n) = tt
feed_written (pos f) = by (ltb f (10 ^ 10)) refl
  where
    by : (small : Bool) → ltb f (10 ^ 10) ≡ small → FeedWritten (cond small (feed_of (f / 1000) (f % 1000)) None)
    by true e = let few = ltb-true f (10 ^ 10) e in (omega arith, omega arith)
    by false e = tt

known_words : (ks : List ℤ) → (decode_known ks).ok ≡ true → ks ≡ encode_known (decode_known ks).reader
unfolding decode_known
known_words ks t = same_true ks (encode_known (reader_of (known_in ks))) t

known_told : (ks : List ℤ) (k : Reader) → FeedWritten k.feed → ks ≡ encode_known k → decode_known ks ≡ record { ok = true; reader = k }
known_told ks k f e = ap decode_known e ∙ known_decode k (fits k.feed f)
  where
    fits : (f : Option Feed) → FeedWritten f → FeedSmall f
    fits None h = h
    fits (Some f) h = h

nothing_known : (ks : List ℤ) → NotKnown ks → (decode_known ks).ok ≡ false
unfolding decode_known
nothing_known ks none =
    refuted (decode_known ks).ok (λ t. none (decode_known ks).reader (feed_written (known_in ks).feed) (known_words ks t))

-- a width that was answered, and whether one was
abbrev bits_of : Read → ℕ
bits_of Read.Nothing = 0
bits_of (Read.Loaded bits) = bits
bits_of (Read.Refused number) = 0

abbrev is_loaded : Read → ℕ
is_loaded Read.Nothing = 0
is_loaded (Read.Loaded bits) = 1
is_loaded (Read.Refused number) = 0

-- a line whose answer is a width has loaded a block of that width
loaded_width : (k : Reader) (m : Machine) (line : Bor (List ℕ)) {bits : ℕ} → (read_line_of k m line.now).answer ≡ Read.Loaded bits
    → bits < 2 ^ 63
loaded_width k m line {bits} e = by (makes_block feed_unit k m.bench.settings.scale (next_start m) l) refl
  where
    l : Line
    l = meaning_of line.now

    r : ReadLine
    r = read_line_of k m line.now

    not_refused : (n : ℕ) → read_reply r.answer ≡ Reply.refused n → ⊥
    not_refused n is = let both_told = ap read_reply e in let z : ◌≡◌ {A = ℕ} 0 1 = cc in absurd (omega (arith, z))

    all : AllYes (line_questions k m line.now l)
    all = (line_answers ([], tt) k m line r refl l (meaning_means line.now)).accepted.0 not_refused

    by : (block : Bool) → makes_block feed_unit k m.bench.settings.scale (next_start m) l ≡ block → bits < 2 ^ 63
    by true b =
        let t = (line_taken ([], tt) k m line r refl l (meaning_means line.now) all).block b in
        let width = ap bits_of (sym (ap (λ (x : ReadLine). x.answer) t.4) ∙ e) in
        subst (λ (w : ℕ). w < 2 ^ 63) width
        (width_word m ((sound_is m).1 all.0) (line_block feed_unit k m.bench.settings.scale (next_start m) l)
        (ap (λ (x : Answered). x.answer) (sym t.2) ∙ t.3))
    by false b =
        let t = (line_taken ([], tt) k m line r refl l (meaning_means line.now) all).no_block b in
        omega (arith, ap is_loaded (sym (ap (λ (x : ReadLine). x.answer) t) ∙ e))

-- a line that answers a negative number is a refused one
refused_line_lem : (k : Reader) (m : Machine) (line : Bor (List ℕ)) (q : ℕ) → read_number (read_line_of k m line.now).answer ≡ negsuc q
    → ((read_line_of k m line.now).reader ≡ k) × ((read_line_of k m line.now).machine ≡ m)
refused_line_lem k m line q = by (read_line_of k m line.now).answer refl
  where
    by : (answer : Read) → (read_line_of k m line.now).answer ≡ answer → read_number answer ≡ negsuc q
        → ((read_line_of k m line.now).reader ≡ k) × ((read_line_of k m line.now).machine ≡ m)
    by Read.Nothing at e = absurd (apart e)
    by (Read.Loaded bits) at e = absurd (apart (sym (word_small (loaded_width k m line at)) ∙ e))
    by (Read.Refused number) at e =
        (line_answers ([], tt) k m line (read_line_of k m line.now) refl (meaning_of line.now) (meaning_means line.now)).kept number
        (ap read_reply at)

module _ (before known : List ℤ) (line : Bor (List ℕ)) (n : ℤ) (after known' : List ℤ)
    (h : tells_line n after known' ≡ told_line_of before known line.now) where
  -- words of which something is wrong
  line_others : (sound_words before && (decode_known known).ok) ≡ false → (n ≡ negsuc 8) × (after ≡ before) × (known' ≡ known)
  unfolding told_line_of
  line_others t =
      let e : tells_line n after known' ≡ tells_line (negsuc 8) before known = h ∙ rw t in
      (ap (λ (l : ToldLine). l.answer) e, ap (λ (l : ToldLine). l.words) e, ap (λ (l : ToldLine). l.known) e)

  line_own : sound_words before ≡ true → (decode_known known).ok ≡ true
      → tells_line n after known' ≡ line_told before (read_line_of (decode_known known).reader (machine_in before) line.now)
  unfolding told_line_of
  line_own t u = h ∙ rw (t, u)

  line_refused : (q : ℕ) → n ≡ negsuc q → (after ≡ before) × (known' ≡ known)
  line_refused q e = by (sound_words before) refl (decode_known known).ok refl
    where
      wrong : (sound_words before && (decode_known known).ok) ≡ false → (after ≡ before) × (known' ≡ known)
      wrong t = let o = line_others t in (o.1, o.2)

      by : (sound : Bool) → sound_words before ≡ sound → (ok : Bool) → (decode_known known).ok ≡ ok → (after ≡ before) × (known' ≡ known)
      by true t true u =
          let same = line_own t u in
          let r =
          refused_line_lem (decode_known known).reader (machine_in before) line q (sym (ap (λ (l : ToldLine). l.answer) same) ∙ e) in (
            ap (λ (l : ToldLine). l.words) same ∙ ap (λ (x : Machine). over (encode_of x) before) r.1 ∙ own_words before t,
            ap (λ (l : ToldLine). l.known) same ∙ ap encode_known r.0 ∙ sym (known_words known u),
          )
      by true t false u = wrong (rw (t, u))
      by false t ok u = wrong (rw t)

  pub line_on_words : LineOnWords before known line n after known'
  line_on_words =
      record {
        own = λ m c k f ek.
            let e = (sound_is m).1 c.sound in
            let d = known_told known k f ek in
            let r = read_line_of k m line.now in
            let same : tells_line n after known' ≡ line_told before r =
            line_own (carries_sound before m c) (ap (λ (x : DecodedKnown). x.ok) d)
            ∙ ap (λ (x : DecodedKnown). line_told before (read_line_of x.reader (machine_in before) line.now)) d
            ∙ ap (λ (x : Machine). line_told before (read_line_of k x line.now)) (carries_it before m c) in
            let laid = ap (λ (l : ToldLine). l.words) same in (
              r,
              λ κs. refl,
              ap (λ (l : ToldLine). l.answer) same,
              subst (λ (l : List ℤ). Carries l r.machine) (sym laid) (carried r.machine
                  (read_either (λ x. sound_of x ≡ true) k m line.now e (λ b. load_keeps m e b))
                  (read_either (λ x. Blanks x.queue) k m line.now c.blank
                  (λ b. blanks_kept m e c.blank (WordCall.load b))) before),
              laid,
              ap (λ (l : ToldLine). l.known) same,
            );
        others = λ either. line_others (wrong either);
        refused = line_refused;
      }
    where
      wrong : NoRecord before ⊎ NotKnown known → (sound_words before && (decode_known known).ok) ≡ false
      wrong (inl none) = rw (unsound_words before none)
      wrong (inr none) = by (sound_words before)
        where
          by : (sound : Bool) → (sound && (decode_known known).ok) ≡ false
          by true = nothing_known known none
          by false = refl

-- ---- the claim

pub every_call_from_c : EveryCallFromC
unfolding listing_at panel_listing
every_call_from_c =
    record {
      make = λ κs words words' p w xlo xhi ylo yhi n h. made_words _ words.now n words'.now h;
      line = λ κs words words' x y feed n h. on_words _ words.now n words'.now h;
      clockwise = λ κs words words' x y feed i j n h. on_words _ words.now n words'.now h;
      counterclockwise = λ κs words words' x y feed i j n h. on_words _ words.now n words'.now h;
      tick = λ κs words words' n h. on_words WordCall.tick words.now n words'.now h;
      hold = λ κs words words' n h. on_words WordCall.hold words.now n words'.now h;
      release = λ κs words words' n h. on_words WordCall.release words.now n words'.now h;
      stop = λ κs words words' n h. on_words WordCall.stop words.now n words'.now h;
      run = λ κs words words' budget out out' ticks ticks' n h. run_on_words words.now budget out out' n ticks'.now words'.now h;
      look = λ κs words then then' sums sums' ticks n h. look_on_words words.now ticks n then'.now sums'.now h;
      text = λ κs words words' known known' line n h. line_on_words words.now known.now line n words'.now known'.now h;
      start = λ κs words words' progress progress' p w xlo xhi ylo yhi n h. started _ n words'.now progress'.now h.0 h.1;
      fill = λ κs ws ws' ps ps' text out out' len len' n h k c. check_fills ws.now ps.now k c text out out' h;
      no_check = λ κs ws ws' ps ps' text out out' len len' n h none. no_check_fills ws.now ps.now none h;
      listing = λ κs words words' progress progress' p w xlo xhi ylo yhi n h pass text bytes last ws ps rows.
          from_words _ pass words'.now progress'.now h.0 h.1 text bytes last ws ps rows;
      panel_start = λ κs words words' panel panel' p w xlo xhi ylo yhi n h. panel_started _ n words'.now panel'.now h.0 h.1;
      panel_read = panel_reads;
      no_panel = no_panel_reads;
      panel_short = short_reads;
      panel_listing_lem = λ κs words words' panel panel' p w xlo xhi ylo yhi n h pass text left scratch bytes last ws ps rows.
          panel_from_words _ pass words'.now panel'.now h.0 h.1 text left scratch bytes last ws ps rows;
      panel_keeps = λ κs words words' panel panel' p w xlo xhi ylo yhi n h text left scratch bytes last ws ps rows.
          panel_kept _ words'.now panel'.now h.0 h.1 ws ps rows;
      panel_ends = λ κs words words' panel panel' p w xlo xhi ylo yhi n h calls more.
          panel_few _ words'.now panel'.now h.0 h.1 calls more;
    }
