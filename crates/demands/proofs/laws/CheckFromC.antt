-- The check from C is the check's own on the words of a sound bench and of a progress.
use Rattle.std.specs.Prelude.{◌≡◌, refl, true, false, List, [], ◌++◌, ℕ, zero, suc, ℤ, pos, take, Result, Ok, Err, ⊤}
use Rattle.std.proofs.Common.{sym, ap, subst, ◌∙◌, append_assoc}
use Rattle.std.specs.Borrow.{Bor, MutBor}
use Rattle.question.specs.declared.Question.{Question}
use Rattle.whole.specs.laws.Test.{both, joined, refuted}
use Rattle.settings.specs.declared.Settings.{Settings}
use Rattle.settings.specs.computed.Settings.{settings_no, ask_settings}
use Rattle.bench.specs.declared.Bench.{Bench}
use Rattle.bench.specs.computed.Calls.{make_with, make_of}
use Rattle.machine.specs.Machine.{machine_of}
use Rattle.machine.specs.computed.Calls.{make_with as machine_make_with, make_of as machine_make}
use Rattle.tally.specs.computed.Tally.{tally_from as tally_start}
use Rattle.job.specs.declared.Stage.{Stage}
use Rattle.job.specs.declared.Check.{Check}
use Rattle.job.specs.computed.Listing.{listing_of}
use Rattle.job.specs.computed.Check.{check_from, rest_at, rest_of}
use Rattle.job.specs.Check.{stage_over}
use Rattle.encoding.specs.Words.{encode_of, mark_word}
use Rattle.encoding.specs.computed.Words.{bench_read, sound_words}
use Rattle.encoding.specs.laws.Same.{same_true, same_words_lem}
use Rattle.encoding.specs.laws.Record.{machine_back, words_are, told_sound, sound_words_lem}
use Rattle.progress.specs.Progress.{encode_progress, check_in}
use Rattle.progress.specs.computed.Progress.{decode_progress}
use Rattle.calls.specs.Calls.{answer_number}
use Rattle.calls.specs.computed.Calls.{Told, tells, bench_made}
use Rattle.ccheck.specs.computed.Check.{start_progress, check_told, is_check, Hands, TellsFill}
use Rattle.ccheck.specs.Check.{Refuses}
use Rattle.ccheck.specs.laws.Check.{rows_told, refused_told}
use Rattle.ccheck.specs.laws.Start.{Told as CheckTold, start_told, start_lists, hands, fill_told}
use Rattle.demands.specs.Asked.{AllYes}
use Rattle.demands.specs.Bench.{settings_questions}
use Rattle.demands.specs.Texts.{FrontOf}
use Rattle.demands.specs.CheckFromC.{StartedWords, OwnFill, IsCheck, RowsOutToC}
use Rattle.demands.proofs.laws.Bench.{bench_is, settings_pass}

-- its words, and whether they are such
check_is : (ws ps : List ℤ) (k : Bench) → IsCheck ws ps k → (is_check ws ps ≡ true) × ((check_told ws ps).check ≡ check_in k ps)
unfolding is_check decode_progress
check_is ws ps k c =
    let e = (bench_is k).1 c.0 in
    let here = ap bench_read c.1 ∙ machine_back k e in
    (joined (ap sound_words c.1 ∙ sound_words_lem k e) (rw here (sym (same_words_lem c.2))), ap (λ (x : Bench). check_in x ps) here)

no_check_is : (ws ps : List ℤ) → ((k : Bench) → ¬ (IsCheck ws ps k)) → is_check ws ps ≡ false
unfolding is_check decode_progress
no_check_is ws ps none =
    refuted (is_check ws ps)
    (λ t.
    let b = both {a = sound_words ws} t in
    none (bench_read ws) (
      (bench_is (bench_read ws)).0 (told_sound ws b.0),
      words_are ws b.0,
      same_true ps (encode_progress (check_in (bench_read ws) ps)) b.1,
    ))

own_fill : {c : Check} (text : Bor (List ℕ)) (out out' : MutBor (List ℕ)) {n : ℤ} {len : ℕ} {ws' ps' : List ℤ}
    → Hands c text.now out.now n len ws' ps' out'.now → OwnFill c text out out' n len ws' ps'
own_fill text out out' {n} {len} h =
    (record { len = len; check = h.next }, λ κs. h.fills, h.over, refl, record { words = h.words; progress = h.progress })

-- fills from the words of a start: the check that they have come to, and what it has still to hand out
record Come (whole text bytes : List ℕ) (n : ℤ) (ws ps : List ℤ) : Type 0 where
  check : Check
  told : CheckTold ws ps check
  front : bytes ++ rest_of check text ≡ whole
  ended : n ≡ pos 1 → rest_of check text ≡ []

ended_rest : (g : Stage) (c : Check) (text : List ℕ) → pos 1 ≡ mark_word (stage_over g) → rest_at g c text ≡ []
ended_rest Stage.Header c text e = cc
ended_rest Stage.Lines c text e = cc
ended_rest Stage.Over c text e = refl

zero_one : (whole : List ℕ) → pos 0 ≡ pos 1 → whole ≡ []
zero_one whole e = cc

come : {text : List ℕ} {ws ps : List ℤ} (c : Check) → CheckTold ws ps c → {bytes : List ℕ} {n : ℤ} {ws' ps' : List ℤ}
    → RowsOutToC text ws ps bytes n ws' ps' → Come (rest_of c text) text bytes n ws' ps'
unfolding rest_of
come {text} c t RowsOutToC.none = record { check = c; told = t; front = refl; ended = zero_one (rest_of c text) }
come {text} c t (RowsOutToC.fill {bytes = bytes} {ws₁ = ws₁} before κs words words' progress progress' lent out out' len len' n'
    at_words at_progress is h) =
    let b = come c t before in
    let f = subst (λ (t : List ℕ). TellsFill words.now progress.now t out.now n' len'.now words'.now progress'.now
    out'.now) is h in
    let here = subst (λ (ws : List ℤ). CheckTold ws progress.now b.check) (sym at_words)
    (subst (λ (ps : List ℤ). CheckTold ws₁ ps b.check) (sym at_progress) b.told) in
    let g = hands here f in
    record {
      check = g.next;
      told = fill_told here f;
      front =
          append_assoc bytes (take len'.now out'.now) (rest_of g.next text)
          ∙ ap (λ (rest : List ℕ). bytes ++ rest) g.fills.bytes
          ∙ b.front;
      ended = λ one. ended_rest g.next.stage g.next text (sym one ∙ g.over);
    }

from_start : (s : Settings) → AllYes (settings_questions s) → (text bytes : List ℕ) (n : ℤ) (ws ps : List ℤ)
    → RowsOutToC text (encode_of (make_of s).bench) (start_progress s) bytes n ws ps → FrontOf (listing_of s text) bytes (n ≡ pos 1)
from_start s pass text bytes n ws ps rows =
    let k = come (check_from (make_of s).bench) (start_told s) rows in
    record { rest = rest_of k.check text; front = k.front ∙ start_lists s ((settings_pass s).1 pass) text; all = k.ended }

-- the bench of the machine that a make answers
pub made_bench : (s : Settings) → ((make_of s).answer ≡ (machine_make s).answer) × ((make_of s).bench ≡ (machine_make s).machine.bench)
unfolding make_of machine_make machine_of
made_bench s = by (ask_settings s)
  where
    by : (asked : Result ⊤ Question) → ((make_with s asked).answer ≡ (machine_make_with s asked).answer)
        × ((make_with s asked).bench ≡ (machine_make_with s asked).machine.bench)
    by (Ok passed) = (refl, refl)
    by (Err q) = (refl, refl)

pub started : (s : Settings) (n : ℤ) (ws ps : List ℤ) → tells n ws ≡ bench_made s → ps ≡ start_progress s → StartedWords s n ws ps
unfolding check_from tally_start
started s n ws ps made progress =
    let same = made_bench s in (
      machine_make s,
      refl,
      ap (λ (t : Told). t.answer) made ∙ ap answer_number same.0,
      check_from (make_of s).bench,
      ap check_from same.1,
      record { words = ap (λ (t : Told). t.words) made; progress = progress },
    )

pub from_words : (s : Settings) → AllYes (settings_questions s) → {n : ℤ} (ws ps : List ℤ) → tells n ws ≡ bench_made s
    → ps ≡ start_progress s
    → (text bytes : List ℕ) (last : ℤ) (ws' ps' : List ℤ) → RowsOutToC text ws ps bytes last ws' ps'
    → FrontOf (listing_of s text) bytes (last ≡ pos 1)
from_words s pass ws ps made progress text bytes last ws' ps' rows =
    from_start s pass text bytes last ws' ps'
    (subst (λ (l : List ℤ). RowsOutToC text l (start_progress s) bytes last ws' ps') (ap (λ (t : Told). t.words) made)
    (subst (λ (l : List ℤ). RowsOutToC text ws l bytes last ws' ps') progress rows))

-- ---- a fill, whatever the words

module _ (ws ps : List ℤ) where
  pub check_fills : (k : Bench) → IsCheck ws ps k → (text : Bor (List ℕ)) (out out' : MutBor (List ℕ)) {n : ℤ} {len : ℕ} {ws' ps' : List ℤ}
      → TellsFill ws ps text.now out.now n len ws' ps' out'.now → OwnFill (check_in k ps) text out out' n len ws' ps'
  check_fills k c text out out' {n} {len} {ws'} {ps'} h =
      let is = check_is ws ps k c in
      own_fill text out out'
      (subst (λ (c : Check). Hands c text.now out.now n len ws' ps' out'.now) is.1 (rows_told is.0 h))

  pub no_check_fills : ((k : Bench) → ¬ (IsCheck ws ps k)) → {text old new : List ℕ} {n : ℤ} {len : ℕ} {ws' ps' : List ℤ}
      → TellsFill ws ps text old n len ws' ps' new → Refuses ws ps old n len ws' ps' new
  no_check_fills none h = refused_told (no_check_is ws ps none) h
